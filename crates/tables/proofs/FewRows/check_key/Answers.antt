-- `tables::FewRows::check_key` meets its contract: the rows with the key of an earlier one are the definition's clashes. Assumes nothing.
use Rattle.std.proofs.Common.{◌≡◌, sym, refl, ap, ◌∙◌, ℕ, Bool, List, map, rules}
use Rattle.lent.specs.Model.{model}
use Rattle.as5506.specs.Answers.{refusal, row}
use Rattle.as5506.specs.Refusals.{same_key, clashes}
use Rattle.as5506.specs.Lists.{any_of, up_to}
use Rattle.as5506.specs.Tables.{count}
use Rattle.as5506.proofs.Keys.{clashing, clashes-from}
use Rattle.tables.specs.Answer.{checked}
use Rattle.tables.specs.Rule.{number_of}
use Rattle.tables.specs.Letter.{letter_of}
use Rattle.tables.specs.Rows.{Tests}
use Rattle.tables.proofs.Scans.{any-earlier}
use Rattle.tables.proofs.FewRows.check_key.Goals as goal

pub returns : goal.returns
unfolding clashes
returns g c =
    λ key_of h.
    let l = letter_of c.args.letter in
    c.check_rows.ensures (clashing key_of) (record { tests = λ a r p. (let q : (test : ℕ → Bool) → Tests (goal.F-post g c.args.same a) test → r ≡ any_of test (up_to a.i) = search (rules, p) in q) (λ j. same_key (key_of a.i) (key_of j)) (record { tests = λ b s e. h.compares a b s e }) ∙ any-earlier key_of (λ j. same_key (key_of a.i) (key_of j)) (key_of a.i) (λ j. refl) a.i })
    ∙ ap (λ (is : List ℕ). checked (map (λ i. refusal (number_of c.args.rule) (row l i)) is)) (sym (clashes-from key_of 0 (count (model c.args.self.now.m.now) l)))
