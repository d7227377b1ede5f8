-- The answers and outputs of the two calls, case by case. Assumes nothing.
use mathlib.Core.Bool.{false}
use mathlib.Core.Path.{◌≡◌, refl, sym, ap, ap₂, ◌∙◌}
use mathlib.Core.List.{List, [], ◌∷◌}
use Prim.Native.Nat.{ℕ, ◌≤◌}
use lib.Dec.{T}
use lib.ListN.{length}
use Rattle.std.specs.Prelude.{Result, Ok, Err, is_err}
use Rattle.as5506.specs.Lists.{is_nil, zeros}
use Rattle.as5506.specs.declared.Refusal.{Refusal as Told}
use Rattle.as5506.specs.Tables.{Tables, letter_c, letter_m, count}
use Rattle.as5506.specs.Answers.{Refusal, Answer, given, refused, handed}
use Rattle.as5506.specs.Refusals.{faults, accepted}
use Rattle.as5506.specs.Modes.{modes_counted, modes_on, modes_answer, Selection, selection_on, selection_answer}
use Rattle.as5506.proofs.Laws.{zeros-length}
use Rattle.as5506.proofs.Answers.{is_given, came-given}
use Rattle.lent.proofs.Answered.{refused-in, keeps}
use Rattle.tables.specs.Answer.{Checked, checked}
use Rattle.tables.proofs.Answers.{accepted-is, refused-is}
use Rattle.tables.proofs.Facts.{facts}
use Rattle.operation_modes.specs.declared.Modes.{Modes}
use Rattle.operation_modes.specs.declared.Selected.{Selected}
use Rattle.operation_modes.specs.Answer.{modes_told, selected, selected_rows, selected_name, Selects, SelectedInto}

-- ---- tables that are accepted, and tables that are not

module _ (m : Tables) where
  pub counted-answer : T (accepted m) → modes_answer m ≡ given (modes_counted m)
  unfolding modes_answer modes_on accepted
  counted-answer ok = go (faults m) ok
    where
      go : (fs : List Refusal) → T (is_nil fs) → modes_on m fs ≡ given (modes_counted m)
      go [] t = refl
      go (r ∷ fs) t = absurd t

  pub selected-answer : (a b k : ℕ) → T (accepted m) → selection_answer a b m k ≡ selection_on a b m k []
  unfolding selection_answer selection_on accepted
  selected-answer a b k ok = go (faults m) ok
    where
      go : (fs : List Refusal) → T (is_nil fs) → selection_on a b m k fs ≡ selection_on a b m k []
      go [] t = refl
      go (r ∷ fs) t = absurd t

  -- what the checks answered
  module _ (q : Checked) (e : q ≡ checked (faults m)) where
    pub few_components : q ≡ Ok tt → count m letter_c ≤ 4096
    few_components f = (facts m (accepted-is m q e f)).few letter_c

    pub few_modes : q ≡ Ok tt → count m letter_m ≤ 4096
    few_modes f = (facts m (accepted-is m q e f)).few letter_m

    pub count_refused : (r : Told) → q ≡ Err r → Err r ≡ handed modes_told (modes_answer m)
    unfolding modes_answer modes_on
    count_refused r f = let s = refused-is (faults m) q e r f in ap Err s.3 ∙ sym (ap (λ (fs : List Refusal). handed modes_told (modes_on m fs)) s.2)

    pub count_given : q ≡ Ok tt → (z : Modes) → z ≡ modes_told (modes_counted m) → Ok z ≡ handed modes_told (modes_answer m)
    count_given f z h = ap Ok h ∙ sym (ap (handed modes_told) (counted-answer (accepted-is m q e f)))

    pub select_given : q ≡ Ok tt → (a b k : ℕ) → selection_answer a b m k ≡ selection_on a b m k []
    select_given f a b k = selected-answer a b k (accepted-is m q e f)

    module _ (k : ℕ) (rows name : List ℕ) where
      abbrev wanted : Answer Selection
      wanted = selection_answer (length rows) (length name) m k

      pub select_refused : (r : Told) → q ≡ Err r → (z : Result Selected Told) → z ≡ Err r → (rows' name' : List ℕ) → Selects wanted rows name z rows' name'
      unfolding selection_answer selection_on
      select_refused r f z g rows' name' =
          let s = refused-is (faults m) q e r f in
          let i : wanted ≡ refused s.0 = ap (selection_on (length rows) (length name) m k) s.2 in
          record {
            answer = g ∙ ap Err s.3 ∙ sym (ap (handed selected) i);
            in_rows = refused-in selected_rows wanted rows rows' s.0 i;
            in-name = refused-in selected_name wanted name name' s.0 i;
          }

-- ---- THE CALL: rows and name are the outputs at entry, rows₁ and name₁ the cleared ones, rows₂ and name₂ what was written into them

module _ (m : Tables) (k : ℕ) (rows name rows₁ name₁ : List ℕ) (e : rows₁ ≡ zeros (length rows)) (f : name₁ ≡ zeros (length name)) (z : Result Selected Told) (rows₂ name₂ : List ℕ)
    (s : Selects (selection_answer (length rows₁) (length name₁) m k) rows₁ name₁ z rows₂ name₂) where
  abbrev answer : Answer Selection
  answer = selection_answer (length rows) (length name) m k

  same_answer : selection_answer (length rows₁) (length name₁) m k ≡ answer
  same_answer = ap₂ (λ (a b : ℕ). selection_answer a b m k) (zeros-length rows₁ (length rows) e) (zeros-length name₁ (length name) f)

  told-answer : z ≡ handed selected answer
  told-answer = s.answer ∙ ap (handed selected) same_answer

  pub given_call : is_err z ≡ false → SelectedInto m k rows name z rows₂ name₂
  given_call i =
      let g : T (is_given answer) = came-given selected answer (ap is_err (sym told-answer) ∙ i) in
      record {
        answer = told-answer;
        written-rows = keeps selected_rows answer rows₁ rows₂ (length rows) g e (rw same_answer at s.in_rows);
        written-name = keeps selected_name answer name₁ name₂ (length name) g f (rw same_answer at s.in-name);
      }
