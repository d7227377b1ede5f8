-- The call's answer and output, case by case. Assumes nothing.
use mathlib.Core.Bool.{Bool, true, false}
use mathlib.Core.Path.{◌≡◌, refl, sym, ap, ap₂, ◌∙◌, subst}
use mathlib.Core.List.{List, [], ◌∷◌}
use Prim.Native.Nat.{ℕ, suc, ◌+◌, ◌*◌, ◌/◌, ◌≤◌, ◌<◌}
use native.Mathlib.Omega.{arith}
use lib.Dec.{T}
use lib.ListN.{length}
use borrow.Author.Tests.{lt-ltb, le-ltb}
use Rattle.std.specs.Prelude.{Option, Some, Result, Ok, Err, ok_or, is_err, IsErrAnd}
use Rattle.as5506.specs.Lists.{is_nil, each, zeros}
use Rattle.as5506.specs.declared.Refusal.{Refusal as Told}
use Rattle.as5506.specs.Tables.{Tables, missing, letter_u, letter_e, ref}
use Rattle.as5506.specs.Answers.{Refusal, Answer, given, refused, refusal, nowhere, told, handed}
use Rattle.as5506.specs.Refusals.{faults, accepted}
use Rattle.as5506.specs.Groups.{Expansion, depth_limit, expand_feature_group}
use Rattle.as5506.specs.Listing.{expansion_within, expand_on, expand_answer}
use Rattle.as5506.specs.Layout.{feature_numbers, feature_block, expansion_numbers}
use Rattle.as5506.proofs.Laws.{zeros-length}
use Rattle.as5506.proofs.Answers.{hands-refused, came-given, came-refused, passed, none-told, some-told}
use Rattle.lent.specs.Printed.{Printed}
use Rattle.lent.proofs.Pieces.{printed-some, printed-none}
use Rattle.lent.proofs.Answered.{given-in, refused-in, keeps, clears}
use Rattle.tables.specs.Answer.{Checked, checked}
use Rattle.tables.proofs.Answers.{accepted-is, refused-is}
use Rattle.tables.proofs.Facts.{facts}
use Rattle.links.specs.Links.{link_of, LinksFit, LinkedInto}
use Rattle.links.specs.Walk.{Groups, groups_in, visit_link}
use Rattle.links.proofs.Range.{expansion-short}
use Rattle.links.proofs.Tables.{into-linked}
use Rattle.links.proofs.Walk.{linked}
use Rattle.sink.specs.declared.Purpose.TheVariants.{All}
use Rattle.sink.specs.Take.{Held, taken}
use Rattle.sink.proofs.Blocks.{blocks-length}
use Rattle.group_walk.specs.Run.{take_all, going, run, state_of}
use Rattle.group_walk.proofs.Laws.{run-done, run-over}
use Rattle.feature_group.specs.declared.Expanded.{Expanded}
use Rattle.feature_group.specs.Answer.{expanded, answer_for, Gives, ExpandedInto}
use Rattle.feature_group.proofs.Blocks.{features-printed}

-- what is refused: e is handed over, and z answers it
gives-refused : (a : Answer Expansion) (r : Refusal) → a ≡ refused r → (e : Told) → e ≡ told r → (z : Result Expanded Told) → IsErrAnd z (λ y. y ≡ e)
    → (out out' : List ℕ) → Gives a out z out'
gives-refused a r q e t z h out out' =
    record { answer = hands-refused expanded z a r q e (passed z e h) t; in-features = refused-in expansion_numbers a out out' r q }

-- ---- THE ORDER 13, 11

module _ (room : ℕ) (x : Expansion) where
  within-13 : 65536 < x.visits → expansion_within room x ≡ refused (refusal 13 nowhere)
  unfolding expansion_within
  within-13 h = rw (lt-ltb 65536 x.visits h)

  within-11 : x.visits ≤ 65536 → room < length x.features → expansion_within room x ≡ refused (refusal 11 nowhere)
  unfolding expansion_within
  within-11 h i = rw (le-ltb 65536 x.visits h, lt-ltb room (length x.features) i)

  within-given : x.visits ≤ 65536 → length x.features ≤ room → expansion_within room x ≡ given x
  unfolding expansion_within
  within-given h i = rw (le-ltb 65536 x.visits h, le-ltb room (length x.features) i)

-- ---- the walk: h is carried at first, t at its end, and v is its answer

module _ (m : Tables) (g : Groups) (to : ℕ) (inverse : Bool) (h t : Held) (r : Option ℕ) where
  abbrev expansion : Expansion
  expansion = visit_link g (suc depth_limit) to inverse []

  abbrev the_answer : Answer Expansion
  the_answer = expansion_within (length h.out.holds / feature_numbers) expansion

  -- no names are in front
  module _ (names : List ℕ) (none : names ≡ []) (walks : state_of r t ≡ run (taken All m) (going h 0) (visit_link g (suc depth_limit) to inverse names)) where
    ends : state_of r t ≡ run (taken All m) (going h 0) expansion
    ends = walks ∙ ap (λ (l : List ℕ). run (taken All m) (going h 0) (visit_link g (suc depth_limit) to inverse l)) none

    -- 13: too many visits
    pub writes_13 : (s : Told) → s ≡ told (refusal 13 nowhere) → (e : Told) → ok_or r s ≡ Err e → (z : Result Expanded Told) → IsErrAnd z (λ y. y ≡ e)
        → (out' : List ℕ) → Gives the_answer h.out.holds z out'
    writes_13 s q e f z i out' =
        let n = none-told r s e f in
        let l = run-over (taken All m) t h 0 expansion (ap (λ (v : Option ℕ). state_of v t) (sym n.0) ∙ ends) in
        gives-refused the_answer (refusal 13 nowhere) (within-13 (length h.out.holds / feature_numbers) expansion (omega (arith, l))) e (n.1 ∙ q) z i h.out.holds out'

    module _ (s₁ : Told) (v : ℕ) (f : ok_or r s₁ ≡ Ok v) (start : h.out.used ≡ Some 0) where
      done : (t ≡ take_all (taken All m) expansion.features h) × (v ≡ 0 + expansion.visits) × (0 + expansion.visits ≤ 65536)
      done = run-done (taken All m) v t h 0 expansion (ap (λ (v : Option ℕ). state_of v t) (sym (some-told r s₁ v f)) ∙ ends)

      written : Printed (each feature_block expansion.features) h.out.holds t.out.used t.out.holds
      written = features-printed m expansion.features t h done.0 start

      size : length (each feature_block expansion.features) ≡ length expansion.features * feature_numbers
      size = blocks-length expansion.features (expansion-short g to inverse)

      -- 11: the features do not fit
      pub writes_11 : (s : Told) → s ≡ told (refusal 11 nowhere) → (e : Told) → ok_or t.out.used s ≡ Err e → (z : Result Expanded Told) → IsErrAnd z (λ y. y ≡ e)
          → (out' : List ℕ) → Gives the_answer h.out.holds z out'
      writes_11 s q e f z i out' =
          let n = none-told t.out.used s e f in
          gives-refused the_answer (refusal 11 nowhere)
          (within-11 (length h.out.holds / feature_numbers) expansion (omega (arith, done.2)) (omega (arith, printed-none written n.0, size))) e (n.1 ∙ q) z i h.out.holds out'

      -- they do
      pub writes_all : (s : Told) (k : ℕ) → ok_or t.out.used s ≡ Ok k → (out' : List ℕ) → out' ≡ t.out.holds
          → Gives the_answer h.out.holds (Ok (record { features = k / feature_numbers; visits = v })) out'
      unfolding expansion_numbers
      writes_all s k l out' e =
          let fit = printed-some written (some-told t.out.used s k l) in
          let n : k / feature_numbers ≡ length expansion.features = omega (arith, fit.1, size) in
          let a : the_answer ≡ given expansion = within-given (length h.out.holds / feature_numbers) expansion (omega (arith, done.2)) (omega (arith, fit.0, size)) in
          record {
            answer = ap₂ (λ n v. Ok (record { features = n; visits = v })) n (omega (arith, done.1)) ∙ sym (ap (handed expanded) a);
            in-features = given-in expansion_numbers the_answer h.out.holds out' expansion a fit.0 (e ∙ fit.2);
          }

-- ---- the tables: q is what the checks answer

on_none : (room : ℕ) (x : Expansion) (fs : List Refusal) → T (is_nil fs) → expand_on room x fs ≡ expansion_within room x
unfolding expand_on
on_none room x [] t = refl
on_none room x (r ∷ fs) t = absurd t

pub few_types : (m : Tables) (q : Checked) → q ≡ checked (faults m) → q ≡ Ok tt → length m.u / 9 ≤ 4096
few_types m q e f = (facts m (accepted-is m q e f)).few letter_u

module _ (m : Tables) (from name : ℕ) (inverse : Bool) (out : List ℕ) (q : Checked) (e : q ≡ checked (faults m)) where
  -- they are not accepted
  pub tables_refused : (r : Told) → q ≡ Err r → (z : Result Expanded Told) → IsErrAnd z (λ y. y ≡ r) → (out' : List ℕ) → Gives (answer_for m out from name inverse) out z out'
  unfolding expand_answer expand_on
  tables_refused r f z h out' =
      let first = refused-is (faults m) q e r f in
      gives-refused (answer_for m out from name inverse) first.0
      (ap (expand_on (length out / feature_numbers) (expand_feature_group m from name inverse)) first.2) r first.3 z h out out'

  -- they are
  module _ (f : q ≡ Ok tt) where
    ok : T (accepted m)
    ok = accepted-is m q e f

    -- arrays have a place for the link of each row
    links-fit : LinksFit m.u m.e (zeros 4096) (zeros 4096) (zeros 4096)
    links-fit = let few = (facts m ok).few in record { fits-nested = few letter_e; fits-extends = few letter_u; fits-inverse = few letter_u }

    module _ (nested extends inverses : List ℕ) (into : LinkedInto m (zeros 4096) (zeros 4096) (zeros 4096) nested extends inverses) (to : ℕ)
        (i : to ≡ link_of m from (ref missing name missing)) where
      same-expansion : visit_link (groups_in m.e nested extends inverses) (suc depth_limit) to inverse [] ≡ expand_feature_group m from name inverse
      unfolding expand_feature_group
      same-expansion =
          ap (λ (t : ℕ). visit_link (groups_in m.e nested extends inverses) (suc depth_limit) t inverse []) i
          ∙ linked m nested extends inverses (into-linked m _ _ _ _ _ _ links-fit into) (few_types m q e f) (suc depth_limit) from (ref missing name missing) inverse []

      same_answer : expansion_within (length out / feature_numbers) (visit_link (groups_in m.e nested extends inverses) (suc depth_limit) to inverse []) ≡ answer_for m out from name inverse
      unfolding expand_answer accepted
      same_answer =
          ap (expansion_within (length out / feature_numbers)) same-expansion
          ∙ sym (on_none (length out / feature_numbers) (expand_feature_group m from name inverse) (faults m) ok)

      pub expands : (z : Result Expanded Told) (out' : List ℕ) → Gives (expansion_within (length out / feature_numbers) (visit_link (groups_in m.e nested extends inverses) (suc depth_limit) to inverse [])) out z out'
          → Gives (answer_for m out from name inverse) out z out'
      expands z out' h = subst (λ (a : Answer Expansion). Gives a out z out') same_answer h

-- ---- THE CALL: out is the output at entry, out₁ the cleared one, out₂ what was written into it

module _ (m : Tables) (out : List ℕ) (from name : ℕ) (inverse : Bool) (out₁ out₂ : List ℕ) (z : Result Expanded Told) (e : out₁ ≡ zeros (length out))
    (g : Gives (answer_for m out₁ from name inverse) out₁ z out₂) where
  abbrev whole_answer : Answer Expansion
  whole_answer = answer_for m out from name inverse

  size-kept : length out₁ ≡ length out
  size-kept = zeros-length out₁ (length out) e

  gives : Gives whole_answer out₁ z out₂
  gives = subst (λ (n : ℕ). Gives (expand_answer (n / feature_numbers) m from name inverse) out₁ z out₂) size-kept g

  pub given_call : is_err z ≡ false → ExpandedInto m out from name inverse z out₂
  given_call h =
      record {
        answer = gives.answer;
        written-features = keeps expansion_numbers whole_answer out₁ out₂ (length out) (came-given expanded whole_answer (ap is_err (sym gives.answer) ∙ h)) e gives.in-features;
      }

  pub refused_call : is_err z ≡ true → length out₂ ≡ length out₁ → (out₃ : List ℕ) → out₃ ≡ zeros (length out₂) → ExpandedInto m out from name inverse z out₃
  refused_call h s out₃ u =
      record {
        answer = gives.answer;
        written-features = u ∙ ap zeros (s ∙ size-kept) ∙ clears expansion_numbers whole_answer (length out) (came-refused expanded whole_answer (ap is_err (sym gives.answer) ∙ h));
      }
