-- Laws of the steps: what one row of X adds, what is behind a step, that they are the definition's, and how chains begin by them. Assumes nothing.
use mathlib.Core.Bool.{true, false}
use mathlib.Core.Path.{◌≡◌, refl, sym, ap, ◌∙◌}
use mathlib.Core.List.{List, [], ◌∷◌}
use Prim.Native.Nat.{ℕ, zero, suc, ◌+◌, ◌≤◌, ◌<◌}
use native.Mathlib.Nat.{sub-zero}
use native.Mathlib.Numerals.{sub-one}
use native.Mathlib.Omega.{arith}
use lib.Dec.{eqb}
use Rattle.std.specs.Prelude.{Option, Some, None}
use Rattle.as5506.specs.Lists.{up_to, each}
use Rattle.as5506.specs.Tables.{name_of, rows_naming, x_count, x_owner, x_feat}
use Rattle.as5506.specs.Tracing.{Step as TheStep, leads, steps_over, steps, stop, grow, chains_by, chains}
use Rattle.as5506.proofs.Scans.{keep-hit, keep-miss, keep-done, keep-both}
use Rattle.child_links.specs.Trees.{same_in}
use Rattle.children.specs.declared.Children.{Children}
use Rattle.children.specs.Found.{children_left}
use Rattle.trace.specs.declared.step.Step.{Step}
use Rattle.trace.specs.declared.step.Steps.{Steps}
use Rattle.trace.specs.Steps.{tables_in, side_in, is_step, found_over, steps_from, steps_behind, after_step, chains_from, chains_over, Begins}

module _ (q : Steps) where
  abbrev over : List ℕ → List TheStep
  over l = each (steps_over (same_in q.tree.now) (tables_in q) (side_in q) q.component) l

  -- ---- the steps from a row on

  pub steps_end : (i : ℕ) → x_count (tables_in q) ≤ i → steps_from q i ≡ []
  unfolding steps_from
  steps_end i h = ap over (keep-done (is_step q) i (x_count (tables_in q)) h)

  -- the row is no step's, or leads to no child
  pub steps_miss : (i : ℕ) → i < x_count (tables_in q) → is_step q i ≡ false → steps_from q i ≡ steps_from q (i + 1)
  unfolding steps_from
  steps_miss i h e = ap over (keep-miss (is_step q) i (x_count (tables_in q)) h e)

  pub steps_bare : (i : ℕ) → i < x_count (tables_in q) → is_step q i ≡ true → found_over q i ≡ [] → steps_from q i ≡ steps_from q (i + 1)
  unfolding steps_from steps_over
  steps_bare i h e k = ap over (keep-hit (is_step q) i (x_count (tables_in q)) h e) ∙ rw k

  pub steps_hit : (i j f : ℕ) (c d : Children) → i < x_count (tables_in q) → is_step q i ≡ true → children_left c ≡ found_over q i → children_left c ≡ j ∷ children_left d
      → f ≡ x_feat (tables_in q) (side_in q) i → steps_from q i ≡ after_step q (Some (record { row = i; child = j; feature = f; others = d }))
  unfolding steps_from steps_over steps_behind
  steps_hit i j f c d h e k n g = ap over (keep-hit (is_step q) i (x_count (tables_in q)) h e) ∙ rw (sym k ∙ n, g) refl

  -- ---- the steps behind one

  pub behind_next : (st : Step) (i : ℕ) (d : Children) → children_left st.others ≡ i ∷ children_left d
      → steps_behind q st ≡ after_step q (Some (record { row = st.row; child = i; feature = st.feature; others = d }))
  unfolding steps_behind
  behind_next st i d e = rw e refl

  pub behind_last : (st : Step) → children_left st.others ≡ [] → steps_behind q st ≡ steps_from q (st.row + 1)
  unfolding steps_behind
  behind_last st e = rw e refl

  -- ---- THE STEPS FROM THE FIRST ROW ON ARE THE DEFINITION'S

  pub steps-from-start : steps_from q 0 ≡ steps (same_in q.tree.now) (tables_in q) (side_in q) q.component q.feature
  unfolding steps_from is_step steps rows_naming
  steps-from-start =
      rw (sub-zero (x_count (tables_in q)))
      (ap over (sym (keep-both (leads (same_in q.tree.now) (tables_in q) (side_in q) (name_of (tables_in q) q.feature)) (λ i. eqb (x_owner (tables_in q) i) q.component) (up_to (x_count (tables_in q))))))

  -- ---- how chains begin

  chains-grow : (k : ℕ) → chains_from q (suc k) ≡ grow (stop q.component q.feature) (chains_over q k) (steps_from q 0)
  unfolding chains chains_by
  chains-grow k = ap (grow _ _) (sym steps-from-start)

  pub begins_none : (k : ℕ) → k ≡ 0 → Begins q k None
  unfolding chains chains_by
  begins_none k e = rw e

  pub begins : (k : ℕ) → (k ≡ 0 → ⊥) → (r : Option Step) → steps_from q 0 ≡ after_step q r → Begins q k r
  begins zero h r e = absurd (h refl)
  begins (suc k) h None e = chains-grow k ∙ rw e
  begins (suc k) h (Some st) e = (omega arith, chains-grow k ∙ rw e (ap (λ n. each (chains_over q n) (after_step q (Some st))) (sym (sub-one (suc k)))))
