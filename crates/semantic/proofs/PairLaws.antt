-- The rows of pairs add up to the definition's rows. Assumes nothing.
use mathlib.Core.Bool.{false}
use mathlib.Core.Logic.{◌⊎◌, inl, inr}
use mathlib.Core.Path.{◌≡◌, refl, ap, ap₂}
use mathlib.Core.List.{List, [], ◌∷◌, map}
use Prim.Native.Nat.{ℕ}
use native.Mathlib.Omega.{arith}
use lib.ListN.{length}
use Rattle.std.specs.Prelude.{Option, is_some}
use Rattle.as5506.specs.Lists.{each, first_of}
use Rattle.as5506.specs.Tables.{Tables, source, destination, x_feat}
use Rattle.as5506.specs.Tables.{Side as TheSide}
use Rattle.as5506.specs.Names.{Comparison}
use Rattle.as5506.specs.Tracing.{Chain, Pair, chains_by, chains, reach, row_of, pair_rows, zip_as}
use Rattle.as5506.specs.Layout.{traced_block, row_numbers}
use Rattle.output.specs.declared.blocks.Blocks.{Blocks}
use Rattle.output.specs.Blocks.{Wrote}
use Rattle.output.proofs.Writing.{wrote_as}
use Rattle.trace.specs.Ends.{the_end, row_along, rows_at_end, rows_behind}
use Rattle.semantic.specs.declared.Start.{Start}
use Rattle.semantic.specs.declared.Start.TheVariants.{Child, Owner}
use Rattle.semantic.specs.Rows.{start_on, component_of, limit_of, pair_on, rows_all, rows_from}
use Rattle.semantic.specs.declared.Ends.{Ends}
use Rattle.semantic.specs.declared.Ends.TheVariants.{Faulty, Nothing}

-- ---- one pair

module _ (same : Comparison) (k : ℕ) (m : Tables) (x : ℕ) where
  reach-is : (s : TheSide) (a : Start) → reach same m s k (start_on m s x a) ≡ chains same m s (limit_of k a) (component_of a) (x_feat m s x)
  unfolding chains chains_by
  reach-is s (Child i) = refl
  reach-is s (Owner i) = refl

  pair-rows : (a b : Start)
      → pair_rows same m k x (pair_on m x source a b)
      ≡ rows_behind same m source x (limit_of k b) (the_end (component_of b) (x_feat m destination x) []) (x ∷ []) (chains same m source (limit_of k a) (component_of a) (x_feat m source x))
  unfolding rows_behind rows_at_end pair_rows pair_on row_along row_of
  pair-rows a b = ap₂ (λ (s d : List Chain). each (λ e. map (row_of m x e) d) s) (reach-is source a) (reach-is destination b)

  pub pair_written : (a b : Start) {ca fa la cb fb lb : ℕ} {p p' : List ℕ} {out out' : Blocks row_numbers} {q : Option (Unit {0})}
      → Wrote (traced_block m) (rows_behind same m source x lb (the_end cb fb p') p (chains same m source la ca fa)) out q out'
      → ca ≡ component_of a → fa ≡ x_feat m source x → p ≡ x ∷ [] → la ≡ limit_of k a
      → cb ≡ component_of b → fb ≡ x_feat m destination x → p' ≡ [] → lb ≡ limit_of k b
      → Wrote (traced_block m) (pair_rows same m k x (pair_on m x source a b)) out q out'
  pair_written a b v e₁ e₂ e₃ e₄ e₅ e₆ e₇ e₈ = wrote_as v (rw (e₁, e₂, e₃, e₄, e₅, e₆, e₇, e₈) (pair-rows a b))

  -- no destination child: no row
  pub all_barren : (l r : List ℕ) {o : Option ℕ} → o ≡ first_of r → is_some o ≡ false → rows_all same k m x l r ≡ []
  all_barren [] r e h = refl
  all_barren (i ∷ l) [] e h = rw (all_barren l [] e h)
  all_barren (i ∷ l) (a ∷ r) e h = cc

  -- an end has no feature, or neither has a subcomponent that is traced
  pub rows_none : (e : Ends) → (e ≡ Faulty) ⊎ (e ≡ Nothing) → rows_from same k m x e ≡ []
  rows_none e (inl h) = rw h
  rows_none e (inr h) = rw h

-- ---- two lists, pair by pair

module _ (f : ℕ → ℕ → Pair) where
  -- a list is at its end
  pub zip_end : (l k : List ℕ) → (l ≡ []) ⊎ (k ≡ []) → zip_as f l k ≡ []
  zip_end [] k h = refl
  zip_end (a ∷ l) [] h = refl
  zip_end (a ∷ l) (b ∷ k) (inl e) = absurd (omega (arith, ap length e))
  zip_end (a ∷ l) (b ∷ k) (inr e) = absurd (omega (arith, ap length e))

  pub zip_next : {l k : List ℕ} {a b : ℕ} {l' k' : List ℕ} → l ≡ a ∷ l' → k ≡ b ∷ k' → zip_as f l k ≡ f a b ∷ zip_as f l' k'
  zip_next e d = rw (e, d)
