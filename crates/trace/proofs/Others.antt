-- WHAT CALLERS GET, for any tables: found children and steps ask for names, C and X alone, so all models that have these give the same. Assumes nothing.
use mathlib.Core.Bool.{Bool, true, false}
use mathlib.Core.Path.{◌≡◌, refl, ap}
use mathlib.Core.List.{List, [], ◌∷◌, map}
use Prim.Native.Nat.{ℕ}
use Rattle.as5506.specs.Lists.{keep, has}
use Rattle.as5506.specs.Tables.{Tables, Side, rows_naming, name_of, x_sub, connections_of, children_of}
use Rattle.as5506.specs.Names.{Comparison, bracket}
use Rattle.as5506.specs.Tracing.{is_named, is_element, or_elements, found_children, leads, step_to, steps_over, steps}
use Rattle.as5506.proofs.Laws.{all-of, each_same}
use Rattle.lent.specs.Model.{wiring_of}

module _ (same : Comparison) (m : Tables) where
  -- a model of names, components and connections alone
  abbrev w : Tables
  w = wiring_of m

  elements-seen : (b : Bool) (c : ℕ) (name : List ℕ) (l : List ℕ) → or_elements b w c name l ≡ or_elements b m c name l
  unfolding or_elements is_element rows_naming
  elements-seen true c name [] = refl
  elements-seen false c name [] = refl
  elements-seen true c name (i ∷ is) = refl
  elements-seen false c name (i ∷ is) = refl

  pub found-seen : (c : ℕ) (name : List ℕ) → found_children same w c name ≡ found_children same m c name
  unfolding found_children is_named rows_naming
  found-seen c name = elements-seen (has bracket name) c name (keep (is_named same m name) (children_of m c))

  over-seen : (s : Side) (c x : ℕ) → steps_over same w s c x ≡ steps_over same m s c x
  unfolding steps_over
  over-seen s c x = ap (map (step_to m s x)) (found-seen c (name_of m (x_sub m s x)))

  pub steps-seen : (s : Side) (c f : ℕ) → steps same w s c f ≡ steps same m s c f
  unfolding steps leads rows_naming
  steps-seen s c f =
      let l : List ℕ = keep (leads same m s (name_of m f)) (connections_of m c) in
      each_same (steps_over same w s c) (steps_over same m s c) l (all-of (λ x. steps_over same w s c x ≡ steps_over same m s c x) (over-seen s c) l)
