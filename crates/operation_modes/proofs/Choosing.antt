-- The selection at a number, one component after the other of those below `end`, where each has the modes `modes`. Assumes nothing.
use mathlib.Core.Path.{◌≡◌, sym, ap, ap₂, ◌∙◌, subst}
use mathlib.Core.List.{List, ◌∷◌}
use Prim.Native.Nat.{ℕ, ◌+◌, ◌-◌, ◌*◌, ◌/◌, ◌%◌, ◌≤◌, ◌<◌}
use native.Mathlib.Nat.{mul_comm, mul-div_cancel, mod-lt, div-lt_iff_lt-mul}
use native.Mathlib.Numerals.{add-one}
use native.Mathlib.Omega.{arith}
use lib.ListN.{length, get_or, set}
use lib.Seq.{sets}
use Rattle.as5506.specs.Lists.{span}
use Rattle.as5506.specs.Modes.{combinations}
use Rattle.as5506.specs.Digits.{pick}
use Rattle.as5506.proofs.Modes.{some-combination}
use Rattle.operation_modes.specs.Linked.{modal_of}
use Rattle.operation_modes.proofs.Combining.{modal-full, rest_some, rest-none, rest-done}

module _ (modes : ℕ → List ℕ) (end : ℕ) where
  -- the modes of those from component i on that have some
  abbrev rest : ℕ → List (List ℕ)
  rest i = modal_of modes (span i (end - i))

  -- what is left to choose and write, from component i on, makes the whole
  pub record Choosing (whole : List ℕ) (i weight left at : ℕ) (rows : List ℕ) : Type 0 where
    pub place : at ≤ i
    pub weight_is : weight ≡ combinations (rest i)
    pub less : left < weight
    pub same : sets rows at (pick (rest i) left) ≡ whole

module _ {modes : ℕ → List ℕ} {end : ℕ} {whole : List ℕ} {i weight left at : ℕ} {rows : List ℕ} (s : Choosing modes end whole i weight left at rows) where
  pub choosing_end : end ≤ i → rows ≡ whole
  unfolding pick
  choosing_end h = sym (ap (λ (l : List (List ℕ)). sets rows at (pick l left)) (rest-done modes i end h)) ∙ s.same

  module _ (h : i < end) {size : ℕ} (size_is : size ≡ length (modes i)) where
    abbrev later : List (List ℕ)
    later = rest modes end (i + 1)

    -- component i has no modes
    pub choosing_none : size ≡ 0 → Choosing modes end whole (i + 1) weight left at rows
    choosing_none e =
        let r : rest modes end i ≡ later = rest-none modes i end h (sym size_is ∙ e) in
        record {
          place = omega (arith, s.place);
          weight_is = s.weight_is ∙ ap combinations r;
          less = s.less;
          same = ap (λ (l : List (List ℕ)). sets rows at (pick l left)) (sym r) ∙ s.same;
        }

    module _ (some : size ≡ 0 → ⊥) where
      first : rest modes end i ≡ modes i ∷ later
      first = rest_some modes i end h (λ k. some (size_is ∙ k))

      product : weight ≡ size * combinations later
      unfolding combinations
      product = s.weight_is ∙ ap combinations first ∙ ap (λ (k : ℕ). k * combinations later) (sym size_is)

      weight_later : weight / size ≡ combinations later
      weight_later = ap (λ (w : ℕ). w / size) (product ∙ mul_comm size (combinations later)) ∙ mul-div_cancel (combinations later) (omega (arith, some))

      pub weight_some : 0 < weight / size
      weight_some = omega (arith, weight_later, some-combination later (modal-full modes (span (i + 1) (end - (i + 1)))))

      -- the component has a mode for the digit
      pub digit_less : left / (weight / size) < length (modes i)
      digit_less =
          subst (λ (n : ℕ). left / (weight / size) < n) size_is
          ((div-lt_iff_lt-mul weight_some).1 (subst (λ (w : ℕ). left < size * w) (sym weight_later) (subst (λ (w : ℕ). left < w) product s.less)))

      -- its mode is written
      pub choosing_turn : {row : ℕ} {rows' : List ℕ} → row ≡ get_or (modes i) (left / (weight / size)) 0 → rows' ≡ set rows at row
          → Choosing modes end whole (i + 1) (weight / size) (left % (weight / size)) (at + 1) rows'
      unfolding pick
      choosing_turn e f =
          record {
            place = omega (arith, s.place);
            weight_is = weight_later;
            less = mod-lt left weight_some;
            same =
                ap₂ (λ (o : List ℕ) (j : ℕ). sets o j (pick later (left % (weight / size)))) (f ∙ ap (set rows at) e) (add-one at)
                ∙ ap (λ (w : ℕ). sets rows at (get_or (modes i) (left / w) 0 ∷ pick later (left % w))) weight_later
                ∙ ap (λ (l : List (List ℕ)). sets rows at (pick l left)) (sym first) ∙ s.same;
          }
