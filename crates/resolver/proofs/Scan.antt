-- What a loop that searches the rows of a table goes by, and the first row that passes a test. Assumes nothing.
use mathlib.Core.Bool.{Bool, true, false}
use mathlib.Core.Path.{◌≡◌, ◌∙◌}
use mathlib.Core.List.{List, ◌∷◌}
use Prim.Native.Nat.{ℕ, zero, suc, ◌+◌, ◌*◌, ◌-◌, ◌/◌, ◌≤◌, ◌<◌}
use native.Mathlib.Nat.{div-mul-le_self, mul-le-mul_right, suc-mul}
use native.Mathlib.Numerals.{add-one}
use native.Mathlib.Omega.{arith}
use Rattle.std.specs.Prelude.{Some}
use Rattle.std.proofs.lemmas.Option.{none-some, same_Some}
use Rattle.as5506.specs.Lists.{span, put_if, keep, first_of}
use Rattle.as5506.proofs.Searches.{search_start, search_hit, search_miss, search_end}

-- a row of a table of whole rows lies within the table
pub row_within : (len width i : ℕ) → i < len / width → i * width + width ≤ len
row_within len width i h = omega (arith, div-mul-le_self len width, mul-le-mul_right width h, suc-mul i width)

-- the first row from i on that passes a test: a row from i on, and the others follow it
module _ (p : ℕ → Bool) where
  abbrev IsFirst : ℕ → ℕ → ℕ → List ℕ → Type 0
  IsFirst i k j rows = (i ≤ j) × (j < i + k) × (rows ≡ j ∷ keep p (span (suc j) (i + k - suc j)))

  first_by : (b : Bool) (i k j : ℕ) → (first_of (keep p (span (suc i) k)) ≡ Some j → IsFirst (suc i) k j (keep p (span (suc i) k)))
      → first_of (put_if b i (keep p (span (suc i) k))) ≡ Some j → IsFirst i (suc k) j (put_if b i (keep p (span (suc i) k)))
  first_by true i k j below q =
      let d : i ≡ j = same_Some i j q in
      let e : i + suc k - suc i ≡ k = omega arith in
      (omega (arith, d), omega (arith, d), rw (← d, e))
  first_by false i k j below q =
      let h = below q in
      let e : suc i + k - suc j ≡ i + suc k - suc j = omega arith in
      (omega (arith, h.0), omega (arith, h.1), rw (← e) h.2)

  first-from : (i k j : ℕ) → first_of (keep p (span i k)) ≡ Some j → IsFirst i k j (keep p (span i k))
  first-from i zero j q = absurd (none-some j q)
  first-from i (suc k) j q = first_by (p i) i k j (first-from (suc i) k j) q

  pub rows-first : (i n j : ℕ) → first_of (keep p (span i (n - i))) ≡ Some j → (i ≤ j) × (j < n) × (keep p (span i (n - i)) ≡ j ∷ keep p (span (j + 1) (n - (j + 1))))
  rows-first i n j q =
      let h = first-from i (n - i) j q in
      let e : i + (n - i) - suc j ≡ n - (j + 1) = omega (arith, h.0, h.1) in
      (h.0, omega (arith, h.0, h.1), h.2 ∙ rw (e, add-one))

pub ruleset searching = (row_within, search_start, search_hit, search_miss, search_end)
