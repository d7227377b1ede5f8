-- Laws of the loops: the one that looks for an earlier row with the key of a row, and the one that refuses the first bad row. Assumes nothing.
use mathlib.Core.Bool.{Bool, true, false, ◌||◌}
use mathlib.Core.Path.{◌≡◌, refl, sym, ap, ap₂, ◌∙◌}
use mathlib.Core.List.{List, map}
use Prim.Native.Nat.{ℕ, zero, suc, ◌+◌, ◌-◌, ◌<◌}
use native.Mathlib.Omega.{arith}
use native.Mathlib.Nat.{add-zero}
use Rattle.std.specs.Prelude.{Err}
use Rattle.as5506.specs.Lists.{span, up_to, any_of, keep}
use Rattle.as5506.specs.Tables.{Letter}
use Rattle.as5506.specs.Answers.{refusal, row, told}
use Rattle.as5506.specs.declared.Refusal.{Refusal as Told}
use Rattle.as5506.specs.Refusals.{Key, same_key as same_key_of}
use Rattle.as5506.proofs.Keys.{earlier}
use Rattle.as5506.proofs.Scans.{span-next, keep-hit}
use Rattle.tables.specs.Answer.{Checked, checked}

-- ---- a loop that looks for a row that passes
module _ (p : ℕ → Bool) (i n : ℕ) where
  pub any-hit : i < n → p i ≡ true → any_of p (span i (n - i)) ≡ true
  any-hit h q = rw (span-next i n h, q)

  pub any-miss : i < n → p i ≡ false → any_of p (span i (n - i)) ≡ any_of p (span (i + 1) (n - (i + 1)))
  any-miss h q = rw (span-next i n h, q)

-- ---- a row's key among those of earlier rows
module _ (key_of : ℕ → Key) where
  or_swap : (a b c : Bool) → a || (b || c) ≡ b || (a || c)
  or_swap true true c = refl
  or_swap true false c = refl
  or_swap false b c = refl

  any_last : (t : ℕ → Bool) (i n : ℕ) → any_of t (span i (suc n)) ≡ t (i + n) || any_of t (span i n)
  any_last t i zero = rw (add-zero i)
  any_last t i (suc n) =
      let e : suc i + n ≡ i + suc n = omega arith in
      ap (λ (b : Bool). t i || b) (any_last t (suc i) n) ∙ or_swap (t i) (t (suc i + n)) (any_of t (span (suc i) n)) ∙ ap (λ (x : ℕ). t x || (t i || any_of t (span (suc i) n))) e

  -- counted up or down
  pub any-earlier : (t : ℕ → Bool) (k : Key) → ((j : ℕ) → t j ≡ same_key_of k (key_of j)) → (n : ℕ) → any_of t (up_to n) ≡ any_of (same_key_of k) (earlier key_of n)
  any-earlier t k h zero = refl
  any-earlier t k h (suc n) = let e : 0 + n ≡ n = omega arith in any_last t 0 n ∙ ap (λ (x : ℕ). t x || any_of t (up_to n)) e ∙ ap₂ ◌||◌ (h n) (any-earlier t k h n)

-- ---- a loop that refuses the first bad row, at row i
module _ (number : ℕ) (l : Letter) (bad : ℕ → Bool) (i n : ℕ) where
  abbrev pub left : Type 0
  left = keep bad (span i (n - i)) ≡ keep bad (up_to n)

  pub refused-row : (z : Told) → i < n → bad i ≡ true → z ≡ told (refusal number (row l i)) → left → ◌≡◌ {A = Checked} (Err z) (checked (map (λ i. refusal number (row l i)) (keep bad (up_to n))))
  refused-row z h q e so = ap Err e ∙ ap (λ (is : List ℕ). checked (map (λ i. refusal number (row l i)) is)) (sym (keep-hit bad i n h q) ∙ so)
