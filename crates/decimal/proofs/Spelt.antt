-- Laws of the digits from the front, and of subtracting a power. Assumes nothing.
use mathlib.Core.Path.{◌≡◌, refl, sym, ap, ap₂, ◌∙◌, subst}
use mathlib.Core.List.{List, [], ◌∷◌, ◌++◌}
use Prim.Native.Nat.{ℕ, zero, suc, ◌+◌, ◌-◌, ◌*◌, ◌/◌, ◌%◌, ◌^◌, ◌≤◌, ◌<◌}
use native.Mathlib.Nat.{mul_assoc, div-div-eq-div-mul, div-add-mod, mod-lt, mod-eq_of_lt, mod-eq-sub-mod, mul-add-mod_self_left, div-eq_of_lt, div-eq-sub-div, div-lt_iff_lt-mul}
use native.Mathlib.Omega.{arith}
use lib.ListN.{length, take, drop}
use Rattle.as5506.specs.Text.{digits}
use Rattle.lent.specs.Append.{append_all, together}
use Rattle.output.specs.Put.{Put, output_of}
use Rattle.output.specs.declared.Output.{Output}
use Rattle.output.proofs.Put.{Printing, put_as, printing_start, printing_turn, printing_end, ◌▷◌}
use Rattle.decimal.specs.Spelt.{spelt}
use Rattle.decimal.proofs.Digits.{by_digits, ten-pos, ten-more, length-snoc}
use Rattle.decimal.proofs.Columns.{columns-left}

-- ---- the last digit

-- what is left of a number without its first digit: a multiple of ten is gone
module _ (k n : ℕ) where
  without : n ≡ 10 * (10 ^ k * (n / 10 ^ suc k)) + n % 10 ^ suc k
  without =
      let e : 10 ^ suc k * (n / 10 ^ suc k) ≡ 10 * (10 ^ k * (n / 10 ^ suc k)) = ap (λ (p : ℕ). p * (n / 10 ^ suc k)) (ten-more k) ∙ mul_assoc 10 (10 ^ k) (n / 10 ^ suc k) in
      omega (arith, e, div-add-mod n (10 ^ suc k))

  below : n % 10 ^ suc k < 10 * 10 ^ k
  below = let h : n % 10 ^ suc k < 10 ^ suc k = mod-lt n (ten-pos (suc k)) in omega (arith, h, ten-more k)

  -- so its last digit is the same, and without that too it is what is left of the number without its last digit
  last-same : (n % 10 ^ suc k) % 10 ≡ n % 10
  last-same = omega (arith, without)

  middle : (n % 10 ^ suc k) / 10 ≡ (n / 10) % 10 ^ k
  middle =
      let e : n / 10 ≡ 10 ^ k * (n / 10 ^ suc k) + (n % 10 ^ suc k) / 10 = omega (arith, without) in
      let h : (n % 10 ^ suc k) / 10 < 10 ^ k = omega (arith, below) in
      sym (ap (λ (v : ℕ). v % 10 ^ k) e ∙ mul-add-mod_self_left (10 ^ k) (n / 10 ^ suc k) ((n % 10 ^ suc k) / 10) ∙ mod-eq_of_lt h)

  first-same : n / 10 ^ suc k ≡ n / 10 / 10 ^ k
  first-same = ap (λ (p : ℕ). n / p) (ten-more k) ∙ sym (div-div-eq-div-mul n 10 (10 ^ k))

spelt-last : (k n : ℕ) → n < 10 ^ suc k → spelt (suc k) n ≡ spelt k (n / 10) ++ ((48 + n % 10) ∷ [])
unfolding spelt
spelt-last zero n h = let e : n / 1 ≡ n % 10 = omega (arith, h) in ap (λ (v : ℕ). (48 + v) ∷ []) e
spelt-last (suc k) n h =
    ap₂ (λ (a : ℕ) (l : List ℕ). (48 + a) ∷ l) (first-same k n)
    (spelt-last k (n % 10 ^ suc k) (mod-lt n (ten-pos (suc k)))
    ∙ ap₂ (λ (a b : ℕ). spelt k a ++ ((48 + b) ∷ [])) (middle k n) (last-same k n))

-- ---- all digits of a number, from the front

record Whole (n : ℕ) (d : List ℕ) : Type 0 where
  below_power : n < 10 ^ length d
  from_front : spelt (length d) n ≡ d

digits-whole : (n : ℕ) → Whole n (digits n)
unfolding spelt
digits-whole = by_digits Whole one more
  where
    one : (n : ℕ) → n < 10 → Whole n ((48 + n % 10) ∷ [])
    one n h = record { below_power = omega (arith, h); from_front = spelt-last zero n (omega (arith, h)) }

    more : (n : ℕ) (d : List ℕ) → 10 ≤ n → Whole (n / 10) d → Whole n (d ++ ((48 + n % 10) ∷ []))
    more n d h w =
        let b : n < 10 ^ suc (length d) = omega (arith, w.below_power, ten-more (length d)) in
        let e = length-snoc d (48 + n % 10) in
        record {
          below_power = subst (λ (k : ℕ). n < 10 ^ k) (sym e) b;
          from_front = ap (λ (k : ℕ). spelt k n) e ∙ spelt-last (length d) n b ∙ ap (λ (l : List ℕ). l ++ ((48 + n % 10) ∷ [])) w.from_front;
        }

spelt-below : (n k : ℕ) → k ≡ length (digits n) → n < 10 ^ k
spelt-below n k e = subst (λ (j : ℕ). n < 10 ^ j) (sym e) (digits-whole n).below_power

-- over the end of columns: what the digits leave of these, and the digits
spelt-over : (n k : ℕ) (cs left : List ℕ) → k ≡ length (digits n) → left ≡ take (length cs) (drop k cs) → drop (length (digits n)) cs ++ digits n ≡ left ++ spelt k n
spelt-over n k cs left e f =
    ap₂ (λ (l d : List ℕ). l ++ d) (sym (f ∙ columns-left k cs ∙ ap (λ (j : ℕ). drop j cs) e)) (sym (ap (λ (j : ℕ). spelt j n) e ∙ (digits-whole n).from_front))

-- ---- subtracting a power: the byte of the digit grows as often as the power goes

module _ (n p : ℕ) where
  unfoldable pub Subtracting : (byte rest : ℕ) → Type 0
  Subtracting byte rest = (byte + rest / p ≡ 48 + n / p) × (rest % p ≡ n % p)

  pub subtracting_start : Subtracting 48 n
  unfolding Subtracting
  subtracting_start = (refl, refl)

  module _ (byte rest : ℕ) (s : Subtracting byte rest) (pos : 0 < p) where
    pub subtracting_turn : p ≤ rest → Subtracting (byte + 1) (rest - p)
    unfolding Subtracting
    subtracting_turn h = (omega (arith, div-eq-sub-div pos h, s.0), sym (mod-eq-sub-mod h) ∙ s.1)

    -- of a number below ten times the power the byte stays a digit's
    pub subtracting_below : n < 10 * p → p ≤ rest → byte < 57
    unfolding Subtracting
    subtracting_below small h =
        let a : n / p < 10 = (div-lt_iff_lt-mul pos).1 small in
        omega (arith, div-eq-sub-div pos h, s.0, a)

    pub subtracting_end : rest < p → (byte ≡ 48 + n / p) × (rest ≡ n % p)
    unfolding Subtracting
    subtracting_end h = (omega (arith, div-eq_of_lt h, s.0), sym (mod-eq_of_lt h) ∙ s.1)

pub ruleset subtracting = (subtracting_start, subtracting_turn, subtracting_below, subtracting_end)

-- ---- digit by digit: k of them are left to print

module _ (rest k p : ℕ) (some : 0 < k) (power : p ≡ 10 ^ (k - 1)) where
  -- what the first digit is found by
  power-below : rest < 10 ^ k → (0 < p) × (rest < 10 * p)
  power-below below =
      let e : 10 ^ k ≡ 10 * 10 ^ (k - 1) = let e : k ≡ suc (k - 1) = omega (arith, some) in ap (λ (j : ℕ). 10 ^ j) e ∙ ten-more (k - 1) in
      (omega (arith, power, ten-pos (k - 1)), omega (arith, power, e, below))

  -- the first digit, and those of what is left
  next-digit : (byte rest' : ℕ) → byte ≡ 48 + rest / p → rest' ≡ rest % p → (spelt k rest ≡ (byte ∷ []) ++ spelt (k - 1) rest') × (rest' < 10 ^ (k - 1))
  unfolding spelt
  next-digit byte rest' d r =
      let e : k ≡ suc (k - 1) = omega (arith, some) in
      let q : rest' ≡ rest % 10 ^ (k - 1) = r ∙ ap (λ (v : ℕ). rest % v) power in (
        ap (λ (j : ℕ). spelt j rest) e ∙ ap₂ ◌∷◌ (sym (d ∙ ap (λ (v : ℕ). 48 + rest / v) power)) (ap (spelt (k - 1)) (sym q)),
        subst (λ (v : ℕ). v < 10 ^ (k - 1)) (sym q) (mod-lt rest (ten-pos (k - 1))),
      )

none-left : (rest k : ℕ) → k ≤ 0 → spelt k rest ≡ []
unfolding spelt
none-left rest k h = let e : k ≡ 0 = omega (arith, h) in ap (λ (j : ℕ). spelt j rest) e

module _ (count n : ℕ) (o₀ : Output) where
  -- of so many digits of n into an output that was o₀ the last k are left, those of rest
  unfoldable pub Spelling : Output → (k rest : ℕ) → Type 0
  Spelling o k rest = (rest < 10 ^ k) × Printing (spelt count n) o₀ o (spelt k rest)

  pub spelling_start : count ≡ length (digits n) → Spelling o₀ count n
  unfolding Spelling
  spelling_start e = (spelt-below n count e, printing_start refl)

  module _ (o : Output) (k rest : ℕ) (s : Spelling o k rest) where
    pub spelling_pos : (p : ℕ) → 0 < k → p ≡ 10 ^ (k - 1) → 0 < p
    unfolding Spelling
    spelling_pos p h e = (power-below rest k p h e s.0).0

    pub spelling_below : (p : ℕ) → 0 < k → p ≡ 10 ^ (k - 1) → rest < 10 * p
    unfolding Spelling
    spelling_below p h e = (power-below rest k p h e s.0).1

    -- the first of them is printed, in pieces ps
    pub spelling_turn : (p byte rest' : ℕ) (o₁ : Output) (ps : List (List ℕ)) → 0 < k → p ≡ 10 ^ (k - 1) → byte ≡ 48 + rest / p → rest' ≡ rest % p
        → o₁.bytes.ghost_name ≡ o.bytes.ghost_name → together ps ≡ byte ∷ [] → output_of o₁ ≡ append_all ps (output_of o) → Spelling o₁ (k - 1) rest'
    unfolding Spelling
    spelling_turn p byte rest' o₁ ps h e d r a b c =
        let n = next-digit rest k p h e byte rest' d r in
        (n.1, printing_turn s.1 (record { same = a; pieces = ps; text = b; holds = c }) n.0)

    -- over the end of columns: what the digits leave of these stands before them
    pub spelling_end : (columns left : List ℕ) (old : Output) → k ≤ 0 → count ≡ length (digits n) → left ≡ take (length columns) (drop count columns) → Put left old o₀
        → Put (drop (length (digits n)) columns ++ digits n) old o
    unfolding Spelling
    spelling_end columns left old h e f p = put_as (p ▷ printing_end s.1 (none-left rest k h)) (spelt-over n count columns left e f)

pub ruleset spelling = (spelling_start, spelling_pos, spelling_below, spelling_turn, spelling_end)
