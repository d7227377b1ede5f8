-- Laws of the decimal digits of a number: the last one behind the number without it, and how many there are. Assumes nothing.
use mathlib.Core.Path.{◌≡◌, refl, sym, ap, subst, ◌∙◌}
use mathlib.Core.List.{List, [], ◌∷◌, ◌++◌}
use Prim.Native.Nat.{ℕ, zero, suc, ◌+◌, ◌*◌, ◌/◌, ◌%◌, ◌^◌, ◌≤◌, ◌<◌}
use native.Mathlib.Nat.{mul_comm, pow-suc, one-le-pow}
use native.Mathlib.Omega.{arith}
use native.Mathlib.Decide.{dec_le}
use borrow.Author.Tests.{lt-ltb, le-ltb}
use lib.ListN.{length, length-append}
use Rattle.as5506.specs.Text.{digits_within, digits}

-- ---- the last digit

within-one : (k n : ℕ) → n < 10 → digits_within k n ≡ (48 + n % 10) ∷ []
unfolding digits_within
within-one zero n h = refl
within-one (suc k) n h = let e : n % 10 ≡ n = omega (arith, h) in rw (e, lt-ltb n 10 h, digits_within)

within_more : (k n : ℕ) → 10 ≤ n → digits_within (suc k) n ≡ digits_within k (n / 10) ++ ((48 + n % 10) ∷ [])
unfolding digits_within
within_more k n h = rw (le-ltb n 10 h, digits_within)

-- more than enough is enough
enough : (k j n : ℕ) → n ≤ k → n ≤ j → digits_within k n ≡ digits_within j n
enough zero j n p q = within-one zero n (omega (arith, p)) ∙ sym (within-one j n (omega (arith, p)))
enough (suc k) zero n p q = within-one (suc k) n (omega (arith, q)) ∙ sym (within-one zero n (omega (arith, q)))
enough (suc k) (suc j) n p q = go (dec_le 10 n) (λ h. enough k j (n / 10) (omega (arith, p, h)) (omega (arith, q, h)))
  where
    go : Dec (10 ≤ n) → (10 ≤ n → digits_within k (n / 10) ≡ digits_within j (n / 10)) → digits_within (suc k) n ≡ digits_within (suc j) n
    go (yes h) below = within_more k n h ∙ ap (λ (l : List ℕ). l ++ ((48 + n % 10) ∷ [])) (below h) ∙ sym (within_more j n h)
    go (no h) below = within-one (suc k) n (omega (arith, h)) ∙ sym (within-one (suc j) n (omega (arith, h)))

digits-one : (n : ℕ) → n < 10 → digits n ≡ (48 + n % 10) ∷ []
unfolding digits
digits-one n h = within-one n n h

-- the last digit behind the number without it
digits_more : (n : ℕ) → 10 ≤ n → digits n ≡ digits (n / 10) ++ ((48 + n % 10) ∷ [])
unfolding digits
digits_more zero h = absurd (omega (arith, h))
digits_more (suc k) h =
    within_more k (suc k) h ∙ ap (λ (l : List ℕ). l ++ ((48 + suc k % 10) ∷ [])) (enough k (suc k / 10) (suc k / 10) (omega (arith, h)) (omega arith))

-- ---- what holds of one digit, and of a number with one more behind it, holds of all digits

module _ (P : ℕ → List ℕ → Type 0) (one : (n : ℕ) → n < 10 → P n ((48 + n % 10) ∷ []))
    (more : (n : ℕ) (d : List ℕ) → 10 ≤ n → P (n / 10) d → P n (d ++ ((48 + n % 10) ∷ []))) where
  by-digits-within : (k n : ℕ) → n ≤ k → P n (digits n)
  by-digits-within zero n h = subst (P n) (sym (digits-one n (omega (arith, h)))) (one n (omega (arith, h)))
  by-digits-within (suc k) n h = go (dec_le 10 n) (λ p. by-digits-within k (n / 10) (omega (arith, h, p)))
    where
      go : Dec (10 ≤ n) → (10 ≤ n → P (n / 10) (digits (n / 10))) → P n (digits n)
      go (yes p) deeper = subst (P n) (sym (digits_more n p)) (more n (digits (n / 10)) p (deeper p))
      go (no p) deeper = subst (P n) (sym (digits-one n (omega (arith, p)))) (one n (omega (arith, p)))

  pub by_digits : (n : ℕ) → P n (digits n)
  by_digits n = by-digits-within n n (omega arith)

-- ---- powers of ten, and how many digits there are

pub ten-pos : (k : ℕ) → 0 < 10 ^ k
ten-pos k = one-le-pow k 10 (omega arith)

-- ten times a power
pub ten-more : (k : ℕ) → 10 ^ suc k ≡ 10 * 10 ^ k
ten-more k = pow-suc 10 k ∙ mul_comm (10 ^ k) 10

pub length-snoc : (d : List ℕ) (b : ℕ) → length (d ++ (b ∷ [])) ≡ suc (length d)
length-snoc d b = omega (arith, length-append d (b ∷ []))

pub digits_some : (n : ℕ) → 1 ≤ length (digits n)
digits_some = by_digits (λ n d. 1 ≤ length d) (λ n h. omega arith) (λ n d h e. omega (arith, length-snoc d (48 + n % 10)))

-- a number that reaches ten to the k has more than k digits
pub digits_long : (k n : ℕ) → 10 ^ k ≤ n → k < length (digits n)
digits_long k n h = by_digits (λ n d. (k : ℕ) → 10 ^ k ≤ n → k < length d) one more n k h
  where
    one : (n : ℕ) → n < 10 → (k : ℕ) → 10 ^ k ≤ n → k < 1
    one n h zero p = omega arith
    one n h (suc k) p = absurd (omega (arith, h, p, ten-more k, ten-pos k))

    more : (n : ℕ) (d : List ℕ) → 10 ≤ n → ((k : ℕ) → 10 ^ k ≤ n / 10 → k < length d) → (k : ℕ) → 10 ^ k ≤ n → k < length (d ++ ((48 + n % 10) ∷ []))
    more n d h e zero p = omega (arith, length-snoc d (48 + n % 10))
    more n d h e (suc k) p = omega (arith, length-snoc d (48 + n % 10), e k (omega (arith, p, ten-more k)))

-- one below it has no more than k, or one where k is 0
pub digits_short : (k n : ℕ) → 0 < k → n < 10 ^ k → length (digits n) ≤ k
digits_short zero n p h = absurd (omega (arith, p))
digits_short (suc k) n p h = by_digits (λ n d. (k : ℕ) → n < 10 ^ suc k → length d ≤ suc k) (λ n p k q. omega arith) more n k h
  where
    more : (n : ℕ) (d : List ℕ) → 10 ≤ n → ((k : ℕ) → n / 10 < 10 ^ suc k → length d ≤ suc k) → (k : ℕ) → n < 10 ^ suc k
        → length (d ++ ((48 + n % 10) ∷ [])) ≤ suc k
    more n d p e zero q = absurd (omega (arith, p, q))
    more n d p e (suc k) q = omega (arith, length-snoc d (48 + n % 10), e k (omega (arith, q, ten-more (suc k))))
