-- The definition's clashes: the rows whose key an earlier row has; without a clash, rows of the same key are one row. Assumes nothing.
use mathlib.Core.Bool.{Bool, true, false, not, ◌||◌}
use mathlib.Core.Path.{◌≡◌, refl, subst}
use mathlib.Core.List.{List, [], ◌∷◌, ◌++◌, map}
use Prim.Native.Nat.{ℕ, zero, suc, ◌≤◌, ◌<◌}
use native.Mathlib.Nat.{not-suc-le-zero}
use native.Mathlib.Omega.{arith}
use native.Mathlib.Decide.{dec_le}
use lib.Dec.{T, T_not}
use Rattle.as5506.specs.Lists.{span, up_to, put_if, keep, when, is_nil, any_of, same_bytes}
use Rattle.as5506.specs.Tables.{Tables, Letter, count}
use Rattle.as5506.specs.Answers.{refusal, row}
use Rattle.as5506.specs.Refusals.{Key, same_key, clashes_from, clashes}
use Rattle.as5506.proofs.Laws.{up_to-at, and_left, and_right, and_both, same-bytes, bytes-same, nil-keep}

-- ---- the definition's clashes: it keeps the keys of earlier rows in a list, the latest first
module _ (key_of : ℕ → Key) where
  abbrev pub earlier : ℕ → List Key
  earlier zero = []
  earlier (suc i) = key_of i ∷ earlier i

  abbrev pub clashing : ℕ → Bool
  clashing i = any_of (same_key (key_of i)) (earlier i)

  when-put : (b : Bool) (i : ℕ) (is : List ℕ) → when b i ++ is ≡ put_if b i is
  when-put true i is = refl
  when-put false i is = refl

  pub clashes-from : (i n : ℕ) → clashes_from (earlier i) i (map key_of (span i n)) ≡ keep clashing (span i n)
  unfolding clashes_from
  clashes-from i zero = refl
  clashes-from i (suc n) = rw (clashes-from (suc i) n) (when-put (clashing i) i (keep clashing (span (suc i) n)))

  not_earlier : (k : Key) (n j : ℕ) → T (not (any_of (same_key k) (earlier n))) → j < n → T (not (same_key k (key_of j)))
  not_earlier k zero j t h = absurd (not-suc-le-zero h)
  not_earlier k (suc n) j t h = go (dec_le n j) (neither (same_key k (key_of n)) (any_of (same_key k) (earlier n)) t) (not_earlier k n j)
    where
      neither : (a b : Bool) → T (not (a || b)) → T (not a) × T (not b)
      neither true b t = absurd t
      neither false b t = (tt, t)

      go : Dec (n ≤ j) → T (not (same_key k (key_of n))) × T (not (any_of (same_key k) (earlier n))) → (T (not (any_of (same_key k) (earlier n))) → j < n → T (not (same_key k (key_of j)))) → T (not (same_key k (key_of j)))
      go (yes l) u before = subst (λ (x : ℕ). T (not (same_key k (key_of x)))) (let e : n ≡ j = omega (arith, l, h) in e) u.0
      go (no l) u before = before u.1 (omega (arith, l))

-- ---- the two ways round

same-bytes-sym : (a b : List ℕ) → T (same_bytes a b) → T (same_bytes b a)
same-bytes-sym a b t = subst (λ (l : List ℕ). T (same_bytes l a)) (same-bytes a b t) (bytes-same a)

same-key-sym : (a b : Key) → T (same_key a b) → T (same_key b a)
same-key-sym [] [] t = tt
same-key-sym [] (y ∷ b) t = t
same-key-sym (x ∷ a) [] t = t
same-key-sym (x ∷ a) (y ∷ b) t =
    and_both (same_bytes y x) (same_key b a) (same-bytes-sym x y (and_left (same_bytes x y) (same_key a b) t)) (same-key-sym a b (and_right (same_bytes x y) (same_key a b) t))

-- ---- WITHOUT A CLASH

-- rows of one letter that have the same key are one row
abbrev pub Unique : ℕ → (ℕ → Key) → Type 0
Unique n key_of = (i j : ℕ) → i < n → j < n → T (same_key (key_of i) (key_of j)) → i ≡ j

pub keys-unique : (key_of : ℕ → Key) (number : ℕ) (m : Tables) (l : Letter) → T (is_nil (clashes number m l key_of)) → Unique (count m l) key_of
unfolding clashes
keys-unique key_of number m l t i j hi hj same = go (dec_le i j) (dec_le j i)
  where
    free : (i : ℕ) → i < count m l → T (not (clashing key_of i))
    free i h =
        up_to-at (λ i. T (not (clashing key_of i))) (count m l) i
        (nil-keep (λ i. refusal number (row l i)) (clashing key_of) (up_to (count m l)) (subst (λ (is : List ℕ). T (is_nil (map (λ i. refusal number (row l i)) is))) (clashes-from key_of 0 (count m l)) t)) h

    clash : (i j : ℕ) → i < count m l → j < i → T (same_key (key_of i) (key_of j)) → ⊥
    clash i j h k s = T_not (same_key (key_of i) (key_of j)) (not_earlier key_of (key_of i) i j (free i h) k) s

    go : Dec (i ≤ j) → Dec (j ≤ i) → i ≡ j
    go (yes a) (yes b) = omega (arith, a, b)
    go (no a) b = absurd (clash i j hi (omega (arith, a)) same)
    go (yes a) (no b) = absurd (clash j i hj (omega (arith, b)) (same-key-sym (key_of i) (key_of j) same))
