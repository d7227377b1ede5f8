-- Laws of lists in an order, each entry before all later ones, and of rows sorted by keys. Assumes nothing.
use mathlib.Core.Bool.{Bool, true, false, cond}
use mathlib.Core.Logic.{◌⊎◌, inl, inr, ⊎_elim}
use mathlib.Core.Path.{◌≡◌, refl, sym, ap, ap₂, ◌∙◌, subst}
use mathlib.Core.List.{List, [], ◌∷◌}
use Prim.Native.Nat.{ℕ, zero, suc, ◌+◌, ◌≤◌, ◌<◌}
use native.Mathlib.Decide.{dec_le}
use native.Mathlib.Omega.{arith}
use borrow.Author.Tests.{ltb-true, ltb-false}
use lib.ListN.{length}
use lib.Dec.{T, ltb}
use Rattle.as5506.specs.Lists.{span, up_to, put_if, keep, insert_by, sort_by}
use Rattle.as5506.specs.Followed.{In}
use Rattle.as5506.proofs.Laws.{All, all_map, all_keep, all_in, in_all}

-- ---- members

module _ {A : Type 0} where
  in-put : (b : Bool) (x : A) (r : List A) (a : A) → In a (put_if b x r) → ((a ≡ x) × T b) ⊎ In a r
  in-put true x r a (inl e) = inl (e, tt)
  in-put true x r a (inr i) = inr i
  in-put false x r a i = inr i

  put_in : (b : Bool) (x : A) (r : List A) (a : A) → ((a ≡ x) × T b) ⊎ In a r → In a (put_if b x r)
  put_in true x r a (inl e) = inl e.0
  put_in true x r a (inr i) = inr i
  put_in false x r a (inl e) = absurd e.1
  put_in false x r a (inr i) = i

  -- what `keep` keeps: the entries that pass the test
  pub kept_in : (p : A → Bool) (xs : List A) (a : A) → In a (keep p xs) → In a xs × T (p a)
  kept_in p [] a i = absurd i
  kept_in p (x ∷ xs) a i =
      ⊎_elim (λ e. (inl e.0, subst (λ (y : A). T (p y)) (sym e.0) e.1)) (λ j. let k = kept_in p xs a j in (inr k.0, k.1)) (in-put (p x) x (keep p xs) a i)

  pub in_kept : (p : A → Bool) (xs : List A) (a : A) → In a xs → T (p a) → In a (keep p xs)
  in_kept p [] a i t = absurd i
  in_kept p (x ∷ xs) a (inl e) t = put_in (p x) x (keep p xs) a (inl (e, subst (λ (y : A). T (p y)) e t))
  in_kept p (x ∷ xs) a (inr i) t = put_in (p x) x (keep p xs) a (inr (in_kept p xs a i t))

-- the entries of a span
pub span-in : (i n a : ℕ) → In a (span i n) → (i ≤ a) × (a < i + n)
span-in i zero a h = absurd h
span-in i (suc n) a (inl e) = (omega (arith, e), omega (arith, e))
span-in i (suc n) a (inr h) = let g = span-in (suc i) n a h in (omega (arith, g.0), omega (arith, g.1))

in_span : (i n a : ℕ) → i ≤ a → a < i + n → In a (span i n)
in_span i zero a h l = absurd (omega arith)
in_span i (suc n) a h l =
    elim (dec_le a i) [
      | yes q ↦ inl (omega arith)
      | no q ↦ inr (in_span (suc i) n a (omega arith) (omega arith))
    ]

-- the rows of a table of n rows
pub up_to-in : (n a : ℕ) → In a (up_to n) → a < n
up_to-in n a h = let g = span-in 0 n a h in omega (arith, g.1)

pub in-up_to : (n a : ℕ) → a < n → In a (up_to n)
in-up_to n a h = in_span 0 n a (omega arith) (omega arith)

-- ---- lists in an order

module _ {A : Type 0} where
  -- each entry stands in R to each later one
  abbrev pub Ordered : (A → A → Type 0) → List A → Type 0
  Ordered R [] = Unit {0}
  Ordered R (x ∷ xs) = All (R x) xs × Ordered R xs

  -- R between entries that have P gives S
  pub ordered-with : (P : A → Type 0) (R S : A → A → Type 0) → ((x y : A) → P x → P y → R x y → S x y) → (xs : List A) → All P xs → Ordered R xs → Ordered S xs
  ordered-with P R S h [] t o = tt
  ordered-with P R S h (x ∷ xs) t o = (both xs t.1 o.0, ordered-with P R S h xs t.1 o.1)
    where
      both : (ys : List A) → All P ys → All (R x) ys → All (S x) ys
      both [] u v = tt
      both (y ∷ ys) u v = (h x y t.0 u.0 v.0, both ys u.1 v.1)

  pub ordered-weaker : (R S : A → A → Type 0) → ((x y : A) → R x y → S x y) → (xs : List A) → Ordered R xs → Ordered S xs
  ordered-weaker R S h [] o = tt
  ordered-weaker R S h (x ∷ xs) o = (all_map (R x) (S x) (h x) xs o.0, ordered-weaker R S h xs o.1)

  ordered-put : (R : A → A → Type 0) (b : Bool) (x : A) (r : List A) → All (R x) r → Ordered R r → Ordered R (put_if b x r)
  ordered-put R true x r t o = (t, o)
  ordered-put R false x r t o = o

  pub ordered-keep : (R : A → A → Type 0) (p : A → Bool) (xs : List A) → Ordered R xs → Ordered R (keep p xs)
  ordered-keep R p [] o = tt
  ordered-keep R p (x ∷ xs) o = ordered-put R (p x) x (keep p xs) (all_keep (R x) (R x) p (λ y t r. r) xs o.0) (ordered-keep R p xs o.1)

  -- TWO LISTS IN ONE ORDER WITH THE SAME MEMBERS ARE ONE LIST, where no two entries stand before each other
  pub ordered_same : (R : A → A → Type 0) → ((x y : A) → R x y → R y x → ⊥) → (xs ys : List A) → Ordered R xs → Ordered R ys
      → ((a : A) → In a xs → In a ys) → ((a : A) → In a ys → In a xs) → xs ≡ ys
  ordered_same R once [] [] o q f g = refl
  ordered_same R once [] (y ∷ ys) o q f g = absurd (g y (inl refl))
  ordered_same R once (x ∷ xs) [] o q f g = absurd (f x (inl refl))
  ordered_same R once (x ∷ xs) (y ∷ ys) o q f g = ap₂ ◌∷◌ e (ordered_same R once xs ys o.1 q.1 forth back)
    where
      first : In x (y ∷ ys) → In y (x ∷ xs) → x ≡ y
      first (inl e) h = e
      first (inr i) (inl e) = sym e
      first (inr i) (inr j) = absurd (once x y (all_in (R x) xs o.0 y j) (all_in (R y) ys q.0 x i))

      e : x ≡ y
      e = first (f x (inl refl)) (g y (inl refl))

      strip : (a b : A) (l r : List A) → All (R a) l → a ≡ b → (c : A) → In c l → In c (b ∷ r) → In c r
      strip a b l r t h c i (inr j) = j
      strip a b l r t h c i (inl k) = let z : R a a = subst (R a) (k ∙ sym h) (all_in (R a) l t c i) in absurd (once a a z z)

      forth : (a : A) → In a xs → In a ys
      forth a i = strip x y xs ys o.0 e a i (f a (inr i))

      back : (a : A) → In a ys → In a xs
      back a i = strip y x ys xs q.0 (sym e) a i (g a (inr i))

pub span-ordered : (i n : ℕ) → Ordered ◌<◌ (span i n)
span-ordered i zero = tt
span-ordered i (suc n) = (in_all (λ a. i < a) (span (suc i) n) (λ a h. (span-in (suc i) n a h).0), span-ordered (suc i) n)

pub up_to-ordered : (n : ℕ) → Ordered ◌<◌ (up_to n)
up_to-ordered n = span-ordered 0 n

-- ---- rows sorted by keys

module _ (key : ℕ → ℕ) where
  insert-in : (i : ℕ) (js : List ℕ) (a : ℕ) → In a (insert_by key i js) → In a (i ∷ js)
  insert-in i [] a h = h
  insert-in i (j ∷ js) a h = go (ltb (key j) (key i)) h (insert-in i js a)
    where
      swap : In a (i ∷ js) → In a (i ∷ j ∷ js)
      swap (inl e) = inl e
      swap (inr k) = inr (inr k)

      go : (b : Bool) → In a (cond b (j ∷ insert_by key i js) (i ∷ j ∷ js)) → (In a (insert_by key i js) → In a (i ∷ js)) → In a (i ∷ j ∷ js)
      go true (inl e) rest = inr (inl e)
      go true (inr k) rest = swap (rest k)
      go false k rest = k

  in_insert : (i : ℕ) (js : List ℕ) (a : ℕ) → In a (i ∷ js) → In a (insert_by key i js)
  in_insert i [] a h = h
  in_insert i (j ∷ js) a h = go (ltb (key j) (key i)) h (in_insert i js a)
    where
      go : (b : Bool) → In a (i ∷ j ∷ js) → (In a (i ∷ js) → In a (insert_by key i js)) → In a (cond b (j ∷ insert_by key i js) (i ∷ j ∷ js))
      go true (inl e) rest = inr (rest (inl e))
      go true (inr (inl e)) rest = inl e
      go true (inr (inr k)) rest = inr (rest (inr k))
      go false k rest = k

  -- THE SAME ROWS
  pub sorted-in : (l : List ℕ) (a : ℕ) → In a (sort_by key l) → In a l
  unfolding sort_by
  sorted-in [] a h = h
  sorted-in (i ∷ is) a h = ⊎_elim (λ e. inl e) (λ k. inr (sorted-in is a k)) (insert-in i (sort_by key is) a h)

  pub in-sorted : (l : List ℕ) (a : ℕ) → In a l → In a (sort_by key l)
  unfolding sort_by
  in-sorted [] a h = h
  in-sorted (i ∷ is) a (inl e) = in_insert i (sort_by key is) a (inl e)
  in-sorted (i ∷ is) a (inr h) = in_insert i (sort_by key is) a (inr (in-sorted is a h))

  insert-length : (i : ℕ) (js : List ℕ) → length (insert_by key i js) ≡ suc (length js)
  insert-length i [] = refl
  insert-length i (j ∷ js) = go (ltb (key j) (key i)) (insert-length i js)
    where
      go : (b : Bool) → length (insert_by key i js) ≡ suc (length js) → length (cond b (j ∷ insert_by key i js) (i ∷ j ∷ js)) ≡ suc (suc (length js))
      go true e = ap suc e
      go false e = refl

  pub sorted-length : (l : List ℕ) → length (sort_by key l) ≡ length l
  unfolding sort_by
  sorted-length [] = refl
  sorted-length (i ∷ is) = insert-length i (sort_by key is) ∙ ap suc (sorted-length is)

  pub all-sorted : (P : ℕ → Type 0) (l : List ℕ) → All P l → All P (sort_by key l)
  all-sorted P l t = in_all P (sort_by key l) (λ a h. all_in P l t a (sorted-in l a h))

  -- by key, and of equal keys by row
  abbrev pub Before : ℕ → ℕ → Type 0
  Before i j = (key i < key j) ⊎ ((key i ≡ key j) × (i < j))

  pub before-then : (i j k : ℕ) → Before i j → Before j k → Before i k
  before-then i j k (inl a) (inl b) = inl (omega arith)
  before-then i j k (inl a) (inr b) = inl (omega (arith, b.0))
  before-then i j k (inr a) (inl b) = inl (omega (arith, a.0))
  before-then i j k (inr a) (inr b) = inr (a.0 ∙ b.0, omega (arith, a.1, b.1))

  pub before-once : (i j : ℕ) → Before i j → Before j i → ⊥
  before-once i j (inl a) (inl b) = omega arith
  before-once i j (inl a) (inr b) = omega (arith, b.0)
  before-once i j (inr a) (inl b) = omega (arith, a.0)
  before-once i j (inr a) (inr b) = omega (arith, a.1, b.1)

  insert-ordered : (i : ℕ) (js : List ℕ) → All (λ j. i < j) js → Ordered Before js → Ordered Before (insert_by key i js)
  insert-ordered i [] t o = (tt, tt)
  insert-ordered i (j ∷ js) t o = go (ltb (key j) (key i)) refl (insert-ordered i js t.1 o.1)
    where
      behind : key j < key i → All (Before j) (insert_by key i js)
      behind q = in_all (Before j) (insert_by key i js) (λ a h. all_in (Before j) (i ∷ js) (inl q, o.0) a (insert-in i js a h))

      near : key i ≤ key j → Before i j
      near q =
          elim (dec_le (key j) (key i)) [
            | yes h ↦ inr (omega arith, t.0)
            | no h ↦ inl (omega arith)
          ]

      go : (b : Bool) → ltb (key j) (key i) ≡ b → Ordered Before (insert_by key i js) → Ordered Before (cond b (j ∷ insert_by key i js) (i ∷ j ∷ js))
      go true e rest = (behind (ltb-true (key j) (key i) e), rest)
      go false e rest =
          let n = near (ltb-false (key j) (key i) e) in
          ((n, all_map (Before j) (Before i) (λ a h. before-then i j a n h) js o.0), o)

  -- IN THE ORDER OF THE KEYS, whatever the rows
  pub sorted-ordered : (l : List ℕ) → Ordered ◌<◌ l → Ordered Before (sort_by key l)
  unfolding sort_by
  sorted-ordered [] o = tt
  sorted-ordered (i ∷ is) o = insert-ordered i (sort_by key is) (all-sorted (λ j. i < j) is o.0) (sorted-ordered is o.1)

  -- a test may come before or after
  pub sorted-keep : (p : ℕ → Bool) (l : List ℕ) → Ordered ◌<◌ l → keep p (sort_by key l) ≡ sort_by key (keep p l)
  sorted-keep p l o =
      ordered_same Before before-once (keep p (sort_by key l)) (sort_by key (keep p l)) (ordered-keep Before p (sort_by key l) (sorted-ordered l o))
      (sorted-ordered (keep p l) (ordered-keep ◌<◌ p l o))
      (λ a h. let k = kept_in p (sort_by key l) a h in in-sorted (keep p l) a (in_kept p l a (sorted-in l a k.0) k.1))
      (λ a h. let k = kept_in p l a (sorted-in (keep p l) a h) in in_kept p (sort_by key l) a (in-sorted l a k.0) k.1)

  -- what is in order stays as it is
  pub sorted-same : (l : List ℕ) → Ordered ◌<◌ l → Ordered (λ i j. key i < key j) l → sort_by key l ≡ l
  sorted-same l o r =
      ordered_same Before before-once (sort_by key l) l (sorted-ordered l o) (ordered-weaker (λ i j. key i < key j) Before (λ i j h. inl h) l r) (sorted-in l) (in-sorted l)
