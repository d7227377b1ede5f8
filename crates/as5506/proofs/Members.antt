-- Laws of the entries of lists: of mapped, joined and cut ones, where a member stands, and lists of entries that all differ. Assumes nothing.
use mathlib.Core.Logic.{◌⊎◌, inl, inr}
use mathlib.Core.Path.{◌≡◌, refl, sym, ap, subst, ◌∙◌}
use mathlib.Core.List.{List, [], ◌∷◌, ◌++◌, map, map-append}
use Prim.Native.Nat.{ℕ, zero, suc, ◌<◌}
use native.Mathlib.Omega.{arith}
use lib.ListN.{length, get_or, take}
use Rattle.as5506.specs.Lists.{each}
use Rattle.as5506.specs.Followed.{In}
use Rattle.as5506.proofs.Laws.{All, all-at, all_in, all_append, all-mapped}
use Rattle.as5506.proofs.Sorted.{Ordered}

-- ---- what a function gives for each entry

pub map_each : {A B C : Type 0} (f : B → C) (g : A → List B) (xs : List A) → map f (each g xs) ≡ each (λ x. map f (g x)) xs
map_each f g [] = refl
map_each f g (x ∷ xs) = map-append f (g x) (each g xs) ∙ ap (λ r. map f (g x) ++ r) (map_each f g xs)

-- ---- members

-- each entry is a member, and each member stands somewhere
pub at_in : {A : Type 0} (xs : List A) (d : A) (i : ℕ) → i < length xs → In (get_or xs i d) xs
at_in [] d i h = absurd (omega arith)
at_in (x ∷ xs) d zero h = inl refl
at_in (x ∷ xs) d (suc i) h = inr (at_in xs d i (omega arith))

pub in-at : {A : Type 0} (a : A) (xs : List A) (d : A) → In a xs → (i : ℕ) × (i < length xs) × (a ≡ get_or xs i d)
in-at a [] d h = absurd h
in-at a (x ∷ xs) d (inl e) = (0, omega arith, e)
in-at a (x ∷ xs) d (inr h) = let r = in-at a xs d h in (suc r.0, omega (arith, r.1), r.2)

pub append-in : {A : Type 0} (a : A) (xs ys : List A) → In a xs ⊎ In a ys → In a (xs ++ ys)
append-in a [] ys (inl h) = absurd h
append-in a [] ys (inr h) = h
append-in a (x ∷ xs) ys (inl (inl e)) = inl e
append-in a (x ∷ xs) ys (inl (inr h)) = inr (append-in a xs ys (inl h))
append-in a (x ∷ xs) ys (inr h) = inr (append-in a xs ys (inr h))

pub map-in : {A B : Type 0} (f : A → B) (a : A) (xs : List A) → In a xs → In (f a) (map f xs)
map-in f a [] h = absurd h
map-in f a (x ∷ xs) (inl e) = inl (ap f e)
map-in f a (x ∷ xs) (inr h) = inr (map-in f a xs h)

pub each-in : {A B : Type 0} (f : A → List B) (a : A) (xs : List A) (b : B) → In a xs → In b (f a) → In b (each f xs)
each-in f a [] b h i = absurd h
each-in f a (x ∷ xs) b (inl e) i = append-in b (f x) (each f xs) (inl (subst (λ z. In b (f z)) e i))
each-in f a (x ∷ xs) b (inr h) i = append-in b (f x) (each f xs) (inr (each-in f a xs b h i))

-- ---- the front of a list

pub all-take : {A : Type 0} (P : A → Type 0) (n : ℕ) (xs : List A) → All P xs → All P (take n xs)
all-take P zero xs t = tt
all-take P (suc n) [] t = tt
all-take P (suc n) (x ∷ xs) t = (t.0, all-take P n xs t.1)

-- ---- entries that all differ

abbrev pub Apart : {A : Type 0} → A → A → Type 0
Apart a b = a ≡ b → ⊥

pub ordered-append : {A : Type 0} (R : A → A → Type 0) (xs ys : List A) → Ordered R xs → Ordered R ys → All (λ x. All (R x) ys) xs → Ordered R (xs ++ ys)
ordered-append R [] ys o q h = q
ordered-append R (x ∷ xs) ys o q h = (all_append (R x) xs ys o.0 h.0, ordered-append R xs ys o.1 q h.1)

pub ordered-map : {A B : Type 0} (R : A → A → Type 0) (S : B → B → Type 0) (f : A → B) → ((x y : A) → R x y → S (f x) (f y)) → (xs : List A) → Ordered R xs → Ordered S (map f xs)
ordered-map R S f h [] o = tt
ordered-map R S f h (x ∷ xs) o = (all-mapped (R x) (S (f x)) f (h x) xs o.0, ordered-map R S f h xs o.1)

pub ordered-take : {A : Type 0} (R : A → A → Type 0) (n : ℕ) (xs : List A) → Ordered R xs → Ordered R (take n xs)
ordered-take R zero xs o = tt
ordered-take R (suc n) [] o = tt
ordered-take R (suc n) (x ∷ xs) o = (all-take (R x) n xs o.0, ordered-take R n xs o.1)

-- entry i stands nowhere among the first i of a list of different entries
pub not-before : {A : Type 0} (xs : List A) (d : A) (i : ℕ) → Ordered Apart xs → i < length xs → In (get_or xs i d) (take i xs) → ⊥
not-before [] d i o l h = absurd (omega arith)
not-before (x ∷ xs) d zero o l h = h
not-before (x ∷ xs) d (suc i) o l (inl e) = all_in (Apart x) xs o.0 (get_or xs i d) (at_in xs d i (omega arith)) (sym e)
not-before (x ∷ xs) d (suc i) o l (inr h) = not-before xs d i o.1 (omega arith) h

-- of two places in such a list, two entries
pub two-places : {A : Type 0} (xs : List A) (d : A) (i j : ℕ) → Ordered Apart xs → i < j → j < length xs → Apart (get_or xs i d) (get_or xs j d)
two-places [] d i j o h l = absurd (omega arith)
two-places (x ∷ xs) d i zero o h l = absurd (omega arith)
two-places (x ∷ xs) d zero (suc j) o h l = all-at (Apart x) xs o.0 d j (omega arith)
two-places (x ∷ xs) d (suc i) (suc j) o h l = two-places xs d i j o.1 (omega arith) (omega arith)
