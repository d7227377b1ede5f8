-- The children of a component, in the order of the drawing. Assumes nothing.
use mathlib.Core.Bool.{Bool, true, false, ◌&&◌}
use mathlib.Core.Logic.{inl, inr}
use mathlib.Core.Path.{◌≡◌, sym, ap, ◌∙◌}
use mathlib.Core.List.{List, [], ◌∷◌}
use Prim.Native.Nat.{ℕ, ◌<◌}
use native.Mathlib.Omega.{arith}
use lib.Dec.{T, eqb, eqb→eq, eqb_refl}
use Rattle.as5506.specs.Lists.{up_to, keep, sort_by, has}
use Rattle.as5506.specs.Tables.{Tables, letter_c, rows_naming, c_count, c_parent, c_place, children_of}
use Rattle.as5506.specs.Names.{Comparison, bracket}
use Rattle.as5506.specs.Tracing.{is_named, is_element, or_elements, found_children}
use Rattle.as5506.specs.Followed.{In}
use Rattle.as5506.specs.Drawing.{PlacesRise, InDrawingOrder}
use Rattle.as5506.specs.Refusals.{place_key, faults16, accepted}
use Rattle.as5506.proofs.Laws.{all_in, in_all}
use Rattle.as5506.proofs.Scans.{keep-both}
use Rattle.as5506.proofs.Accepted.{no-16}
use Rattle.as5506.proofs.Keys.{keys-unique}
use Rattle.as5506.proofs.Sorted.{kept_in, in_kept, up_to-in, in-up_to, Ordered, ordered-with, ordered-keep, ordered_same, up_to-ordered, sorted-in, in-sorted, Before, sorted-ordered, sorted-keep, sorted-same}

-- ---- THE SAME CHILDREN as the rows that name the parent, whatever the tables

pub child-row : (m : Tables) (c i : ℕ) → In i (children_of m c) → (i < c_count m) × (c_parent m i ≡ c)
unfolding rows_naming
child-row m c i h =
    let k = kept_in (λ j. eqb (c_parent m j) c) (up_to (c_count m)) i (sorted-in (c_place m) (rows_naming m letter_c (c_parent m) c) i h) in
    (up_to-in (c_count m) i k.0, eqb→eq (c_parent m i) c k.1)

pub row-child : (m : Tables) (c i : ℕ) → i < c_count m → c_parent m i ≡ c → In i (children_of m c)
unfolding rows_naming
row-child m c i h e =
    in-sorted (c_place m) (rows_naming m letter_c (c_parent m) c) i (in_kept (λ j. eqb (c_parent m j) c) (up_to (c_count m)) i (in-up_to (c_count m) i h) (rw e (eqb_refl c)))

rows-ordered : (m : Tables) (c : ℕ) → Ordered ◌<◌ (rows_naming m letter_c (c_parent m) c)
unfolding rows_naming
rows-ordered m c = ordered-keep ◌<◌ (λ i. eqb (c_parent m i) c) (up_to (c_count m)) (up_to-ordered (c_count m))

-- in the order of their places, of equal places by row, whatever the tables
pub children-ordered : (m : Tables) (c : ℕ) → Ordered (Before (c_place m)) (children_of m c)
children-ordered m c = sorted-ordered (c_place m) (rows_naming m letter_c (c_parent m) c) (rows-ordered m c)

-- those that pass a test, as a scan of all rows finds them
pub children-kept : (m : Tables) (c : ℕ) (p : ℕ → Bool) → keep p (children_of m c) ≡ sort_by (c_place m) (keep (λ i. eqb (c_parent m i) c && p i) (up_to (c_count m)))
unfolding rows_naming
children-kept m c p =
    sorted-keep (c_place m) p (rows_naming m letter_c (c_parent m) c) (rows-ordered m c) ∙ ap (sort_by (c_place m)) (keep-both p (λ i. eqb (c_parent m i) c) (up_to (c_count m)))

-- WHAT A NAME FINDS are those of the children that pass a test, whatever the tables
pub found-kept : (same : Comparison) (m : Tables) (c : ℕ) (w : List ℕ) (P : List ℕ → Type 0) → ((p : ℕ → Bool) → P (keep p (children_of m c))) → P (found_children same m c w)
unfolding found_children or_elements
found-kept same m c w P kept = go (has bracket w) (keep (is_named same m w) (children_of m c)) (kept (is_named same m w))
  where
    go : (b : Bool) (l : List ℕ) → P l → P (or_elements b m c w l)
    go b (i ∷ l) h = h
    go true [] h = h
    go false [] h = kept (is_element m w)

-- ---- WHERE PLACES RISE WITH THE ROWS, the children come by row

pub children-by-row : (m : Tables) (c : ℕ) → Ordered (λ i j. c_place m i < c_place m j) (rows_naming m letter_c (c_parent m) c) → children_of m c ≡ rows_naming m letter_c (c_parent m) c
children-by-row m c o = sorted-same (c_place m) (rows_naming m letter_c (c_parent m) c) (rows-ordered m c) o

-- ---- rising places, said in the two ways

rise : (m : Tables) (l : List ℕ) → Ordered (λ i j. c_place m i < c_place m j) l → PlacesRise m l
rise m [] o = tt
rise m (i ∷ is) o = (all_in (λ j. c_place m i < c_place m j) is o.0, rise m is o.1)

risen : (m : Tables) (l : List ℕ) → PlacesRise m l → Ordered (λ i j. c_place m i < c_place m j) l
risen m [] o = tt
risen m (i ∷ is) o = (in_all (λ j. c_place m i < c_place m j) is o.0, risen m is o.1)

-- ---- accepted tables

module _ (m : Tables) (ok : T (accepted m)) where
  -- siblings with the same place are one row
  one_place : (i j : ℕ) → i < c_count m → j < c_count m → c_parent m i ≡ c_parent m j → c_place m i ≡ c_place m j → i ≡ j
  unfolding faults16
  one_place i j hi hj e f = keys-unique (place_key m) 16 m letter_c (no-16 m ok) i j hi hj (rw (e, f) (both (eqb (c_parent m j) (c_parent m j)) (eqb (c_place m j) (c_place m j)) (eqb_refl (c_parent m j)) (eqb_refl (c_place m j))))
    where
      both : (a b : Bool) → T a → T b → T ((a && (b && true)) && true)
      both true true t u = tt
      both true false t u = u
      both false b t u = t

  -- CHILDREN ASCEND BY PLACE, no two of one parent having the same
  children-ascend : (c : ℕ) → Ordered (λ i j. c_place m i < c_place m j) (children_of m c)
  children-ascend c =
      ordered-with (λ i. (i < c_count m) × (c_parent m i ≡ c)) (Before (c_place m)) (λ i j. c_place m i < c_place m j) strict (children_of m c)
      (in_all (λ i. (i < c_count m) × (c_parent m i ≡ c)) (children_of m c) (child-row m c)) (children-ordered m c)
    where
      strict : (i j : ℕ) → (i < c_count m) × (c_parent m i ≡ c) → (j < c_count m) × (c_parent m j ≡ c) → Before (c_place m) i j → c_place m i < c_place m j
      strict i j p q (inl h) = h
      strict i j p q (inr h) = let e = one_place i j p.0 q.0 (p.1 ∙ sym q.1) h.0 in absurd (omega (arith, h.1, e))

  -- THE CHILDREN STAND IN THE ORDER OF THE DRAWING
  pub drawing-order : (c : ℕ) → InDrawingOrder m c (children_of m c)
  drawing-order c = record { alone = child-row m c; each = row-child m c; rising = rise m (children_of m c) (children-ascend c) }

  -- and no other list does
  pub drawing-order-only : (c : ℕ) (l : List ℕ) → InDrawingOrder m c l → l ≡ children_of m c
  drawing-order-only c l d =
      ordered_same (λ i j. c_place m i < c_place m j) (λ i j a b. omega (arith, a, b)) l (children_of m c) (risen m l d.rising) (children-ascend c)
      (λ i h. let k = d.alone i h in row-child m c i k.0 k.1) (λ i h. let k = child-row m c i h in d.each i k.0 k.1)

  -- WHAT A NAME FINDS FOLLOWS THE PLACES: pairs and steps are made of these children, and the group listing takes the first
  pub found-rise : (same : Comparison) (c : ℕ) (w : List ℕ) → PlacesRise m (found_children same m c w)
  found-rise same c w =
      found-kept same m c w (PlacesRise m) (λ p. rise m (keep p (children_of m c)) (ordered-keep (λ i j. c_place m i < c_place m j) p (children_of m c) (children-ascend c)))
