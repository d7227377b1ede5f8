-- A path's places: a list, and zeros behind it. Assumes nothing.
use mathlib.Core.Bool.{Bool, true, false, cond}
use mathlib.Core.Path.{◌≡◌, refl, sym, ap, ◌∙◌}
use mathlib.Core.List.{List, [], ◌∷◌, ◌++◌}
use Prim.Native.Nat.{ℕ, suc, ◌+◌, ◌<◌, ◌≤◌}
use native.Mathlib.Numerals.{add-one}
use native.Mathlib.Omega.{arith}
use lib.ListN.{length, get_or, take, drop, set, length-append, drop_of_length-le}
use lib.Seq.{drop-cons, take-append_seam, take-suc-set}
use Rattle.as5506.specs.Lists.{has, zeros, padded}
use Rattle.as5506.specs.Tracing.{append_new}
use Rattle.lent.proofs.Sets.{drop-zeros}
use Rattle.lent.proofs.Padded.{padded-put, padded-none}
use Rattle.path.specs.Places.{size, front-size}

-- no number
pub places_none : (n : ℕ) → zeros n ≡ padded n []
places_none n = sym (padded-none n)

-- one number more behind the first len of n places
module _ (n len : ℕ) (places : List ℕ) (h : len ≤ n) (e : places ≡ padded n (take len places)) (v : ℕ) (g : len < n) where
  pub front-put : take (len + 1) (set places len v) ≡ take len places ++ (v ∷ [])
  front-put = rw (add-one len) (take-suc-set places len v (omega (arith, size n len places h e)))

  pub places_put : set places len v ≡ padded n (take (len + 1) (set places len v))
  places_put =
      let k : length (take len places) ≡ len = front-size n len places h e in
      ap (λ (r : List ℕ). set r len v) e ∙ ap (λ (i : ℕ). set (padded n (take len places)) i v) (sym k)
      ∙ padded-put n (take len places) (v ∷ []) (omega (arith, length-append (take len places) (v ∷ []), k)) ∙ ap (padded n) (sym front-put)

-- a list written into zeros
module _ (n : ℕ) (l : List ℕ) (h : length l ≤ n) where
  pub front-of : (copied : List ℕ) → copied ≡ l → take (length l) (copied ++ drop (length l) (zeros n)) ≡ l
  front-of copied e = ap (λ (r : List ℕ). take (length l) (r ++ drop (length l) (zeros n))) e ∙ take-append_seam l (drop (length l) (zeros n))

  pub places_of : (copied : List ℕ) → copied ≡ l → copied ++ drop (length l) (zeros n) ≡ padded n (take (length l) (copied ++ drop (length l) (zeros n)))
  unfolding padded
  places_of copied e = rw (front-of copied e, e, drop-zeros (length l) n) refl

-- those that are new, one after the other
pub one_more : (p : List ℕ) (v : ℕ) → length (p ++ (v ∷ [])) ≡ length p + 1
one_more p v = length-append p (v ∷ [])

append-step : (p r : List ℕ) (x : ℕ) (b : Bool) → has x p ≡ b → append_new p (x ∷ r) ≡ append_new (cond b p (p ++ (x ∷ []))) r
unfolding append_new
append-step p r x b e = ap (λ (t : Bool). append_new (cond t p (p ++ (x ∷ []))) r) e

-- number i of l is looked at, b tells whether it is among them
append-next : (l p : List ℕ) (i : ℕ) (b : Bool) → i < length l → has (get_or l i 0) p ≡ b → append_new p (drop i l) ≡ append_new (cond b p (p ++ (get_or l i 0 ∷ []))) (drop (i + 1) l)
append-next l p i b h e =
    ap (append_new p) (drop-cons l i 0 h) ∙ append-step p (drop (suc i) l) (get_or l i 0) b e
    ∙ ap (λ (k : ℕ). append_new (cond b p (p ++ (get_or l i 0 ∷ []))) (drop k l)) (sym (add-one i))

pub append_old : (l p : List ℕ) (i : ℕ) → i < length l → has (get_or l i 0) p ≡ true → append_new p (drop i l) ≡ append_new p (drop (i + 1) l)
append_old l p i h e = append-next l p i true h e

pub append_more : (l p : List ℕ) (i : ℕ) → i < length l → has (get_or l i 0) p ≡ false → append_new p (drop i l) ≡ append_new (p ++ (get_or l i 0 ∷ [])) (drop (i + 1) l)
append_more l p i h e = append-next l p i false h e

pub append_done : (l p : List ℕ) (i : ℕ) → length l ≤ i → append_new p (drop i l) ≡ p
unfolding append_new
append_done l p i h = ap (append_new p) (drop_of_length-le l h)
