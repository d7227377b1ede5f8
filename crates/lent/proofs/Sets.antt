-- Laws of `sets l i vs`, the list l with the block vs written from place i on, as far as l reaches: what `put_all` leaves.
-- Numbers and bytes are both ℕ. Its length is `length-sets`, and the list in three parts `sets-eq`, of lib.Seq. Assumes nothing.
use mathlib.Core.Path.{◌≡◌, refl, sym, ap, ◌∙◌}
use mathlib.Core.List.{List, [], ◌∷◌, ◌++◌, append-nil, append_assoc}
use Prim.Native.Nat.{min, ℕ, zero, suc, ◌+◌, ◌-◌, ◌≤◌, ◌<◌}
use native.Mathlib.Nat.{add-zero, add-suc, suc-add, sub-zero, zero-sub, suc-sub-suc}
use native.Mathlib.Numerals.{add-one}
use native.Mathlib.Omega.{arith}
use lib.ListN.{length, take, drop, get_or, set, length-set, drop_of_length-le}
use borrow.Rule.Slice.PartMut.{put_mid}
use native.Mathlib.Decide.{dec_le}
use Rattle.std.proofs.Math.Nat.{min-le_left, min-le_right, min-eq_left, min-eq_right}
use Rattle.std.proofs.lemmas.List.{length-take-le}
use lib.Seq.{drop-cons, drop-drop, length-sets, take-length}
use lib.Seq.{sets, sets-eq, set_out, get_or-set_other, take-set-le, drop-set-lt, take-nil}
use Rattle.as5506.specs.Lists.{zeros}

-- ---- writing

-- two blocks, one behind the other, are one block
pub sets-append : {A : Type 0} (vs ws l : List A) (i : ℕ) → sets l i (vs ++ ws) ≡ sets (sets l i vs) (i + length vs) ws
sets-append [] ws l i = ap (λ (k : ℕ). sets l k ws) (sym (add-zero i))
sets-append (v ∷ vs) ws l i =
    sets-append vs ws (set l i v) (suc i) ∙ ap (λ (k : ℕ). sets (sets (set l i v) (suc i) vs) k ws) (suc-add i (length vs) ∙ sym (add-suc i (length vs)))

-- one place of the block is written, and the rest of it is left to write: the turn of a loop
pub sets-step : {A : Type 0} (vs l : List A) (i j : ℕ) (none : A) → j < length vs → sets l i (drop j vs) ≡ sets (set l i (get_or vs j none)) (i + 1) (drop (j + 1) vs)
sets-step vs l i j none h = rw (add-one i, add-one j, drop-cons vs j none h) refl

-- past the end nothing is written
pub sets-past : {A : Type 0} (vs l : List A) (i : ℕ) → length l ≤ i → sets l i vs ≡ l
sets-past [] l i h = refl
sets-past (v ∷ vs) l i h = rw (set_out l i v h) (sets-past vs l (suc i) (omega arith))

-- the loop that writes a block from place `at` on: the rest of it, from value k on, is left to write
pub record Putting {A : Type 0} (start : List A) (at : ℕ) (block l : List A) (k : ℕ) : Type 0 where
  pub size : length l ≡ length start
  pub rest : sets start at block ≡ sets l (at + k) (drop k block)

module _ {A : Type 0} {start : List A} {at : ℕ} {block : List A} where
  pub putting-start : Putting start at block start 0
  putting-start = record { size = refl; rest = ap (λ (i : ℕ). sets start i block) (sym (add-zero at)) }

  module _ {l : List A} {k : ℕ} (p : Putting start at block l k) where
    pub putting-turn : (none : A) → k < length block → Putting start at block (set l (at + k) (get_or block k none)) (k + 1)
    putting-turn none h =
        let next : at + k + 1 ≡ at + (k + 1) = omega arith in
        record {
          size = length-set l (at + k) (get_or block k none) ∙ p.size;
          rest = p.rest ∙ sets-step block l (at + k) k none h ∙ ap (λ (i : ℕ). sets (set l (at + k) (get_or block k none)) i (drop (k + 1) block)) next;
        }

    -- the block is written, or the end is met
    pub putting-end : min (length block) (length start - at) ≤ k → sets start at block ≡ l
    putting-end h = go (dec_le (length block) (length start - at))
      where
        go : Dec (length block ≤ length start - at) → sets start at block ≡ l
        go (yes g) =
            let m : min (length block) (length start - at) ≡ length block = min-eq_left g in
            p.rest ∙ ap (λ (b : List A). sets l (at + k) b) (drop_of_length-le block (omega (arith, h, m)))
        go (no g) =
            let m : min (length block) (length start - at) ≡ length start - at = min-eq_right (omega (arith, g)) in
            p.rest ∙ sets-past (drop k block) l (at + k) (omega (arith, p.size, h, m))

-- no more of a block is written than there is room for
pub sets-cut : {A : Type 0} (vs l : List A) (i k : ℕ) → k ≡ length l - i → sets l i (take k vs) ≡ sets l i vs
sets-cut [] l i k e = rw (take-nil k) refl
sets-cut (v ∷ vs) l i zero e = sym (sets-past (v ∷ vs) l i (omega (arith, e)))
sets-cut (v ∷ vs) l i (suc k) e = sets-cut vs (set l i v) (suc i) k (omega (arith, e, length-set l i v))

-- the first n of a block, which are all of it or all that there is room for, take the place of as many
pub sets-mid : {A : Type 0} (vs l : List A) (i n : ℕ) → i ≤ length l → n ≡ min (length vs) (length l - i) → put_mid i n l (take n vs) ≡ sets l i vs
sets-mid {A = A} vs l i n h e =
    let all : length (take n vs) ≡ n = length-take-le n vs (omega (arith, e, min-le_left (length vs) (length l - i))) in
    let fits : i + length (take n vs) ≤ length l = omega (arith, e, h, all, min-le_right (length vs) (length l - i)) in
    let ends : i + n ≡ i + length (take n vs) = omega (arith, all) in
    ap (λ (r : List A). take i l ++ (take n vs ++ r)) (drop-drop n i l ∙ ap (λ (k : ℕ). drop k l) ends)
    ∙ sym (append_assoc (take i l) (take n vs) (drop (i + length (take n vs)) l))
    ∙ sym (sets-eq (take n vs) l i fits)
    ∙ go (dec_le (length vs) (length l - i))
  where
    go : Dec (length vs ≤ length l - i) → sets l i (take n vs) ≡ sets l i vs
    go (yes g) = ap (sets l i) (ap (λ (k : ℕ). take k vs) (e ∙ min-eq_left g) ∙ take-length vs)
    go (no g) = sets-cut vs l i n (e ∙ min-eq_right (omega (arith, g)))

-- a block as long as the list takes its place: a copy
pub sets-whole : (vs l : List ℕ) → length vs ≡ length l → sets l 0 vs ≡ vs
sets-whole vs l e =
    sets-eq vs l 0 (omega arith) ∙ ap (λ (r : List ℕ). vs ++ r) (drop_of_length-le l {i = 0 + length vs} (omega arith)) ∙ append-nil vs

-- a block written past the first number leaves it
pub sets-past-head : (vs l : List ℕ) (x i : ℕ) → sets (x ∷ l) (suc i) vs ≡ x ∷ sets l i vs
sets-past-head [] l x i = refl
sets-past-head (v ∷ vs) l x i = sets-past-head vs (set l i v) x (suc i)

-- ---- reading back

-- a place outside the block keeps its number
pub sets-other : (vs l : List ℕ) (i j : ℕ) → (i ≤ j → j < i + length vs → ⊥) → get_or (sets l i vs) j 0 ≡ get_or l j 0
sets-other [] l i j h = refl
sets-other (v ∷ vs) l i j h =
    sets-other vs (set l i v) (suc i) j (λ p q. h (omega arith) (omega arith)) ∙ get_or-set_other l i j v 0 (λ e. h (omega arith) (omega arith))

-- what stands before the block stays
pub sets-before : {A : Type 0} (vs l : List A) (n i : ℕ) → n ≤ i → take n (sets l i vs) ≡ take n l
sets-before [] l n i h = refl
sets-before (v ∷ vs) l n i h = sets-before vs (set l i v) n (suc i) (omega arith) ∙ take-set-le n l i v h

-- what stands behind the block stays
pub sets_behind : (vs l : List ℕ) (n i : ℕ) → i + length vs ≤ n → drop n (sets l i vs) ≡ drop n l
sets_behind [] l n i h = refl
sets_behind (v ∷ vs) l n i h = sets_behind vs (set l i v) n (suc i) (omega arith) ∙ drop-set-lt n l i v (omega arith)

-- a block written over another of its length
pub sets-again : (vs ws l : List ℕ) → length vs ≡ length ws → length ws ≤ length l → sets (sets l 0 vs) 0 ws ≡ sets l 0 ws
sets-again vs ws l e h =
    sets-eq ws (sets l 0 vs) 0 (omega (arith, h, length-sets l 0 vs))
    ∙ ap (λ (r : List ℕ). ws ++ r) (sets_behind vs l (0 + length ws) 0 (omega (arith, e)))
    ∙ sym (sets-eq ws l 0 (omega (arith, h)))

-- ---- zeros

-- a place of zeros, also past their end
pub get_or-zeros : (n i : ℕ) → get_or (zeros n) i 0 ≡ 0
get_or-zeros zero i = refl
get_or-zeros (suc n) zero = refl
get_or-zeros (suc n) (suc i) = get_or-zeros n i

-- the rest of zeros
pub drop-zeros : (m n : ℕ) → drop m (zeros n) ≡ zeros (n - m)
drop-zeros zero n = rw (sub-zero n)
drop-zeros (suc m) zero = rw (zero-sub (suc m))
drop-zeros (suc m) (suc n) = rw (suc-sub-suc n m) (drop-zeros m n)

-- ---- one place

-- what holds of the number at a place holds after a write, if it holds of what is written there
pub placed : (l : List ℕ) (i v k : ℕ) (P : ℕ → Type 0) → P (get_or l k 0) → (i ≡ k → P v) → P (get_or (set l i v) k 0)
placed [] i v k P p q = p
placed (x ∷ l) zero v zero P p q = q refl
placed (x ∷ l) zero v (suc k) P p q = p
placed (x ∷ l) (suc i) v zero P p q = p
placed (x ∷ l) (suc i) v (suc k) P p q = placed l i v k P p (λ e. q (ap suc e))
