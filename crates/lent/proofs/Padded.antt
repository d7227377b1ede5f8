-- Laws of `padded n vs`, the list vs and then zeros up to the length n: what a slice holds that was cleared and then written block after block. Its
-- length is `padded-length` of as5506's Laws. Assumes nothing.
use mathlib.Core.Path.{◌≡◌, refl, sym, ap, ◌∙◌}
use mathlib.Core.List.{List, [], ◌∷◌, ◌++◌}
use Prim.Native.Nat.{ℕ, zero, suc, ◌-◌, ◌≤◌}
use native.Mathlib.Nat.{zero-add, sub-zero}
use native.Mathlib.Omega.{arith}
use lib.ListN.{length, take, drop, get_or, length-replicate, length-append}
use lib.Seq.{sets, sets-eq, take-append_seam}
use Rattle.as5506.specs.Lists.{zeros, padded}
use Rattle.lent.proofs.Sets.{sets-append, get_or-zeros, drop-zeros}

-- nothing written yet
pub padded-none : (n : ℕ) → padded n [] ≡ zeros n
unfolding padded
padded-none n = rw (sub-zero n)

-- a list written from the front of zeros
pub padded-is : (n : ℕ) (vs : List ℕ) → length vs ≤ n → sets (zeros n) 0 vs ≡ padded n vs
unfolding padded
padded-is n vs h =
    sets-eq vs (zeros n) 0 (rw (zero-add, length-replicate) h)
    ∙ ap (λ (r : List ℕ). vs ++ r) (ap (λ (k : ℕ). drop k (zeros n)) (zero-add (length vs)) ∙ drop-zeros (length vs) n)

-- a block written behind what is written; `ws` may be one number, since `sets l i (w ∷ [])` is `set l i w`
pub padded-put : (n : ℕ) (vs ws : List ℕ) → length (vs ++ ws) ≤ n → sets (padded n vs) (length vs) ws ≡ padded n (vs ++ ws)
padded-put n vs ws h =
    ap (λ (l : List ℕ). sets l (length vs) ws) (sym (padded-is n vs (omega (arith, h, length-append vs ws))))
    ∙ ap (λ (k : ℕ). sets (sets (zeros n) 0 vs) k ws) (sym (zero-add (length vs)))
    ∙ sym (sets-append vs ws (zeros n) 0)
    ∙ padded-is n (vs ++ ws) h

-- the list, read back
pub padded-front : (n : ℕ) (vs : List ℕ) → take (length vs) (padded n vs) ≡ vs
unfolding padded
padded-front n vs = take-append_seam vs (zeros (n - length vs))

-- a place holds what the list has there, and past the list 0
pub padded-at : (n : ℕ) (vs : List ℕ) (i : ℕ) → get_or (padded n vs) i 0 ≡ get_or vs i 0
unfolding padded
padded-at n vs i = over vs (n - length vs) i
  where
    over : (vs : List ℕ) (m i : ℕ) → get_or (vs ++ zeros m) i 0 ≡ get_or vs i 0
    over [] m i = get_or-zeros m i
    over (v ∷ vs) m zero = refl
    over (v ∷ vs) m (suc i) = over vs m i
