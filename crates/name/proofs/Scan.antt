-- Laws of tests of all bytes of a name, and of the name up to its first bracket. Assumes nothing.
use mathlib.Core.Bool.{Bool, true, false, cond}
use mathlib.Core.Path.{◌≡◌, refl, sym, ap, ◌∙◌}
use mathlib.Core.List.{List, [], ◌∷◌}
use Prim.Native.Nat.{ℕ, suc, ◌+◌, ◌≤◌}
use lib.Dec.{eqb, ltb}
use lib.ListN.{length, take}
use borrow.Author.Tests.{ltb-false, le-leb}
use native.Mathlib.Omega.{arith}
use Rattle.std.proofs.lemmas.List.{take_all}
use Rattle.std.specs.Prelude.{Option, Some, None}
use Rattle.std.specs.List.{list_all, position_or_len}
use Rattle.as5506.specs.Lists.{all_of}
use Rattle.as5506.specs.Names.{name_byte, good_name, bracket, base_name}

pub all-is : (p : ℕ → Bool) (s : List ℕ) → list_all p s ≡ all_of p s
all-is p [] = refl
all-is p (x ∷ s) = rw (all-is p s)

pub good-is : (s : List ℕ) (z : Bool) → 1 ≤ length s → length s ≤ 63 → z ≡ all_of name_byte s → z ≡ good_name s
unfolding good_name
good-is s z l h e = rw (le-leb 1 (length s) l, le-leb (length s) 63 h) e

abbrev pub is_bracket : ℕ → Bool
is_bracket b = eqb b bracket

-- the place of the first bracket, or the length
pub base-is : (s : List ℕ) → take (position_or_len is_bracket s) s ≡ base_name s
unfolding base_name
base-is [] = refl
base-is (b ∷ s) = go (eqb b bracket) refl (base-is s)
  where
    go : (z : Bool) → eqb b bracket ≡ z → take (position_or_len is_bracket s) s ≡ base_name s → take (position_or_len is_bracket (b ∷ s)) (b ∷ s) ≡ base_name (b ∷ s)
    go true e rest = rw e
    go false e rest =
        let next : 1 + position_or_len is_bracket s ≡ suc (position_or_len is_bracket s) = omega arith in
        rw (e, next) (ap (λ (t : List ℕ). b ∷ t) rest)

pub at-some : (z : Bool) (p n : ℕ) → ◌≡◌ {A = Option ℕ} (Some n) (cond z (Some p) None) → n ≡ p
at-some true p n e = cc
at-some false p n e = cc

at-none : (z : Bool) (p : ℕ) → ◌≡◌ {A = Option ℕ} None (cond z (Some p) None) → z ≡ false
at-none true p e = cc
at-none false p e = refl

pub base-none : (s : List ℕ) → ◌≡◌ {A = Option ℕ} None (cond (ltb (position_or_len is_bracket s) (length s)) (Some (position_or_len is_bracket s)) None) → s ≡ base_name s
base-none s e =
    let h : length s ≤ position_or_len is_bracket s = ltb-false (position_or_len is_bracket s) (length s) (at-none _ _ e) in
    sym (take_all (position_or_len is_bracket s) s h) ∙ base-is s
