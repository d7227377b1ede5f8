-- Laws of the two blocks that are written: a feature's, written name by name behind its head, and a match's, two blocks behind its head.
-- Assumes nothing.
use mathlib.Core.Path.{◌≡◌, sym, ap, ◌∙◌}
use mathlib.Core.List.{List, ◌∷◌, ◌++◌}
use Prim.Native.Nat.{ℕ, ◌+◌, ◌-◌, ◌*◌, ◌≤◌}
use native.Mathlib.Omega.{arith}
use lib.ListN.{length, drop, length-append, length-drop}
use lib.Seq.{sets, length-take-le}
use Rattle.as5506.specs.Lists.{each, zeros, padded}
use Rattle.as5506.specs.Groups.{depth_limit}
use Rattle.as5506.specs.Groups.{Feature as Meant}
use Rattle.as5506.specs.Layout.{row_numbers, feature_numbers, feature_block}
use Rattle.as5506.proofs.Laws.{All, all_map, even-length, padded-length}
use Rattle.lent.proofs.Sets.{sets-append, sets-past-head}
use Rattle.lent.proofs.Padded.{padded-is}
use Rattle.sink.specs.Take.{spare_numbers, match_block, kept_block}

-- ---- a feature's block

pub block-length : (f : Meant) → length f.prefix ≤ depth_limit → length (feature_block f) ≡ feature_numbers
unfolding feature_block
block-length f h = omega (arith, padded-length depth_limit f.prefix h)

pub blocks-length : (fs : List Meant) → All (λ f. length f.prefix ≤ depth_limit) fs → length (each feature_block fs) ≡ length fs * feature_numbers
blocks-length fs t = even-length feature_numbers feature_block fs (all_map (λ (f : Meant). length f.prefix ≤ depth_limit) (λ (f : Meant). length (feature_block f) ≡ feature_numbers) block-length fs t)

-- the names behind the four numbers in front of them, as the code writes them
pub block_put : (f : Meant) (names l : List ℕ) → names ≡ f.prefix → length f.prefix ≤ depth_limit
    → l ≡ sets (f.name ∷ f.kind ∷ f.direction ∷ length names ∷ zeros 10) 4 names → l ≡ feature_block f
unfolding feature_block
block_put f names l n few e =
    e ∙ rw n (sets-past-head f.prefix (f.kind ∷ f.direction ∷ length f.prefix ∷ zeros 10) f.name 3)
    ∙ ap (λ (l : List ℕ). f.name ∷ l) (sets-past-head f.prefix (f.direction ∷ length f.prefix ∷ zeros 10) f.kind 2)
    ∙ ap (λ (l : List ℕ). f.name ∷ f.kind ∷ l) (sets-past-head f.prefix (length f.prefix ∷ zeros 10) f.direction 1)
    ∙ ap (λ (l : List ℕ). f.name ∷ f.kind ∷ f.direction ∷ l) (sets-past-head f.prefix (zeros 10) (length f.prefix) 0)
    ∙ ap (λ (l : List ℕ). f.name ∷ f.kind ∷ f.direction ∷ length f.prefix ∷ l) (padded-is 10 f.prefix few)

-- ---- a match's block

module _ (conn src dst : ℕ) (s d : List ℕ) (p : length s ≡ feature_numbers) (q : length d ≡ feature_numbers) where
  match_is : sets (sets (conn ∷ src ∷ dst ∷ zeros (row_numbers - 3)) 3 s) 17 d ≡ match_block conn src dst s d
  unfolding match_block padded
  match_is =
      let n : 17 ≡ 3 + length s = omega (arith, p) in
      let size : length (s ++ d) ≡ 28 = length-append s d ∙ omega (arith, p, q) in
      let room : row_numbers - 3 - length (s ++ d) ≡ spare_numbers = omega (arith, size) in
      ap (λ (k : ℕ). sets (sets (conn ∷ src ∷ dst ∷ zeros (row_numbers - 3)) 3 s) k d) n
      ∙ sym (sets-append s d (conn ∷ src ∷ dst ∷ zeros (row_numbers - 3)) 3)
      ∙ sets-past-head (s ++ d) (src ∷ dst ∷ zeros (row_numbers - 3)) conn 2
      ∙ ap (λ (l : List ℕ). conn ∷ l) (sets-past-head (s ++ d) (dst ∷ zeros (row_numbers - 3)) src 1)
      ∙ ap (λ (l : List ℕ). conn ∷ src ∷ l) (sets-past-head (s ++ d) (zeros (row_numbers - 3)) dst 0)
      ∙ ap (λ (l : List ℕ). conn ∷ src ∷ dst ∷ l)
      (padded-is (row_numbers - 3) (s ++ d) (omega (arith, size)) ∙ ap (λ (k : ℕ). s ++ d ++ zeros k) room)

-- a kept feature's block is whole
pub kept-length : (kept : List ℕ) (i : ℕ) → i * feature_numbers + feature_numbers ≤ length kept → length (kept_block kept i) ≡ feature_numbers
kept-length kept i h = length-take-le feature_numbers (drop (i * feature_numbers) kept) (omega (arith, h, length-drop (i * feature_numbers) kept))

-- a match's row as the code writes it
pub row_is : (conn src dst : ℕ) (f : Meant) (kept : List ℕ) (i : ℕ) → length f.prefix ≤ depth_limit → i * feature_numbers + feature_numbers ≤ length kept
    → (s d r₁ r₂ : List ℕ) → s ≡ feature_block f → d ≡ kept_block kept i → r₁ ≡ sets (conn ∷ src ∷ dst ∷ zeros (row_numbers - 3)) 3 s → r₂ ≡ sets r₁ 17 d
    → r₂ ≡ match_block conn src dst (feature_block f) (kept_block kept i)
row_is conn src dst f kept i few h s d r₁ r₂ e k g z =
    z ∙ rw (k, g, e) (match_is conn src dst (feature_block f) (kept_block kept i) (block-length f few) (kept-length kept i h))
