-- The joined name of a selection, one piece behind the other. Assumes nothing.
use mathlib.Core.Path.{◌≡◌, refl, sym, ap, ◌∙◌}
use mathlib.Core.List.{List, [], ◌∷◌, ◌++◌}
use Prim.Native.Nat.{ℕ, ◌-◌, ◌≤◌}
use native.Mathlib.Omega.{arith}
use lib.ListN.{length, get_or, take, drop}
use lib.Seq.{take_all}
use Rattle.as5506.specs.Lists.{each}
use Rattle.as5506.specs.Tables.{Tables}
use Rattle.as5506.specs.Modes.{underscore, underscored, mode_name, joined_name}
use Rattle.as5506.proofs.Laws.{each_map}

module _ (m : Tables) where
  -- a name behind the first, with an underscore before it
  abbrev pub behind : ℕ → List ℕ
  behind x = underscore ∷ mode_name m x

  pub joined_none : (rows : List ℕ) → length rows ≡ 0 → joined_name m rows ≡ []
  unfolding joined_name underscored
  joined_none [] h = refl
  joined_none (x ∷ xs) h = absurd (omega (arith, h))

  -- the first name and those behind it
  pub joined_some : (rows : List ℕ) → 1 ≤ length rows → joined_name m rows ≡ mode_name m (get_or rows 0 0) ++ each behind (take (length rows - 1) (drop 1 rows))
  unfolding joined_name underscored
  joined_some [] h = absurd (omega (arith, h))
  joined_some (x ∷ xs) h =
      ap (λ (l : List ℕ). mode_name m x ++ l) (each_map (λ (v : List ℕ). underscore ∷ v) (mode_name m) xs ∙ ap (each behind) (sym (take_all (length (x ∷ xs) - 1) xs (omega arith))))
