-- The table of powers of ten. Assumes nothing.
use Rattle.std.specs.Prelude.{Bool, true, ◌&&◌, ◌≡◌, List, [], ◌∷◌, ℕ, ◌*◌, T, eqb, length}

-- entries from p on, each ten times the one before
unfoldable pub tenfold : ℕ → List ℕ → Bool
tenfold p [] = true
tenfold p (x ∷ xs) = eqb x p && tenfold (10 * p) xs

-- the powers of ten that 64 bits hold: twenty entries from 1 on, each ten times the one before
pub record PowersOfTen (table : List ℕ) : Type 0 where
  pub twenty : length table ≡ 20
  pub rule : T (tenfold 1 table)
