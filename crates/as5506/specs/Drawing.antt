-- The words of 02 (i): a list of children in the order of the drawing. Assumes nothing.
use Rattle.std.specs.Prelude.{◌≡◌, List, [], ◌∷◌, ℕ, ◌<◌}
use Rattle.as5506.specs.Tables.{Tables, c_count, c_parent, c_place}
use Rattle.as5506.specs.Followed.{In}

-- each component has a smaller place than all behind it
abbrev pub PlacesRise : Tables → List ℕ → Type 0
PlacesRise m [] = Unit {0}
PlacesRise m (i ∷ is) = ((j : ℕ) → In j is → c_place m i < c_place m j) × PlacesRise m is

-- "the children of a cabinet must come in the order of the drawing": l has the rows that name c as their parent, these alone and each of them, by rising place
pub record InDrawingOrder (m : Tables) (c : ℕ) (l : List ℕ) : Type 0 where
  pub alone : (i : ℕ) → In i l → (i < c_count m) × (c_parent m i ≡ c)
  pub each : (i : ℕ) → i < c_count m → c_parent m i ≡ c → In i l
  pub rising : PlacesRise m l
