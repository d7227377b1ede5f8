-- What printing from the front of a lent output leaves in it. Assumes nothing.
use Rattle.std.specs.Prelude.{◌≡◌, List, ℕ, ◌≤◌, ◌<◌, length, Option, Some, None}
use Rattle.std.proofs.lemmas.List.Edits.{sets}

-- t is printed into an output: it stands there from the front, and z is its length; or z is none, which tells that the output is too short, and then
-- it may hold anything
pub record Printed (t out : List ℕ) (z : Option ℕ) (out' : List ℕ) : Type 0 where
  pub size : length out' ≡ length out
  pub fits : length t ≤ length out → (z ≡ Some (length t)) × (out' ≡ sets out 0 t)
  pub spills : length out < length t → z ≡ None
