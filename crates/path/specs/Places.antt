-- A list in the first of n places, with zeros behind it, is known by its numbers. Assumes nothing.
use Rattle.std.specs.Prelude.{◌≡◌, List, ℕ, ◌≤◌, length, take}
use mathlib.Core.Path.{ap, ◌∙◌}
use native.Mathlib.Omega.{arith}
use Rattle.std.proofs.lemmas.List.{length-take, length-take-le}
use Rattle.as5506.specs.Lists.{padded}
use Rattle.as5506.proofs.Laws.{padded-length}

-- the first len of n places, and zeros behind
module _ (n len : ℕ) (places : List ℕ) (h : len ≤ n) (e : places ≡ padded n (take len places)) where
  pub size : length places ≡ n
  size = ap length e ∙ padded-length n (take len places) (omega (arith, length-take len places))

  pub front-size : length (take len places) ≡ len
  front-size = length-take-le len places (omega (arith, size))
