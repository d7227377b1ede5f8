-- The digits of a number from the front. Assumes nothing.
use Rattle.std.specs.Prelude.{List, [], ◌∷◌, ℕ, zero, suc, ◌+◌, ◌/◌, ◌%◌, ◌^◌}

-- k digits of a number below ten to the k, zeros in front
unfoldable pub spelt : ℕ → ℕ → List ℕ
spelt zero n = []
spelt (suc k) n = (48 + n / 10 ^ k) ∷ spelt k (n % 10 ^ k)
