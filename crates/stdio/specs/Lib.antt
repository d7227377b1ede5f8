-- What reading takes from a reader whose bytes are known. Assumes nothing.
use Rattle.std.specs.Prelude.{ℕ, List, ◌≤◌, ◌<◌, length, take, Option}
use Rattle.std.specs.Io.KnownBytes.{Consumes, IsAtEnd}

-- the first k places of a slice have its next bytes, and these are all that were left, or the slice is full
abbrev pub Filled : Option (List ℕ) → Option (List ℕ) → List ℕ → ℕ → Type 0
Filled old new into k = (k ≤ length into) × Consumes old new (take k into) × (k < length into → IsAtEnd new)

-- its next bytes are gone, none or more, at most so many
abbrev pub Lost : Option (List ℕ) → Option (List ℕ) → ℕ → Type 0
Lost old new most = (bs : List ℕ) × Consumes old new bs × (length bs ≤ most)
