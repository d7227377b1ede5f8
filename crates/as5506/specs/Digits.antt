-- The selection at a number by its digits, without the list: a law beside 02 (xi), by which the code goes. Assumes nothing.
use Rattle.std.specs.Prelude.{Bool, true, false, ◌≡◌, List, [], ◌∷◌, ℕ, ◌*◌, ◌/◌, ◌%◌, ◌<◌, ltb, length, get_or}
use Rattle.as5506.specs.Tables.{Tables}
use Rattle.as5506.specs.Modes.{modal, combinations, selection_limit, selections}

-- the components that count: up to the one at which the list, n long before them, passes the limit
abbrev pub counted_by : Bool → List (List ℕ) → List (List ℕ)
counted_by true later = []
counted_by false later = later

unfoldable pub counted : ℕ → ℕ → List (List ℕ) → List (List ℕ)
counted limit n [] = []
counted limit n (ms ∷ rest) = ms ∷ counted_by (ltb limit (n * length ms)) (counted limit (n * length ms) rest)

-- of each component in turn: how often the combinations of the later ones go into the number; they choose by what remains
unfoldable pub pick : List (List ℕ) → ℕ → List ℕ
pick [] k = []
pick (ms ∷ rest) k = get_or ms (k / combinations rest) 0 ∷ pick rest (k % combinations rest)

-- "the last one's mode changes fastest": number k stands for the modes by its digits, of which each component that counts has one
abbrev pub ByDigits : Tables → Type 0
ByDigits m = (k : ℕ) → k < length (selections m) → get_or (selections m) k [] ≡ pick (counted selection_limit 1 (modal m)) k
