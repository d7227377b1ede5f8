-- The words of 02 (xi) about selections: none is given twice, and what it means that the list was cut. Assumes nothing.
use Rattle.std.specs.Prelude.{false, ◌↔◌, ◌≡◌, List, [], ◌∷◌, ℕ, ◌<◌, T, length, get_or}
use Rattle.as5506.specs.Tables.{Tables, letter_m, count}
use Rattle.as5506.specs.Refusals.{accepted}
use Rattle.as5506.specs.Followed.{In}
use Rattle.as5506.specs.Modes.{modal, is_cut, selection_limit, selections}

-- "None is given twice": at two numbers below the number of selections stand two different selections of M rows
abbrev pub GivenOnce : Tables → Type 0
GivenOnce m = (i j : ℕ) → i < j → j < length (selections m) → get_or (selections m) i [] ≡ get_or (selections m) j [] → ⊥

-- "With no modes at all the number is 0 and nothing is cut"
abbrev pub NoneWithoutModes : Tables → Type 0
NoneWithoutModes m = count m letter_m ≡ 0 → (length (selections m) ≡ 0) × (is_cut selection_limit (modal m) ≡ false)

-- a "combination of all components with modes": one mode of each, in their order
abbrev pub IsCombination : List (List ℕ) → List ℕ → Type 0
IsCombination [] [] = Unit {0}
IsCombination [] (x ∷ s) = ⊥
IsCombination (ms ∷ rest) [] = ⊥
IsCombination (ms ∷ rest) (x ∷ s) = In x ms × IsCombination rest s

-- "some combination of all components with modes is lacking"
abbrev pub Lacks : List (List ℕ) → List (List ℕ) → Type 0
Lacks ls found = (s : List ℕ) × IsCombination ls s × (In s found → ⊥)

-- "else cut is said exactly if some combination of all components with modes is lacking"
abbrev pub CutIfLacking : Tables → Type 0
CutIfLacking m = T (accepted m) → 0 < count m letter_m → T (is_cut selection_limit (modal m)) ↔ Lacks (modal m) (selections m)
