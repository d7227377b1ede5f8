-- Operation modes, 02 (xi). Assumes nothing.
use Rattle.std.specs.Prelude.{Bool, true, false, not, List, [], ◌∷◌, ◌++◌, map, ℕ, ◌*◌, ltb, length, get_or, take}
use Rattle.as5506.specs.Lists.{keep, is_nil, each}
use Rattle.as5506.specs.Tables.{Tables, letter_c, rows_of, name_of, m_name, modes_of}
use Rattle.as5506.specs.Answers.{Refusal, Answer, refused, fault, given, unless_faults}
use Rattle.as5506.specs.Refusals.{faults}

-- ---- the selections: each is a list of M rows, one mode of each component with modes

-- "Components with modes and their modes come in row order": the modes of each component that has some
unfoldable pub modal : Tables → List (List ℕ)
modal m = keep (λ ms. not (is_nil ms)) (map (modes_of m) (rows_of m letter_c))

-- each selection so far with each mode of the next component: "the last one's mode changes fastest"
abbrev pub extended : List (List ℕ) → List ℕ → List (List ℕ)
extended so ms = each (λ s. map (λ x. s ++ (x ∷ [])) ms) so

-- "If the growing list passes 10,000 at a component, its first 10,000 selections count and later components are missing from each": by whether the list
-- that this component makes passes the limit, 10,000 (trials try smaller ones); that list; and what the later components make of it
abbrev pub grown_by : Bool → ℕ → List (List ℕ) → (List (List ℕ) → List (List ℕ)) → List (List ℕ)
grown_by true limit next later = take limit next
grown_by false limit next later = later next

unfoldable pub grown : ℕ → List (List ℕ) → List (List ℕ) → List (List ℕ)
grown limit so [] = so
grown limit so (ms ∷ rest) = grown_by (ltb limit (length (extended so ms))) limit (extended so ms) (λ next. grown limit next rest)

-- "With no modes at all the number is 0": the selections of components with these modes, grown from the one in which nothing is chosen yet
unfoldable pub selections_of : ℕ → List (List ℕ) → List (List ℕ)
selections_of limit [] = []
selections_of limit (ms ∷ rest) = grown limit ([] ∷ []) (ms ∷ rest)

-- how many combinations of all these components there are; "whether it was cut": there are more than the limit
unfoldable pub combinations : List (List ℕ) → ℕ
combinations [] = 1
combinations (ms ∷ rest) = length ms * combinations rest

abbrev pub is_cut : ℕ → List (List ℕ) → Bool
is_cut limit ls = ltb limit (combinations ls)

abbrev pub selection_limit : ℕ
selection_limit = 10000

-- THE SELECTIONS of a model, in their order: "the combinations of modes, as `compute_soms` gives them"
unfoldable pub selections : Tables → List (List ℕ)
selections m = selections_of selection_limit (modal m)

-- ---- "the mode names are joined by an underscore"

abbrev pub underscore : ℕ
underscore = 95

unfoldable pub underscored : List (List ℕ) → List ℕ
underscored [] = []
underscored (w ∷ ws) = w ++ each (λ v. underscore ∷ v) ws

abbrev pub mode_name : Tables → ℕ → List ℕ
mode_name m x = name_of m (m_name m x)

unfoldable pub joined_name : Tables → List ℕ → List ℕ
joined_name m s = underscored (map (mode_name m) s)

-- ---- THE TWO CALLS

-- "One call gives the number of selections and whether it was cut"
pub record Modes : Type 0 where
  pub number : ℕ
  pub cut : Bool

unfoldable pub modes_counted : Tables → Modes
modes_counted m = record { number = length (selections m); cut = is_cut selection_limit (modal m) }

unfoldable pub modes_on : Tables → List Refusal → Answer Modes
modes_on m [] = given (modes_counted m)
modes_on m (r ∷ rs) = refused r

unfoldable pub modes_answer : Tables → Answer Modes
modes_answer m = modes_on m (faults m)

-- "another the selection at a number the caller names, as `M` rows with the joined name"
pub record Selection : Type 0 where
  pub rows : List ℕ
  pub name : List ℕ

abbrev pub selection_with : Tables → List ℕ → Selection
selection_with m s = record { rows = s; name = joined_name m s }

unfoldable pub selection_at : Tables → ℕ → Selection
selection_at m k = selection_with m (get_or (selections m) k [])

-- "A selection number not below the number of selections is refused as 20, after the tables' checks; a selection longer than its output is then the
-- existing 11, and a joined name longer than its output the existing 14": rows and names are the lengths of the two outputs. Past the last
-- number the selection is empty, so that 20 never stands beside 11 or 14
unfoldable pub selection_within : ℕ → ℕ → Tables → ℕ → Selection → Answer Selection
selection_within rows names m k s =
    unless_faults (fault 20 (not (ltb k (length (selections m)))) ++ fault 11 (ltb rows (length s.rows)) ++ fault 14 (ltb names (length s.name))) s

unfoldable pub selection_on : ℕ → ℕ → Tables → ℕ → List Refusal → Answer Selection
selection_on rows names m k [] = selection_within rows names m k (selection_at m k)
selection_on rows names m k (r ∷ rs) = refused r

unfoldable pub selection_answer : ℕ → ℕ → Tables → ℕ → Answer Selection
selection_answer rows names m k = selection_on rows names m k (faults m)
