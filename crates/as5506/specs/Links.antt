-- Children by links, 02 (xiii): "build once a first child per component and a next sibling per child, in a lent table that the listing itself fills, and
-- walk these"; refusal 22. Assumes nothing.
use Rattle.std.specs.Prelude.{cond, ◌≡◌, List, [], ◌∷◌, ℕ, zero, suc, ◌+◌, ◌*◌, ◌≤◌, ◌<◌, T, eqb, ltb, get_or, Option, None, Some}
use Rattle.as5506.specs.Lists.{first_of, each, padded}
use Rattle.as5506.specs.Tables.{Tables, letter_c, rows_of, missing, c_count, c_parent, children_of}
use Rattle.as5506.specs.Answers.{Refusal, fault}
use Rattle.as5506.specs.Refusals.{accepted}

-- ---- the links

-- "a first child per component"
unfoldable pub first_child : Tables → ℕ → Option ℕ
first_child m c = first_of (children_of m c)

-- the entries behind i in a list
abbrev pub behind : ℕ → List ℕ → List ℕ
behind i [] = []
behind i (j ∷ js) = cond (eqb i j) js (behind i js)

-- the siblings of component i that come behind it, "in the order of the drawing"
unfoldable pub siblings_behind : Tables → ℕ → List ℕ
siblings_behind m i = behind i (children_of m (c_parent m i))

-- "and a next sibling per child"
unfoldable pub next_sibling : Tables → ℕ → Option ℕ
next_sibling m i = first_of (siblings_behind m i)

-- component i and the siblings behind it
unfoldable pub siblings_from : Tables → Option ℕ → List ℕ
siblings_from m None = []
siblings_from m (Some i) = i ∷ siblings_behind m i

-- ---- the table: "its row the first child and the next sibling, missing as in 01"

abbrev pub link_numbers : ℕ
link_numbers = 2

abbrev pub or_missing : Option ℕ → ℕ
or_missing None = missing
or_missing (Some i) = i

unfoldable pub link_row : Tables → ℕ → List ℕ
link_row m i = or_missing (first_child m i) ∷ or_missing (next_sibling m i) ∷ []

-- THE LINK TABLE: a row for each component
unfoldable pub link_table : Tables → List ℕ
link_table m = each (link_row m) (rows_of m letter_c)

-- "One of fewer whole rows than components is refused as 22"
abbrev pub links_short : ℕ → Tables → List Refusal
links_short links m = fault 22 (ltb links (c_count m))

-- ---- the walk along a link table

-- of a link table t: the first child of component c, and the next sibling of component i
abbrev pub first_in : List ℕ → ℕ → ℕ
first_in t c = get_or t (c * link_numbers) 0

abbrev pub next_in : List ℕ → ℕ → ℕ
next_in t i = get_or t (i * link_numbers + 1) 0

-- from the link v on, until one is missing; over at most k components
unfoldable pub walk : List ℕ → ℕ → ℕ → List ℕ
walk t zero v = []
walk t (suc k) v = cond (eqb v missing) [] (v ∷ walk t k (next_in t v))

-- "the walk gives the same children in the same order as a scan by place": along the link table t, of each component of the tables m. It comes out alike
-- under any bound from one less than there are components on, so a missing link ends it
abbrev pub WalkGivesChildren : Tables → List ℕ → Type 0
WalkGivesChildren m t = (c k : ℕ) → c < c_count m → c_count m ≤ suc k → walk t k (first_in t c) ≡ children_of m c

-- "for each accepted model": along its link table in an output of n numbers
abbrev pub LinksGiveChildren : Type 0
LinksGiveChildren = (m : Tables) → T (accepted m) → (n : ℕ) → WalkGivesChildren m (padded n (link_table m))
