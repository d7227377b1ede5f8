-- A link table while it is filled, from the last row to the first. Assumes nothing.
use Rattle.std.specs.Prelude.{◌≡◌, List, [], ◌∷◌, ℕ, ◌+◌, ◌*◌, ◌-◌, ◌≤◌, ◌<◌, cond, eqb, ltb, length, get_or}
use Rattle.as5506.specs.Lists.{span, keep, sort_by, first_of}
use Rattle.as5506.specs.Tables.{Tables, c_count, c_parent, c_place}
use Rattle.as5506.specs.Links.{or_missing, link_numbers}

-- the children of component p among the rows from i on
abbrev pub children_from : Tables → ℕ → ℕ → List ℕ
children_from m i p = sort_by (c_place m) (keep (λ j. eqb (c_parent m j) p) (span i (c_count m - i)))

-- ---- slots: the places of the table. A component's first child is linked in the one, its next sibling in the other

abbrev pub first_slot : ℕ → ℕ
first_slot c = c * link_numbers

abbrev pub next_slot : ℕ → ℕ
next_slot i = i * link_numbers + 1

-- the slot of the link that a row is to take among the siblings xs, whose first is linked in slot s: the one behind those of a smaller key
unfoldable pub slot_among : (ℕ → ℕ) → ℕ → ℕ → List ℕ → ℕ
slot_among key i s [] = s
slot_among key i s (x ∷ xs) = cond (ltb (key x) (key i)) (slot_among key i (next_slot x) xs) s

-- the slot leads to the first of the rows xs, or to none
abbrev pub Leads : List ℕ → ℕ → List ℕ → Type 0
Leads t s xs = get_or t s 0 ≡ or_missing (first_of xs)

-- each of the rows leads to the one behind it
abbrev pub Chained : List ℕ → List ℕ → Type 0
Chained t [] = Unit {0}
Chained t (x ∷ xs) = Leads t (next_slot x) xs × Chained t xs

abbrev pub Spelled : List ℕ → ℕ → List ℕ → Type 0
Spelled t s xs = Leads t s xs × Chained t xs

-- a table t where the rows from i on are linked
pub record Spells (m : Tables) (t : List ℕ) (i : ℕ) : Type 0 where
  pub within : i ≤ c_count m
  pub room : c_count m * link_numbers ≤ length t
  pub children : (p : ℕ) → p < c_count m → Spelled t (first_slot p) (children_from m i p)
  -- component 0 has no sibling
  pub root : Leads t (next_slot 0) []
  pub unused : (j : ℕ) → c_count m * link_numbers ≤ j → get_or t j 0 ≡ 0
