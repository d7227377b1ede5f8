-- An expansion over E rows and tables of links: what a walk does that resolves nothing. `linked` in proofs/Walk.antt says that it is the
-- definition's. Assumes nothing.
use Rattle.std.specs.Prelude.{Bool, true, false, not, List, [], ◌∷◌, ◌++◌, map, ℕ, zero, suc, ltb, get_or}
use Rattle.as5506.specs.Tables.{Tables, tables_of, present, e_name, e_kind, e_direction, declared_of}
use Rattle.as5506.specs.Groups.{Feature, Expansion, joined, one_visit, one_feature, turned}
use Rattle.links.specs.declared.Links.{Links}
use Rattle.links.specs.Links.{unfound}

-- the tables of which E alone is asked for: the rows of group types' features are read by no other
abbrev pub declared_in : List ℕ → Tables
declared_in e = tables_of [] [] [] [] [] [] [] [] [] [] e [] []

-- the table E, and what its references and those of U mean
pub record Groups : Type 0 where
  pub e : List ℕ
  pub nested : List ℕ
  pub extends : List ℕ
  pub inverse : List ℕ

abbrev pub groups_in : List ℕ → List ℕ → List ℕ → List ℕ → Groups
groups_in e nested extends inverse = record { e = e; nested = nested; extends = extends; inverse = inverse }

-- those of a model, by the slices that hold its links
abbrev pub groups_of : Tables → Links → Groups
groups_of m l = groups_in m.e l.nested.now l.extends.now l.inverse.now

-- a visit of a link, with the inverse flag and the prefix
abbrev pub Visit : Type 0
Visit = ℕ → Bool → List ℕ → Expansion

-- the feature of E row i
abbrev pub feature_at : List ℕ → Bool → List ℕ → ℕ → Feature
feature_at e inverse prefix i =
    record { name = e_name (declared_in e) i; kind = e_kind (declared_in e) i; direction = turned inverse (e_direction (declared_in e) i); prefix = prefix }

-- E row i, by whether it is a nested group
unfoldable pub row_by : Bool → Groups → Visit → Bool → List ℕ → ℕ → Expansion
row_by true g visit inverse prefix i = visit (get_or g.nested i 0) inverse (prefix ++ (e_name (declared_in g.e) i ∷ []))
row_by false g visit inverse prefix i = one_feature (feature_at g.e inverse prefix i)

-- the E rows of a list, one after the other
unfoldable pub walk : Groups → Visit → Bool → List ℕ → List ℕ → Expansion
walk g visit inverse prefix rows = joined (map (λ i. row_by (present (get_or g.nested i 0)) g visit inverse prefix i) rows)

-- the E rows of group type u
abbrev pub rows_in : Groups → ℕ → List ℕ
rows_in g u = declared_of (declared_in g.e) 1 u

-- what group type u extends, by whether it extends one
unfoldable pub extended_by : Bool → Groups → Visit → Bool → List ℕ → ℕ → Expansion
extended_by true g visit inverse prefix u = visit (get_or g.extends u 0) inverse prefix
extended_by false g visit inverse prefix u = joined []

-- group type u, by whether it is the inverse of one
unfoldable pub type_by : Bool → Groups → Visit → Bool → List ℕ → ℕ → Expansion
type_by true g visit inverse prefix u = visit (get_or g.inverse u 0) (not inverse) prefix
type_by false g visit inverse prefix u =
    joined (extended_by (present (get_or g.extends u 0)) g visit inverse prefix u ∷ walk g visit inverse prefix (rows_in g u) ∷ [])

-- by whether the link is a row
unfoldable pub found_by : Bool → Groups → Visit → Bool → List ℕ → ℕ → Expansion
found_by true g visit inverse prefix u = type_by (present (get_or g.inverse u 0)) g visit inverse prefix u
found_by false g visit inverse prefix u = joined []

-- a visit of a link that may have `left` visits one inside the other, itself included
unfoldable pub visit_link : Groups → ℕ → Visit
visit_link g zero link inverse prefix = one_visit
visit_link g (suc left) link inverse prefix = joined (one_visit ∷ found_by (ltb link unfound) g (visit_link g left) inverse prefix link ∷ [])
