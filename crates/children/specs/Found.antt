-- The children that a name finds, along the links. Assumes nothing.
use Rattle.std.specs.Prelude.{List, [], ◌∷◌, ℕ, ◌≡◌, Option, Some, None}
use Rattle.std.specs.Iterator.{YieldsFirst}
use Rattle.as5506.specs.Lists.{keep}
use Rattle.as5506.specs.Tables.{Tables, name_of}
use Rattle.as5506.specs.Links.{siblings_behind, siblings_from}
use Rattle.child_links.specs.Trees.{of_tree, same_in}
use Rattle.child_links.specs.Linked.{Inside}
use Rattle.children.specs.Rules.{fits}
use Rattle.children.specs.declared.Children.{Children}
use Rattle.children.specs.declared.Search.{Search}

-- the model of the tables that a search goes through
abbrev pub tables_in : Search → Tables
tables_in s = of_tree s.tree.now

-- the name that it is for
abbrev pub name_in : Search → List ℕ
name_in s = name_of (tables_in s) s.wanted

-- of some components those that it finds
abbrev pub finds : Search → List ℕ → List ℕ
finds s l = keep (fits (same_in s.tree.now) (tables_in s) s.rule (name_in s)) l

-- of a component and the siblings behind it those that it finds
unfoldable pub found_from : Search → Option ℕ → List ℕ
found_from s first = finds s (siblings_from (tables_in s) first)

-- the children that an answer stands for: none, or its own and those that are found behind it
abbrev pub after_child : Search → Option ℕ → List ℕ
after_child s None = []
after_child s (Some i) = i ∷ finds s (siblings_behind (tables_in s) i)

-- the model of the tables that an iterator goes through
abbrev pub tables_of : Children → Tables
tables_of c = tables_in c.search

-- the children that are left to it
unfoldable pub children_left : Children → List ℕ
children_left c = after_child c.search c.found

-- a call of next gives the first of what is left, a row of C, and leaves the others; or nothing is left, and stays so
abbrev pub GivesChild : Children → Option ℕ → Children → Type 0
GivesChild c r d = YieldsFirst children_left c r d × Inside (tables_of c) r × (tables_of d ≡ tables_of c)
