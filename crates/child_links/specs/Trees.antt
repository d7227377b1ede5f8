-- What a tree is of: a model, and how its names are compared. Assumes nothing.
use Rattle.as5506.specs.Tables.{Tables}
use Rattle.as5506.specs.Names.{Comparison}
use Rattle.lent.specs.Model.{model}
use Rattle.name.specs.Reading.{comparison}
use Rattle.child_links.specs.declared.tree.Tree.{Tree}

-- the model of its tables
abbrev pub of_tree : Tree → Tables
of_tree t = model t.m.now

-- how names are compared in it (`same` of the definition)
abbrev pub same_in : Tree → Comparison
same_in t = comparison t.reading
