-- The codes of diagnostics, and the diagnostics of an X row by its ends. Assumes nothing.
use Rattle.std.specs.Prelude.{ℕ, List, [], ◌∷◌, ◌++◌, length}
use Rattle.as5506.specs.Tables.{Tables, source, destination, x_sub}
use Rattle.as5506.specs.Tables.{Side as TheSide}
use Rattle.as5506.specs.Rows.{Diag, diag}
use Rattle.as5506.specs.Tracing.{no_child, unequal}
use Rattle.name.specs.declared.ConnectionPattern.{ConnectionPattern}
use Rattle.name.specs.Pattern.{says_one_to_one}
use Rattle.columns.specs.Side.{side_of}
use Rattle.children.specs.Found.{children_left}
use Rattle.semantic.specs.declared.Fault.{Fault}
use Rattle.semantic.specs.declared.Fault.TheVariants.{NoFeature, NoSource, NoDestination, Unequal}
use Rattle.semantic.specs.declared.Ends.{Ends}
use Rattle.semantic.specs.declared.Ends.TheVariants.{Faulty, Across, Edge, Nothing}

-- "diagnostic 1" for "an end without feature", "2 for no source child, 3 for no destination child", "4 where the owner's pattern is one to one and the
-- counts differ"
abbrev pub code_of : Fault → ℕ
code_of NoFeature = 1
code_of NoSource = 2
code_of NoDestination = 3
code_of Unequal = 4

-- the code that a side has no child
abbrev pub no_child_code : TheSide → ℕ
no_child_code source = 2
no_child_code destination = 3

-- the diagnostic of X row x where none of the children l are found on side s
abbrev pub none_on : Tables → ℕ → TheSide → List ℕ → List Diag
none_on m x s l = no_child (no_child_code s) x (x_sub m s x) l

-- those of a connection between two subcomponents, by its children on both sides
abbrev pub diags_across : Tables → ℕ → ConnectionPattern → List ℕ → List ℕ → List Diag
diags_across m x p l r = none_on m x source l ++ none_on m x destination r ++ unequal (says_one_to_one p) x (length l) (length r)

-- the diagnostics of X row x by its ends
abbrev pub diags_from : Tables → ℕ → Ends → List Diag
diags_from m x Faulty = diag 1 x 0 0 ∷ []
diags_from m x (Across p s d) = diags_across m x p (children_left s) (children_left d)
diags_from m x (Edge s c) = none_on m x (side_of s) (children_left c)
diags_from m x Nothing = []
