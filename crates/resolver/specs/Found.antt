-- The answers of the code, as the definition has them. Assumes nothing.
use Rattle.std.specs.Prelude.{ℕ, Option, Some, None}
use Rattle.as5506.specs.Tables.{Tables, t_package, q_package, u_package}
use Rattle.as5506.specs.Resolve.{Resolved, component_type, component_impl, group_type, unresolved}
use Rattle.resolver.specs.declared.Classifier.{Classifier}
use Rattle.resolver.specs.declared.Classifier.TheVariants.{ComponentType, ComponentImpl, GroupType}
use Rattle.resolver.specs.declared.Renamed.{Renamed}
use Rattle.resolver.specs.declared.Renamed.TheVariants as renamed

-- what a reference names: the row, with the row of the package that it was found in
abbrev pub found : Tables → Resolved → Option Classifier
found m (component_type i) = Some (ComponentType (t_package m i) i)
found m (component_impl i) = Some (ComponentImpl (q_package m i) i)
found m (group_type i) = Some (GroupType (u_package m i) i)
found m unresolved = None

-- the number that a row of R has for what it renames
abbrev pub renamed_number : Renamed → ℕ
renamed_number renamed.Package = 0
renamed_number renamed.Classifier = 1
renamed_number renamed.GroupType = 2
