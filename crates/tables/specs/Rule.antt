-- The numbers of the rules. Assumes nothing.
use Rattle.std.specs.Prelude.{ℕ}
use Rattle.tables.specs.declared.Rule.{Rule}
use Rattle.tables.specs.declared.Rule.TheVariants.{Range, Parent, End, Key, Form, Place}

abbrev pub number_of : Rule → ℕ
number_of Range = 6
number_of Parent = 7
number_of End = 8
number_of Key = 9
number_of Form = 10
number_of Place = 16
