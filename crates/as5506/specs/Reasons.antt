-- The numbers of the refusals that have no place, by the reasons that the code has for them. Assumes nothing.
use Rattle.std.specs.Prelude.{ℕ}
use Rattle.as5506.specs.declared.reason.Reason.{Reason}
use Rattle.as5506.specs.declared.reason.Reason.TheVariants.{Rows, Diagnostics, Visits, Names, Text, Limit, Selection, Links}

abbrev pub number_of : Reason → ℕ
number_of Rows = 11
number_of Diagnostics = 12
number_of Visits = 13
number_of Names = 14
number_of Text = 15
number_of Limit = 19
number_of Selection = 20
number_of Links = 22
