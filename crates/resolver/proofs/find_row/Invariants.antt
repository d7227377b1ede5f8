-- `resolver::find_row` meets its contract. The invariant: no row before `row` has the key. Assumes nothing.
use Rattle.std.proofs.Common.{◌/◌, length}
use Rattle.lent.specs.Model.{model}
use Rattle.resolver.specs.Keys.{row_has_key}
use Rattle.as5506.proofs.Searches.{Searching}
use Rattle.resolver.proofs.find_row.Given as goal

abbrev pub invariant-loop-row : goal.invariant-loop-row
invariant-loop-row l = Searching (row_has_key (model l.m) l.table l.width l.key) (length l.table / l.width) l.row
