-- `endpoint::declared_group` meets its contract. The invariant: no row before i is a group of that name. Assumes nothing.
use Rattle.as5506.specs.Tables.{letter_e, count}
use Rattle.as5506.specs.Names.{key}
use Rattle.lent.specs.Model.{model}
use Rattle.as5506.proofs.Searches.{Searching}
use Rattle.endpoint.specs.Ends.{is_declared}
use Rattle.endpoint.proofs.declared_group.Given as goal

abbrev pub invariant-loop-i : goal.invariant-loop-i
invariant-loop-i l = Searching (is_declared (model l.m) l.holder (key (model l.m) l.feature)) (count (model l.m) letter_e) l.i
