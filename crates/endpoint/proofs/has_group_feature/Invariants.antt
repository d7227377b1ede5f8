-- `endpoint::has_group_feature` meets its contract. The invariant: no row before i is a group of that name. Assumes nothing.
use Rattle.as5506.specs.Tables.{letter_f, count}
use Rattle.as5506.specs.Names.{key}
use Rattle.lent.specs.Model.{model}
use Rattle.as5506.proofs.Searches.{Searching}
use Rattle.endpoint.specs.Ends.{is_group}
use Rattle.endpoint.proofs.has_group_feature.Given as goal

abbrev pub invariant-loop-i : goal.invariant-loop-i
invariant-loop-i l = Searching (is_group (model l.m) l.component (key (model l.m) l.feature)) (count (model l.m) letter_f) l.i
