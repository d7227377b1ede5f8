-- `group_names::put_joined` meets its contract: what is left of the names is still to be put. Assumes nothing.
use Rattle.std.proofs.Common.{◌≡◌}
use Rattle.lent.specs.Model.{model}
use Rattle.output.specs.Put.{output_of}
use Rattle.group_names.proofs.Joining.{Joining}
use Rattle.group_names.proofs.put_joined.Given as goal

abbrev pub invariant-loop-k : goal.invariant-loop-k
invariant-loop-k l =
    (l.out.bytes.ghost_name ≡ l.initial.out.bytes.ghost_name)
    × Joining (model l.m) l.middle (output_of l.initial.out) (output_of l.out) l.k-index
