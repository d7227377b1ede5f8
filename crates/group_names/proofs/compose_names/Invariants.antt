-- `group_names::compose_names` meets its contract: composing what is left leaves what composing all leaves. Assumes nothing.
use Rattle.std.proofs.Common.{◌≡◌, ◌/◌, length}
use Rattle.as5506.specs.Layout.{row_numbers}
use Rattle.lent.specs.Model.{model}
use Rattle.output.specs.Put.{output_of}
use Rattle.group_names.proofs.Composing.{Left}
use Rattle.group_names.proofs.compose_names.Given as goal

abbrev pub invariant-loop-i : goal.invariant-loop-i
invariant-loop-i l =
    (l.out.bytes.ghost_name ≡ l.initial.out.bytes.ghost_name)
    × Left (model l.m) l.initial.rows l.fn.names (length l.initial.rows / row_numbers) l.rows (output_of l.out) l.i
