-- `vectors::main`: the counts are of cases that are done, so that neither overflows.
use Rattle.std.proofs.Common.{◌+◌, ◌≤◌}
use Rattle.vectors.proofs.main.Given as goal

abbrev pub invariant-loop-case : goal.invariant-loop-case
invariant-loop-case l = l.agreeing + l.differing ≤ l._case
