-- `sheet_trials::checksum`: the sum stays below the prime.
use Rattle.std.proofs.Common.{◌<◌}
use Rattle.sheet_trials.proofs.checksum.Given as goal

abbrev pub invariant-loop-v : goal.invariant-loop-v
invariant-loop-v g l = l.sum < 4294967291
