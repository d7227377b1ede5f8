-- `decimal::digit_count` meets its contract: the powers so far are reached, so the number has that many digits at least. Assumes nothing.
use Prim.Native.Nat.{◌≤◌}
use lib.ListN.{length}
use Rattle.as5506.specs.Text.{digits}
use Rattle.decimal.proofs.digit_count.Given as goal

abbrev pub invariant-loop-k : goal.invariant-loop-k
invariant-loop-k l = (l.k ≤ length (digits l.n)) × (length (digits l.n) ≤ 20)
