-- The invariant: the numbers from the index on are still to be put behind, and there is room for them. Assumes nothing.
use Rattle.std.proofs.Common.{◌≡◌, ◌≤◌, ◌+◌, length, drop}
use Rattle.as5506.specs.Tracing.{append_new}
use Rattle.path.proofs.Path.append_new.Given as goal

abbrev pub invariant-loop-v : goal.invariant-loop-v
invariant-loop-v g l = record {
  room : length l.self ≤ length l.fn.self + l.v-index;
  left : append_new l.fn.self l.numbers ≡ append_new l.self (drop l.v-index l.numbers);
}
