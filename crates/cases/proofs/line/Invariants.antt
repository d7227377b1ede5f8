-- The places in front have the bytes that were taken, and what stands from `i` on is as at entry.
use Rattle.std.proofs.Common.{◌≡◌, take, drop}
use Rattle.std.specs.Io.KnownBytes.{Consumes}
use Rattle.cases.proofs.line.Given as goal

abbrev pub invariant-loop-i : goal.invariant-loop-i
invariant-loop-i g l = (drop l.i l.out ≡ drop l.i l.initial.out) × Consumes (g.R.Read.remaining l.initial.input) (g.R.Read.remaining l.input) (take l.i l.out)
