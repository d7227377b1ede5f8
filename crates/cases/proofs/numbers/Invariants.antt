-- The places in front have the numbers that were taken.
use Rattle.std.proofs.Common.{◌≡◌, length, take}
use Rattle.cases.specs.{TakenNumbers}
use Rattle.cases.proofs.numbers.Given as goal

abbrev pub invariant-loop-place : goal.invariant-loop-place
invariant-loop-place g l =
    (length l.out ≡ length l.initial.out) × TakenNumbers (g.R.Read.remaining l.initial.input) (g.R.Read.remaining l.input) (take l.place-index l.out)
