-- `fields::unspaced`: what follows the spaces of what is left follows those of the whole field. Assumes nothing.
use Rattle.std.proofs.Common.{◌≡◌, length}
use Rattle.as5506.specs.Fields.{unspaced}
use Rattle.fields.proofs.unspaced.Given as goal

abbrev pub invariant-loop-rest : goal.invariant-loop-rest
invariant-loop-rest l = unspaced l.rest ≡ unspaced l.f

abbrev pub decreases-loop-rest : goal.decreases-loop-rest
decreases-loop-rest l = length l.rest
