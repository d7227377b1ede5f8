-- `fields::digits`: the number so far, continued by the digits that are left, is the whole field's. Assumes nothing.
use Rattle.std.proofs.Common.{◌≡◌, ◌<◌, ◌*◌, drop}
use Rattle.as5506.specs.Tables.{two_to32}
use Rattle.fields.specs.Fields.{spelt}
use Rattle.fields.proofs.digits.Given as goal

abbrev pub invariant-loop-b : goal.invariant-loop-b
invariant-loop-b l = record { small : l.v < two_to32 * two_to32; same : spelt l.v (drop l.b-index l.s) ≡ spelt 0 l.s }
