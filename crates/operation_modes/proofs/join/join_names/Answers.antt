-- `operation_modes::join::join_names` meets its contract. Assumes nothing.
use Rattle.std.proofs.Common.{rules}
use Rattle.output.proofs.Put.{printed}
use Rattle.operation_modes.proofs.join.join_names.Goals as goal

pub returns : goal.returns
returns c = printed c.new-out.ensures c.put_names.ensures c.done.ensures.0 (search rules)
