-- `operation_modes::link::Linked::link` meets its contract. Assumes nothing.
use Rattle.operation_modes.proofs.Linking.{linking_start, linking_turn}
use Rattle.operation_modes.proofs.link.Linked.link.Goals as goal

pub loop-i-init : goal.loop-i-init
loop-i-init c = linking_start _ c.requires c.args.tables.now.few_modes

pub loop-i-preserved : goal.loop-i-preserved
loop-i-preserved c = linking_turn _ c.loop-i.invariant c.loop-i-test.true c.owner_of.ensures c.put_before.ensures
