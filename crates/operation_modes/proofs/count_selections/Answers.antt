-- `operation_modes::count_selections` meets its contract. Assumes nothing.
use Rattle.operation_modes.proofs.Calls.{few_components, few_modes}
use Rattle.operation_modes.proofs.count_selections.Goals as goal

pub invariant_of-count_modes : goal.invariant_of-count_modes
invariant_of-count_modes c =
    record {
      few_components = few_components _ _ c.check_tables.ensures c.in_ok-check_tables.was;
      few_modes = few_modes _ _ c.check_tables.ensures c.in_ok-check_tables.was;
    }
