-- `operation_modes::check_and_select` meets its contract. Assumes nothing.
use native.Mathlib.Omega.{arith}
use Rattle.operation_modes.proofs.Calls.{few_components, few_modes, select_refused}
use Rattle.operation_modes.proofs.check_and_select.Goals as goal

pub returns-in_err-check_tables : goal.returns-in_err-check_tables
returns-in_err-check_tables c = select_refused _ _ c.check_tables.ensures _ _ _ _ c.in_err-check_tables.was _ (grind arith) _ _

pub invariant_of-select : goal.invariant_of-select
invariant_of-select c =
    record {
      few_components = few_components _ _ c.check_tables.ensures c.in_ok-check_tables.was;
      few_modes = few_modes _ _ c.check_tables.ensures c.in_ok-check_tables.was;
    }
