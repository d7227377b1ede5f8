-- `feature_group::expand` meets its contract: tables that are refused, or the walk over the links of those that are accepted. Assumes nothing.
use Rattle.feature_group.proofs.Answers.{tables_refused, few_types, expands}
use Rattle.feature_group.proofs.expand.Goals as goal

pub returns-in_err-check_tables : goal.returns-in_err-check_tables
returns-in_err-check_tables c = tables_refused _ _ _ _ _ _ c.check_tables.ensures _ c.in_err-check_tables.was _ c.from_residual.ensures.1 _

pub link_groups-requires : goal.link_groups-requires
link_groups-requires c = few_types _ _ c.check_tables.ensures c.in_ok-check_tables.was

pub link-requires : goal.link-requires
link-requires c = few_types _ _ c.check_tables.ensures c.in_ok-check_tables.was

pub returns : goal.returns
returns c = expands _ _ _ _ _ _ c.check_tables.ensures c.in_ok-check_tables.was _ _ _ c.link_groups.ensures.linked _ c.link.ensures.value _ _ c.write_features.ensures
