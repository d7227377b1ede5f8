-- `group_list::list_accepted` meets its contract. Each way out is a law of proofs/Answers.antt. Assumes nothing.
use Rattle.group_list.proofs.Answers.{lists-13, lists-11, used_within, used_front, lists-14, lists-12, lists-all}
use Rattle.group_list.proofs.Short.{names-short}
use Rattle.group_list.proofs.list_accepted.Goals as goal

pub returns-in_err-tally : goal.returns-in_err-tally
returns-in_err-tally c = lists-13 _ _ _ _ _ c.args.tree.now.linked.ok _ _ _ c.match_all.ensures _ _ c.ok_or.ensures.value _ c.in_err-tally.was _ c.from_residual.ensures.1 c.from.ensures _ _

pub returns-in_err-used : goal.returns-in_err-used
returns-in_err-used c =
    lists-11 _ _ _ _ _ c.args.tree.now.linked.ok _ _ _ c.match_all.ensures _ _ c.ok_or.ensures.value _ c.in_ok-tally.was _ _ c.ok_or-2.ensures.value
    _ c.in_err-used.was _ c.from_residual-in_err-used.ensures.1 c.from-2.ensures _ _

pub slice_bounds-compose_names-end : goal.slice_bounds-compose_names-end
slice_bounds-compose_names-end c =
    used_within _ _ _ c.args.names.now _ c.args.tree.now.linked.ok _ _ _ c.match_all.ensures _ _ c.ok_or.ensures.value _ c.in_ok-tally.was _ _ c.ok_or-2.ensures.value _ c.in_ok-used.was

pub slice_bounds-compose_names-end-2 : goal.slice_bounds-compose_names-end-2
slice_bounds-compose_names-end-2 c =
    used_front _ _ _ c.args.names.now _ c.args.tree.now.linked.ok _ _ _ c.match_all.ensures _ _ c.ok_or.ensures.value _ c.in_ok-tally.was _ _ c.ok_or-2.ensures.value _ c.in_ok-used.was

pub compose_names-requires : goal.compose_names-requires
compose_names-requires c = names-short _ c.args.tree.now.linked.ok

pub returns-in_err-ok_or : goal.returns-in_err-ok_or
returns-in_err-ok_or c =
    lists-14 _ _ _ _ _ c.args.tree.now.linked.ok _ _ _ c.match_all.ensures _ _ c.ok_or.ensures.value _ c.in_ok-tally.was _ _ c.ok_or-2.ensures.value
    _ c.in_ok-used.was _ _ _ c.compose_names.ensures _ _ c.ok_or-3.ensures.value
    _ c.in_err-ok_or.was _ c.from_residual-in_err-ok_or.ensures.1 c.from-3.ensures _ _ _

pub returns-in_err-noted : goal.returns-in_err-noted
returns-in_err-noted c =
    lists-12 _ _ _ _ _ c.args.tree.now.linked.ok _ _ _ c.match_all.ensures _ _ c.ok_or.ensures.value _ c.in_ok-tally.was _ _ c.ok_or-2.ensures.value
    _ c.in_ok-used.was _ _ _ c.compose_names.ensures _ _ c.ok_or-3.ensures.value _ c.in_ok-ok_or.was _ _ c.ok_or-4.ensures.value
    _ c.in_err-noted.was _ c.from_residual-in_err-noted.ensures.1 c.from-4.ensures _ _ _

pub returns : goal.returns
returns c =
    lists-all _ _ _ _ _ c.args.tree.now.linked.ok _ _ _ c.match_all.ensures _ _ c.ok_or.ensures.value _ c.in_ok-tally.was _ _ c.ok_or-2.ensures.value
    _ c.in_ok-used.was _ _ _ c.compose_names.ensures _ _ c.ok_or-3.ensures.value _ c.in_ok-ok_or.was _ _ c.ok_or-4.ensures.value
    _ c.in_ok-noted.was
