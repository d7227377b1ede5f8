-- `group_list::list` meets its contract. Each way out is a law of proofs/Answers.antt. Assumes nothing.
use Rattle.as5506.specs.Tables.{letter_c}
use Rattle.child_links.proofs.Answers.{few-linked}
use Rattle.group_list.proofs.Answers.{links-refused, links-filled}
use Rattle.group_list.proofs.list.Goals as goal

pub returns-in_err-check_and_link : goal.returns-in_err-check_and_link
returns-in_err-check_and_link c =
    links-refused _ _ _ _ _ _ _ c.check_and_link.ensures _ c.in_err-check_and_link.was _ c.from_residual.ensures.1 _ _ _

pub returns-then-m-le-SMALL_ROWS : goal.returns-then-m-le-SMALL_ROWS
returns-then-m-le-SMALL_ROWS c = links-filled _ _ _ _ _ _ _ c.check_and_link.ensures c.in_ok-check_and_link.was _ _ _ _ c.list_linked.ensures

pub list_linked-requires-2-clause-room : goal.list_linked-requires-2-clause-room
list_linked-requires-2-clause-room c = few-linked _ _ (c.check_and_link.ensures.linked c.in_ok-check_and_link.was) letter_c

pub returns : goal.returns
returns c = links-filled _ _ _ _ _ _ _ c.check_and_link.ensures c.in_ok-check_and_link.was _ _ _ _ c.list_linked-2.ensures
