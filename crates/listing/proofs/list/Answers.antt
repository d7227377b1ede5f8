-- `listing::list` meets its contract. Each way out is a law of proofs/Answers.antt. Assumes nothing.
use Rattle.as5506.specs.Tables.{letter_c}
use Rattle.as5506.proofs.Allowed.{limit-taken, steps-taken}
use Rattle.child_links.proofs.Answers.{few-linked}
use Rattle.listing.proofs.Answers.{over-refused, links-refused, links-filled}
use Rattle.listing.specs.Answer.{Outputs, outputs}
use Rattle.listing.proofs.list.Goals as goal
use Rattle.listing.proofs.list.Goals.{Start}

pub list_linked-requires-2-clause-room : goal.list_linked-requires-2-clause-room
list_linked-requires-2-clause-room c = few-linked _ _ (c.check_and_link.ensures.linked c.in_ok-check_and_link.was) letter_c

-- the outputs at entry
abbrev lent : Start → Outputs
lent s = outputs s.args.links.now s.args.rows.now s.args.diagnostics.now s.args.group_rows.now s.args.names.now s.args.group_diagnostics.now

pub returns-in_err-limit : goal.returns-in_err-limit
returns-in_err-limit c =
    over-refused _ _ _ (lent (goal.at.returns-in_err-limit c).Start) _ c.new.ensures.over c.new.ensures.refusal _ c.in_err-limit.was _ c.from_residual.ensures.1 _

pub returns-in_err-check_and_link : goal.returns-in_err-check_and_link
returns-in_err-check_and_link c =
    links-refused _ _ _ (lent (goal.at.returns-in_err-check_and_link c).Start) (limit-taken _ _ c.new.ensures.over _ c.in_ok-limit.was) _ _ c.check_and_link.ensures _ c.in_err-check_and_link.was _ c.from_residual-in_err-check_and_link.ensures.1 _

pub returns-then-m-le-ROWS_LENT : goal.returns-then-m-le-ROWS_LENT
returns-then-m-le-ROWS_LENT c =
    links-filled _ _ _ (lent (goal.at.returns-then-m-le-ROWS_LENT c).Start) (limit-taken _ _ c.new.ensures.over _ c.in_ok-limit.was) _ _ c.check_and_link.ensures c.in_ok-check_and_link.was (steps-taken _ _ c.new.ensures.limit _ c.in_ok-limit.was) c.list_linked.ensures

pub returns : goal.returns
returns c =
    links-filled _ _ _ (lent (goal.at.returns c).Start) (limit-taken _ _ c.new.ensures.over _ c.in_ok-limit.was) _ _ c.check_and_link.ensures c.in_ok-check_and_link.was (steps-taken _ _ c.new.ensures.limit _ c.in_ok-limit.was) c.list_linked-2.ensures
