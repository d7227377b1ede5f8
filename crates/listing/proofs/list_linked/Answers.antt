-- `listing::list_linked` meets its contract. Each way out is a law of proofs/Answers.antt. Assumes nothing.
use Rattle.as5506.specs.Tables.{letter_c, letter_x}
use Rattle.child_links.proofs.Answers.{few-linked}
use Rattle.listing.proofs.Answers.{traced-refuses, group-refuses, both-give}
use Rattle.listing.specs.Answer.{Outputs, outputs}
use Rattle.listing.proofs.list_linked.Goals as goal
use Rattle.listing.proofs.list_linked.Goals.{Start}

pub invariant_of-tree : goal.invariant_of-tree
invariant_of-tree c =
    let linked = c.requires.linked in
    record { linked = linked; keyed = c.key_names.ensures; components = few-linked _ _ linked letter_c; connections = few-linked _ _ linked letter_x }

-- the outputs at entry
abbrev lent : Start → Outputs
lent s = outputs s.args.links.now s.args.rows.now s.args.diagnostics.now s.args.group_rows.now s.args.names.now s.args.group_diagnostics.now

pub returns-in_err-traced : goal.returns-in_err-traced
returns-in_err-traced c =
    traced-refuses _ _ _ (lent (goal.at.returns-in_err-traced c).Start) _ _ _ c.list_accepted.ensures _ c.in_err-traced.was _ c.from_residual.ensures.1 _

pub returns-in_err-group : goal.returns-in_err-group
returns-in_err-group c =
    group-refuses _ _ _ (lent (goal.at.returns-in_err-group c).Start) _ _ _ c.list_accepted.ensures _ c.in_ok-traced.was _ _ _ _ c.list_accepted-2.ensures _ c.in_err-group.was _ c.from_residual-in_err-group.ensures.1 _

pub returns : goal.returns
returns c =
    both-give _ _ _ (lent (goal.at.returns c).Start) _ _ _ c.list_accepted.ensures _ c.in_ok-traced.was _ _ _ _ c.list_accepted-2.ensures _ c.in_ok-group.was _
