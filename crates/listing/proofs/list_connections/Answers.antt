-- `listing::list_connections` meets its contract: what it gives stands in outputs that were zeros, and after a refusal they are cleared. Assumes nothing.
use mathlib.Core.Path.{sym, ◌∙◌}
use Rattle.listing.specs.Answer.{Outputs, outputs}
use Rattle.listing.proofs.Answers.{given-call}
use Rattle.listing.proofs.list_connections.Goals as goal
use Rattle.listing.proofs.list_connections.Goals.{Start}

-- the outputs at entry
abbrev lent : Start → Outputs
lent s = outputs s.args.links.now s.args.rows.now s.args.diagnostics.now s.args.group_rows.now s.args.names.now s.args.group_diagnostics.now

pub returns-else-is_err : goal.returns-else-is_err
returns-else-is_err c =
    let z = c.clear.ensures in
    given-call _ _ _ (lent (goal.at.returns-else-is_err c).Start) _ _ _ _ _ z.rows_after z.diagnostics_after z.group_rows_after z.names_after z.group_diagnostics_after _ _
    c.list-answer.ensures c.list-answer.auto.links (sym c.is_err.ensures.value ∙ c.if-is_err.false)
