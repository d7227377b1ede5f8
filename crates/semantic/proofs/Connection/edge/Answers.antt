-- `semantic::Connection::edge` meets its contract. Assumes nothing.
use mathlib.Core.Path.{sym, ◌∙◌}
use Rattle.semantic.proofs.EndLaws.{ends_edge, ends_below}
use Rattle.semantic.proofs.Connection.edge.Goals as goal

pub returns-then-is_inside : goal.returns-then-is_inside
returns-then-is_inside c = ends_below _ c.args.side c.requires (sym c.is_inside.ensures ∙ c.if-is_inside.true)

pub returns : goal.returns
returns c = ends_edge _ c.args.side c.requires (sym c.is_inside.ensures ∙ c.if-is_inside.false) _ c.named.ensures
