-- `instance::compute_semantic_connections` meets its contract: what it gives stands in outputs that were zeros, and after a refusal they are cleared. Assumes nothing.
use mathlib.Core.Path.{sym, ◌∙◌}
use Rattle.instance.proofs.Answers.{given-call}
use Rattle.instance.proofs.compute_semantic_connections.Goals as goal

pub returns-else-is_err : goal.returns-else-is_err
returns-else-is_err c = given-call _ _ _ _ _ _ _ (c.fill.ensures.after (λ y e. e)) (c.fill-2.ensures.after (λ y e. e)) _ _ _ _ c.list-answer.ensures c.list-answer.auto.links (sym c.is_err.ensures.value ∙ c.if-is_err.false)
