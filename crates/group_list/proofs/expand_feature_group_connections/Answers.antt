-- `group_list::expand_feature_group_connections` meets its contract. Each way out is a law of proofs/Answers.antt. Assumes nothing.
use mathlib.Core.Path.{sym, ◌∙◌}
use Rattle.group_list.proofs.Answers.{given-call, refused-call}
use Rattle.group_list.proofs.expand_feature_group_connections.Goals as goal

pub returns-else-is_err : goal.returns-else-is_err
returns-else-is_err c =
    let w = c.list-answer in
    given-call _ _ _ _ _ _ _ _ (c.fill.ensures.after (λ y e. e)) (c.fill-2.ensures.after (λ y e. e)) (c.fill-3.ensures.after (λ y e. e)) _ _ _ _ _ w.ensures w.auto.links (sym c.is_err.ensures.value ∙ c.if-is_err.false)

pub returns-then-is_err : goal.returns-then-is_err
returns-then-is_err c =
    let w = c.list-answer in
    refused-call _ _ _ _ _ _ _ _ (c.fill.ensures.after (λ y e. e)) (c.fill-2.ensures.after (λ y e. e)) (c.fill-3.ensures.after (λ y e. e)) _ _ _ _ _ w.ensures w.auto.links (sym c.is_err.ensures.value ∙ c.if-is_err.true)
    w.auto.rows w.auto.names w.auto.diagnostics _ _ _ _
    (c.fill-then-is_err.ensures.after (λ y e. e)) (c.fill-then-is_err-2.ensures.after (λ y e. e)) (c.fill-then-is_err-3.ensures.after (λ y e. e)) (c.fill-then-is_err-4.ensures.after (λ y e. e))
