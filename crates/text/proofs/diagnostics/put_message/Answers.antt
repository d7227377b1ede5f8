-- `text::diagnostics::put_message` meets its contract: by the code, the pieces are the message; the longest by hand. Assumes nothing.
use Rattle.output.proofs.Put.{put_as, ◌▷◌}
use Rattle.text.proofs.Messages.{message-unmatched}
use Rattle.text.proofs.diagnostics.put_message.Goals as goal

pub returns-then-code-gt4 : goal.returns-then-code-gt4
returns-then-code-gt4 c =
    put_as (c.put_between.ensures ▷ c.put_between-then-code-gt4.ensures) (message-unmatched _ _ _ _ _ _ c.name_of-name.ensures c.if-code-gt4.true)
