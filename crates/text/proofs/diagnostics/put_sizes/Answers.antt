-- `text::diagnostics::put_sizes` meets its contract: five pieces, one behind the other. Assumes nothing.
use Rattle.decimal.proofs.Columns.{decimal_bare}
use Rattle.output.proofs.Put.{put_as, ◌▷◌}
use Rattle.text.proofs.diagnostics.put_sizes.Goals as goal

pub returns : goal.returns
returns c =
    c.put.ensures.put ▷ put_as c.put_decimal.ensures (decimal_bare _) ▷ c.put-2.ensures.put ▷ put_as c.put_decimal-2.ensures (decimal_bare _) ▷ c.put-3.ensures.put
