-- 02 (ii): what a call on a padded sheet hands back. Assumes nothing.
use mathlib.Core.Path.{ap, ◌∙◌}
use Rattle.as5506.specs.Before.{widened}
use Rattle.as5506.specs.Sheet.{lent_of, table_after, bytes_after}
use Rattle.as5506.proofs.IndexKept.{index_kept}
use Rattle.sheet.specs.Read.{sheet_read, HandsBackIndex}

-- A PADDED SHEET'S TABLES, AS THEY LIE IN THE LENT SLICES, HAVE THE INDEX OF BEFORE
pub index-handed-back : HandsBackIndex
unfolding table_after bytes_after widened
index-handed-back was slices many s m read ok room z after call =
    let kept = index_kept was (lent_of slices) many s m read ok room in
    record {
      kept = kept;
      answer = call.answer ∙ ap sheet_read kept.is_read;
      bytes = call.bytes ∙ ap (bytes_after (lent_of slices)) kept.is_read;
      tables = λ l. call.tables l ∙ ap (table_after (lent_of slices) l) kept.is_read;
    }
