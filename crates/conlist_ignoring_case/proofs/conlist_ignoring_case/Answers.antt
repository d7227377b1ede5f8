-- `conlist_ignoring_case::conlist_ignoring_case` meets its contract: its task has the limit that is named, and 20 where none is. Assumes nothing.
use Rattle.on_sheet.proofs.Programs.{ignoring_writes}
use Rattle.conlist_ignoring_case.proofs.conlist_ignoring_case.Goals as goal

pub returns : goal.returns
returns c = ignoring_writes _ _ _ _ _ _ c.told-read c.part.ensures c.told-text c.on_sheet.auto.text _ _ c.unwrap_or.ensures c.on_sheet.ensures
