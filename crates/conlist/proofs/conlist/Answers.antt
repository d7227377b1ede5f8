-- `conlist::conlist` meets its contract: its task has the limit that is named, and 20 where none is. Assumes nothing.
use Rattle.on_sheet.proofs.Programs.{conlist_writes}
use Rattle.conlist.proofs.conlist.Goals as goal

pub returns : goal.returns
returns c = conlist_writes _ _ _ _ _ _ c.told-read c.part.ensures c.told-text c.on_sheet.auto.text _ _ c.unwrap_or.ensures c.on_sheet.ensures
