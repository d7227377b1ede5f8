-- `sheet::first_line`: the first LF is where the first line ends. Assumes nothing.
use Rattle.sheet.proofs.Lines.{first_split}
use Rattle.sheet.proofs.first_line.Goals as goal

pub returns : goal.returns
returns c = first_split _ c.in_ok-end.end c.in_ok-end.ensures
