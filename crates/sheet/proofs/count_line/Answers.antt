-- `sheet::count_line`: what has been seen, with one more line. Assumes nothing.
use Rattle.std.proofs.Common.{rules}
use Rattle.sheet.proofs.Check.{count_name, count_row}
use Rattle.sheet.proofs.count_line.Goals as goal

pub returns-then-k-eq0 : goal.returns-then-k-eq0
returns-then-k-eq0 c = search (rules, count_name)

pub returns-else-k-eq0 : goal.returns-else-k-eq0
returns-else-k-eq0 c = search (rules, count_row)
