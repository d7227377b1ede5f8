-- `sheet::check_line`: each return is the first fault of its case. Assumes nothing.
use Rattle.std.proofs.Common.{rules}
use Rattle.sheet.proofs.Check.{told_laws}
use Rattle.sheet.proofs.check_line.Goals as goal

pub returns-then-k-seen : goal.returns-then-k-seen
returns-then-k-seen c = λ before counted. search (rules, told_laws)

pub returns-then-not-line_ok : goal.returns-then-not-line_ok
returns-then-not-line_ok c = λ before counted. search (rules, told_laws)

pub returns-then-not-has_room : goal.returns-then-not-has_room
returns-then-not-has_room c = λ before counted. search (rules, told_laws, c.count_line.ensures)

pub returns : goal.returns
returns c = λ before counted. search (rules, told_laws, c.count_line.ensures)
