-- `tables::FewRows::bad_row`: the fields that are left are in their ranges exactly if all are. Assumes nothing.
use Rattle.std.proofs.Common.{◌≡◌, ◌*◌, ◌≤◌, drop, map}
use Rattle.lent.specs.Model.{model}
use Rattle.as5506.specs.Columns.{columns}
use Rattle.as5506.specs.Refusals.{allows_from}
use Rattle.tables.specs.Letter.{letter_of}
use Rattle.tables.specs.Column.{column_of}
use Rattle.tables.proofs.FewRows.bad_row.Given as goal

abbrev pub invariant-loop-column : goal.invariant-loop-column
invariant-loop-column l =
    (l.j ≤ 3 * l.column-index)
    × (allows_from (model l.self.m.now) (letter_of l.letter) l.row.i l.j (map column_of (drop l.column-index l.column-items)) ≡ allows_from (model l.self.m.now) (letter_of l.letter) l.row.i 0 (columns (letter_of l.letter)))
