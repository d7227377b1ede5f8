-- `fields::put_fields`: the numbers that are left, written from here on, give the table with all of them. Assumes nothing.
use Rattle.std.proofs.Common.{◌≡◌, ◌+◌, ◌≤◌, length, drop}
use Rattle.std.proofs.lemmas.List.Edits.{sets}
use Rattle.as5506.specs.Columns.{line_bytes, row_cells}
use Rattle.as5506.specs.Fields.{field_numbers}
use Rattle.fields.specs.Fields.{columns_of}
use Rattle.fields.proofs.put_fields.Given as goal

abbrev pub invariant-loop-mark : goal.invariant-loop-mark
invariant-loop-mark l =
    record {
      bytes : length l.rest ≡ line_bytes (columns_of (drop l.mark-index l.marks));
      room : l.place + row_cells (columns_of (drop l.mark-index l.marks)) ≤ length l.table;
      written : sets l.table l.place (field_numbers (columns_of (drop l.mark-index l.marks)) l.rest) ≡ sets l.initial.table l.at (field_numbers (columns_of l.marks) l.fields);
    }
