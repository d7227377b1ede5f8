-- `fields::fields_fit`: the fields that are left fit exactly if all do. Assumes nothing.
use Rattle.std.proofs.Common.{◌≡◌, length, drop}
use Rattle.as5506.specs.Columns.{line_bytes}
use Rattle.as5506.specs.Fields.{fields_fit}
use Rattle.fields.specs.Fields.{columns_of}
use Rattle.fields.proofs.fields_fit.Given as goal

abbrev pub invariant-loop-mark : goal.invariant-loop-mark
invariant-loop-mark l =
    record {
      bytes : length l.rest ≡ line_bytes (columns_of (drop l.mark-index l.marks));
      fit : fields_fit (columns_of (drop l.mark-index l.marks)) l.rest ≡ fields_fit (columns_of l.marks) l.fields;
    }
