-- `sheet::put_rows`: the rows that are left, written from here on, give the table with all of them. Assumes nothing.
use Rattle.std.proofs.Common.{length}
use Rattle.as5506.specs.Sheet.{rows_read}
use Rattle.sheet.proofs.Put.{Going, Writing}
use Rattle.sheet.specs.Steps.{letter_at, texts}
use Rattle.sheet.proofs.put_rows.Given as goal

abbrev pub invariant-loop-form : goal.invariant-loop-form
invariant-loop-form l =
    record {
      going : Going (letter_at l.k) l.sheet l.rest;
      rows : Writing l.initial.table l.table (rows_read (letter_at l.k) (texts l.rest)) (rows_read (letter_at l.k) (texts l.sheet)) l.at;
    }

abbrev pub decreases-loop-form : goal.decreases-loop-form
decreases-loop-form l = length l.rest
