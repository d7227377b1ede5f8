-- `sheet::put_names`: the names that are left and their rows, written from here on, give the tables with all of them. Assumes nothing.
use Rattle.std.proofs.Common.{map, ◌+◌, ◌≤◌, length}
use Rattle.as5506.specs.Lists.{each}
use Rattle.as5506.specs.Sheet.{lines_with, line_name, placed}
use Rattle.as5506.specs.Tables.{letter_n}
use Rattle.sheet.proofs.Put.{Going, Writing}
use Rattle.sheet.specs.Steps.{texts}
use Rattle.sheet.proofs.put_names.Given as goal

abbrev pub invariant-loop-rest : goal.invariant-loop-rest
invariant-loop-rest l =
    record {
      going : Going letter_n l.sheet l.rest;
      names : Writing l.initial.bytes l.bytes (each line_name (lines_with letter_n (texts l.rest))) (each line_name (lines_with letter_n (texts l.sheet))) l.used;
      rows : Writing l.initial.n l.n (placed l.used (map line_name (lines_with letter_n (texts l.rest)))) (placed 0 (map line_name (lines_with letter_n (texts l.sheet)))) l.at;
      few : l.used + length l.rest ≤ length l.sheet;
    }

abbrev pub decreases-loop-rest : goal.decreases-loop-rest
decreases-loop-rest l = length l.rest
