-- `sheet::check_lines`: the answer of the lines that are left is the sheet's. Assumes nothing.
use Rattle.std.proofs.Common.{◌≡◌, ℕ, ◌+◌, ◌*◌, ◌≤◌, List, [], length}
use Rattle.as5506.specs.Sheet.{lines_of, lines_with, name_bytes}
use Rattle.as5506.specs.Tables.{Letter, width}
use Rattle.sheet.specs.Steps.{lent_by, Counted, answer_from}
use Rattle.sheet.specs.declared.Sizes.{Sizes}
use Rattle.sheet.specs.declared.Seen.{Seen}
use Rattle.sheet.proofs.check_lines.Given as goal

-- the lines before `rest` are without fault, and the answer of the lines from there on is the sheet's
pub record SoFar (s : List ℕ) (room : Sizes) (seen : Seen) (rest : List ℕ) (place : ℕ) : Type 0 where
  pub before : List (List ℕ)
  pub counted : Counted seen before
  pub names : name_bytes before + length rest ≤ length s
  pub few : (l : Letter) → length (lines_with l before) * width l + length rest ≤ length s
  pub placed : place + length rest ≤ length s + 1
  pub answer : answer_from (lent_by room) before place (lines_of rest) ≡ answer_from (lent_by room) [] 1 (lines_of s)

abbrev pub invariant-loop-rest : goal.invariant-loop-rest
invariant-loop-rest l = SoFar l.sheet l.room l.seen l.rest l.place

abbrev pub decreases-loop-rest : goal.decreases-loop-rest
decreases-loop-rest l = length l.rest
