-- What each task gives for tables, and what is printed for a sheet: every program reads, lends and prints refusals alike. Assumes nothing.
use Rattle.std.specs.Prelude.{◌≡◌, List, ℕ, ◌≤◌, length, take}
use Rattle.as5506.specs.Lists.{padded}
use Rattle.as5506.specs.Tables.{Tables}
use Rattle.as5506.specs.Sheet.{read_sheet}
use Rattle.as5506.specs.Program.{lent, conlist_text, modes_text, mode_text, of_reading, what_fits}
use Rattle.name.specs.Reading.{comparison}
use Rattle.on_sheet.specs.declared.Task.{Task}
use Rattle.on_sheet.specs.declared.Task.TheVariants.{Conlist, Modes, Mode}

-- WHAT A TASK GIVES for the tables m, accepted or not, and an output of n bytes: its text, or a refusal's line
abbrev pub task_text : Task → ℕ → Tables → List ℕ
task_text (Conlist reading k) n m = conlist_text (comparison reading) k n m
task_text Modes n m = modes_text n m
task_text (Mode k) n m = mode_text k n m

-- what a task gives for the sheet s and an output of n bytes
unfoldable pub on_sheet : Task → ℕ → List ℕ → List ℕ
on_sheet task n s = of_reading (task_text task n) (read_sheet lent s)

-- THE PROGRAMS: what the program of a task writes for what it reads, with n bytes lent for text
unfoldable pub program : Task → ℕ → List ℕ → List ℕ
program task n s = what_fits n (on_sheet task n s)

-- THE CONTRACT OF A PROGRAM that was lent an array `read` for its input and an output for its text: `got` bytes of the input came, all of it, or as
-- much as the array holds; z bytes of the output are what is written. They are the definition's text of the whole input, for every input that begins so,
-- and behind them the output is zero
pub record Writes (written : List ℕ → List ℕ) (read : List ℕ) (got z : ℕ) (text' : List ℕ) : Type 0 where
  pub within : z ≤ length text'
  pub used : (s : List ℕ) → take (length read) s ≡ take got read → z ≡ length (written s)
  pub output : (s : List ℕ) → take (length read) s ≡ take got read → text' ≡ padded (length text') (written s)
