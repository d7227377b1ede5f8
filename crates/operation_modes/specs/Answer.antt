-- What the calls answer, and what their outputs hold. Assumes nothing.
use Rattle.std.specs.Prelude.{◌≡◌, List, ℕ, length, Result}
use Rattle.as5506.specs.Tables.{Tables}
use Rattle.as5506.specs.declared.Refusal.{Refusal}
use Rattle.as5506.specs.Answers.{Answer, handed}
use Rattle.as5506.specs.Layout.{output}
use Rattle.as5506.specs.Modes.{Modes as ModesCounted, Selection, selection_answer}
use Rattle.lent.specs.Answered.{AnswerIn}
use Rattle.operation_modes.specs.declared.Modes.{Modes}
use Rattle.operation_modes.specs.declared.Selected.{Selected}

-- the definition's number and cut as the code hands them over: THE CONTRACT of the count is that it hands this of the definition's answer
abbrev pub modes_told : ModesCounted → Modes
modes_told s = record { number = s.number; cut = s.cut }

-- ---- the selection at a number

-- how many rows and bytes were written
abbrev pub selected : Selection → Selected
selected s = record { rows = length s.rows; bytes = length s.name }

-- what each output holds
abbrev pub selected_rows : Selection → List ℕ
selected_rows s = s.rows

abbrev pub selected_name : Selection → List ℕ
selected_name s = s.name

-- a call for which the definition's answer is `wanted`, before a refusal clears the outputs
pub record Selects (wanted : Answer Selection) (rows name : List ℕ) (z : Result Selected Refusal) (rows' name' : List ℕ) : Type 0 where
  pub answer : z ≡ handed selected wanted
  pub in_rows : AnswerIn selected_rows wanted rows rows'
  pub in-name : AnswerIn selected_name wanted name name'

-- THE CONTRACT: a call for selection k of the tables m with the outputs `rows` and `name` answers z and leaves rows' and name' in them
pub record SelectedInto (m : Tables) (k : ℕ) (rows name : List ℕ) (z : Result Selected Refusal) (rows' name' : List ℕ) : Type 0 where
  pub answer : z ≡ handed selected (selection_answer (length rows) (length name) m k)
  pub written-rows : rows' ≡ output (length rows) selected_rows (selection_answer (length rows) (length name) m k)
  pub written-name : name' ≡ output (length name) selected_name (selection_answer (length rows) (length name) m k)
