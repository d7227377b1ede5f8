-- What the outputs hold before a refusal clears them. Assumes nothing.
use Rattle.std.specs.Prelude.{◌≡◌, List, ℕ, length, Result, Ok}
use Rattle.as5506.specs.Tables.{Tables}
use Rattle.as5506.specs.Names.{Comparison}
use Rattle.as5506.specs.Answers.{Answer, handed}
use Rattle.as5506.specs.declared.Refusal.{Refusal as Told}
use Rattle.as5506.specs.declared.Listed.{Listed}
use Rattle.as5506.specs.Listing.{TracedList, traced_list, traced_within}
use Rattle.as5506.specs.Layout.{room_in, traced_row_numbers, traced_diag_numbers}
use Rattle.lent.specs.Answered.{AnswerIn}
use Rattle.child_links.specs.Linked.{Linked}
use Rattle.instance.specs.Answer.{listed}

-- the definition's answer for accepted tables, under a limit of k steps
abbrev pub answer_of : Comparison → ℕ → Tables → List ℕ → List ℕ → Answer TracedList
answer_of same k m rows diags = traced_within (room_in (length rows) (length diags)) (traced_list same k m)

-- a call for which the definition's answer is `wanted`, before a refusal clears the outputs: it answers z and leaves rows' and diags' in them
pub record Lists (wanted : Answer TracedList) (m : Tables) (rows diags : List ℕ) (z : Result Listed Told) (rows' diags' : List ℕ) : Type 0 where
  pub answer : z ≡ handed listed wanted
  pub in_rows : AnswerIn (traced_row_numbers m) wanted rows rows'
  pub in_diagnostics : AnswerIn traced_diag_numbers wanted diags diags'

-- the same of one that links the components too: it leaves links' in the link table
pub record ListsLinked (wanted : Answer TracedList) (m : Tables) (rows diags : List ℕ) (z : Result Listed Told) (links' rows' diags' : List ℕ) : Type 0 where
  pub lists : Lists wanted m rows diags z rows' diags'
  pub linked : (l : Listed) → z ≡ Ok l → Linked m links'
