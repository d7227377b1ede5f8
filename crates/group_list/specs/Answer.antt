-- What the call answers, and what its outputs hold. Assumes nothing.
use Rattle.std.specs.Prelude.{◌⊎◌, ◌≡◌, List, ℕ, length, Result, Ok, Err}
use Rattle.as5506.specs.Lists.{same_bytes}
use Rattle.as5506.specs.Tables.{Tables}
use Rattle.as5506.specs.Names.{Comparison}
use Rattle.as5506.specs.Answers.{Answer, handed}
use Rattle.as5506.specs.declared.Refusal.{Refusal as Told}
use Rattle.as5506.specs.declared.Listed.{Listed}
use Rattle.as5506.specs.GroupList.{group_connections}
use Rattle.as5506.specs.Listing.{GroupList, group_of, group_answer}
use Rattle.as5506.specs.Links.{WalkGivesChildren}
use Rattle.as5506.specs.Layout.{room_in, links_in, links_of, group_row_numbers, group_diag_numbers, composed_names, output}
use Rattle.lent.specs.Answered.{AnswerIn}
use Rattle.child_links.specs.Linked.{Linked}

-- how many rows and diagnostics a list has
abbrev pub listed : GroupList → Listed
listed g = record { rows = length g.rows; diagnostics = length g.diags }

-- the definition's answer for the tables m and outputs of these lengths
abbrev pub answer_for : Tables → List ℕ → List ℕ → List ℕ → List ℕ → Answer GroupList
answer_for m links rows names diags = group_answer same_bytes (links_in (length links)) (room_in (length rows) (length diags)) (length names) m

-- THE CONTRACT: a call on the tables m with the outputs `links`, `rows`, `names` and `diags`, for which the definition's answer is `wanted`, answers z and
-- leaves links', rows', names' and diags' in them. The last field is 02 (xiii), of the links handed back: the walk along them gives the children by place
pub record GroupListedAs (wanted : Answer GroupList) (m : Tables) (links rows names diags : List ℕ) (z : Result Listed Told) (links' rows' names' diags' : List ℕ) : Type 0 where
  pub answer : z ≡ handed listed wanted
  pub written-links : links' ≡ output (length links) (links_of m) wanted
  pub written-rows : rows' ≡ output (length rows) group_row_numbers wanted
  pub written-names : names' ≡ output (length names) composed_names wanted
  pub written-diagnostics : diags' ≡ output (length diags) group_diag_numbers wanted
  pub children-by-links : (l : Listed) → z ≡ Ok l → WalkGivesChildren m links'

-- of the call over numbers: the room is what the outputs hold
abbrev pub GroupListedInto : Tables → List ℕ → List ℕ → List ℕ → List ℕ → Result Listed Told → List ℕ → List ℕ → List ℕ → List ℕ → Type 0
GroupListedInto m links rows names diags z links' rows' names' diags' =
    GroupListedAs (answer_for m links rows names diags) m links rows names diags z links' rows' names' diags'

-- ---- accepted tables, before a refusal clears the outputs

abbrev pub answer_of : Comparison → Tables → List ℕ → List ℕ → List ℕ → Answer GroupList
answer_of same m rows names diags = group_of (room_in (length rows) (length diags)) (length names) m (group_connections same m)

-- names are composed once all rows are known to find room: on 13 and 11 their output is as it was
unfoldable pub NamesStay : Result Listed Told → List ℕ → List ℕ → Type 0
NamesStay (Ok l) names names' = Unit {0}
NamesStay (Err r) names names' = (r.number ≡ 13) ⊎ (r.number ≡ 11) → names' ≡ names

-- a call for which the definition's answer is `wanted` answers z and leaves rows', names' and diags' in the outputs
pub record Lists (wanted : Answer GroupList) (rows names diags : List ℕ) (z : Result Listed Told) (rows' names' diags' : List ℕ) : Type 0 where
  pub answer : z ≡ handed listed wanted
  pub in_rows : AnswerIn group_row_numbers wanted rows rows'
  pub in_names : AnswerIn composed_names wanted names names'
  pub in_diagnostics : AnswerIn group_diag_numbers wanted diags diags'
  pub stay : NamesStay z names names'

-- ---- any tables, before a refusal clears the outputs

pub record ListsLinked (wanted : Answer GroupList) (m : Tables) (links rows names diags : List ℕ) (z : Result Listed Told) (links' rows' names' diags' : List ℕ) : Type 0 where
  pub answer : z ≡ handed listed wanted
  pub linked : (l : Listed) → z ≡ Ok l → Linked m links'
  pub in_rows : AnswerIn group_row_numbers wanted rows rows'
  pub in_names : AnswerIn composed_names wanted names names'
  pub in_diagnostics : AnswerIn group_diag_numbers wanted diags diags'
