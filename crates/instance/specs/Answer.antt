-- What the call answers, and what its outputs hold. Assumes nothing.
use Rattle.std.specs.Prelude.{◌↔◌, ◌≡◌, List, ℕ, length, Result, Ok}
use Rattle.as5506.specs.Lists.{same_bytes}
use Rattle.as5506.specs.Tables.{Tables}
use Rattle.as5506.specs.Answers.{Answer, handed}
use Rattle.as5506.specs.declared.Refusal.{Refusal as Told}
use Rattle.as5506.specs.declared.Listed.{Listed}
use Rattle.as5506.specs.Tracing.{unlimited}
use Rattle.as5506.specs.Followed.{NoneHasNext}
use Rattle.as5506.specs.Listing.{TracedList, traced_answer}
use Rattle.as5506.specs.Links.{WalkGivesChildren}
use Rattle.as5506.specs.Layout.{room_in, links_in, links_of, traced_row_numbers, traced_diag_numbers, output, rows_back}

-- how many rows and diagnostics a list has
abbrev pub listed : TracedList → Listed
listed l = record { rows = length l.rows; diagnostics = length l.diags }

-- the definition's answer for the limit k, the tables m and outputs of these lengths
abbrev pub answer_for : ℕ → Tables → List ℕ → List ℕ → List ℕ → Answer TracedList
answer_for k m links rows diags = traced_answer same_bytes k (links_in (length links)) (room_in (length rows) (length diags)) m

-- THE CONTRACT: a call under the limit k on the tables m with the outputs `links`, `rows` and `diags`, for which the definition's answer is `wanted`, answers z
-- and leaves links', rows' and diags' in them. Then 02 (xiii), of the links handed back: the walk along them gives the children by place. The last field is
-- demand 3: the rows counted and handed back, with the bytes of their three names, are the rows without a limit exactly when no followed chain has a step
-- beyond it
pub record TracedAs (wanted : Answer TracedList) (k : ℕ) (m : Tables) (links rows diags : List ℕ) (z : Result Listed Told) (links' rows' diags' : List ℕ) : Type 0 where
  pub answer : z ≡ handed listed wanted
  pub written-links : links' ≡ output (length links) (links_of m) wanted
  pub written-rows : rows' ≡ output (length rows) (traced_row_numbers m) wanted
  pub written-diagnostics : diags' ≡ output (length diags) traced_diag_numbers wanted
  pub children-by-links : (l : Listed) → z ≡ Ok l → WalkGivesChildren m links'
  pub step-limit : (l : Listed) → z ≡ Ok l → (rows_back m l.rows rows' ≡ unlimited same_bytes m) ↔ NoneHasNext same_bytes k m

-- of the call over numbers: the room is what the outputs hold
abbrev pub TracedInto : ℕ → Tables → List ℕ → List ℕ → List ℕ → Result Listed Told → List ℕ → List ℕ → List ℕ → Type 0
TracedInto k m links rows diags z links' rows' diags' = TracedAs (answer_for k m links rows diags) k m links rows diags z links' rows' diags'
