-- What the call for a selection leaves in the outputs that are lent here, and the text that is printed from it. Assumes nothing.
use mathlib.Core.Bool.{false}
use mathlib.Core.Path.{◌≡◌, ap, ap₂, ◌∙◌}
use mathlib.Core.List.{List, ◌++◌}
use Prim.Native.Nat.{ℕ, ◌-◌, ◌≤◌}
use native.Mathlib.Omega.{arith}
use lib.ListN.{length, take, length-append, length-replicate}
use Rattle.std.specs.Prelude.{Result, Ok}
use Rattle.as5506.specs.Lists.{bytes_of, zeros, padded}
use Rattle.as5506.specs.Tables.{Tables}
use Rattle.as5506.specs.Answers.{Answer, given, handed}
use Rattle.as5506.specs.Modes.{Selection, selection_answer}
use Rattle.as5506.specs.Layout.{output}
use Rattle.as5506.specs.Text.{number_line, text_line, selection_lines}
use Rattle.as5506.specs.Program.{rows_lent, names_lent}
use Rattle.as5506.specs.declared.Refusal.{Refusal as Told}
use Rattle.as5506.proofs.Answers.{handed-ok}
use Rattle.lent.proofs.Padded.{padded-front}
use Rattle.shown.proofs.Fits.{refusal_shown}
use lib.Seq.{length-take-le}
use Rattle.operation_modes.specs.declared.Selected.{Selected}
use Rattle.operation_modes.specs.Answer.{selected, selected_rows, selected_name}

-- what is written lies within its output
holds : (n : ℕ) (l out : List ℕ) → out ≡ padded n l → length l ≤ length out
unfolding padded
holds n l out e = omega (arith, ap length e, length-append l (zeros (n - length l)))

-- and from the front
front : (n : ℕ) (l out : List ℕ) (k : ℕ) → out ≡ padded n l → k ≡ length l → take k out ≡ l
front n l out k e f = ap₂ take f e ∙ padded-front n l

-- the outputs that are lent here
abbrev pub no_rows : List ℕ
no_rows = zeros (rows_lent false)

abbrev pub no_name : List ℕ
no_name = zeros names_lent

abbrev pub answer : Tables → ℕ → Answer Selection
answer m number = selection_answer (rows_lent false) names_lent m number

-- a call for a selection, handed over as it answers
module _ (m : Tables) (number : ℕ) (z : Result Selected Told) (e : z ≡ handed selected (selection_answer (length no_rows) (length no_name) m number)) where
  lent-is : selection_answer (length no_rows) (length no_name) m number ≡ answer m number
  lent-is = λ i. selection_answer (length-replicate {A = ℕ} (rows_lent false) 0 i) (length-replicate {A = ℕ} names_lent 0 i) m number

  pub answered : z ≡ handed selected (answer m number)
  answered = e ∙ ap (handed selected) lent-is

  module _ (b : Selected) (given_so : z ≡ Ok b) where
    the-selection : (x : Selection) × (answer m number ≡ given x) × (b ≡ selected x)
    the-selection = handed-ok selected z (answer m number) answered b given_so

    rows-are : (rows : List ℕ) → rows ≡ output (length no_rows) selected_rows (selection_answer (length no_rows) (length no_name) m number) → (x : Selection) → answer m number ≡ given x → rows ≡ padded (length no_rows) x.rows
    rows-are rows h x g = h ∙ ap (output (length no_rows) selected_rows) (lent-is ∙ g)

    name-is : (name : List ℕ) → name ≡ output (length no_name) selected_name (selection_answer (length no_rows) (length no_name) m number) → (x : Selection) → answer m number ≡ given x → name ≡ padded (length no_name) x.name
    name-is name h x g = h ∙ ap (output (length no_name) selected_name) (lent-is ∙ g)

    pub rows_within : (rows : List ℕ) → rows ≡ output (length no_rows) selected_rows (selection_answer (length no_rows) (length no_name) m number) → b.rows ≤ length rows
    rows_within rows h = let x = the-selection in omega (arith, ap (λ (s : Selected). s.rows) x.2, holds _ x.0.rows rows (rows-are rows h x.0 x.1))

    pub name_within : (name : List ℕ) → name ≡ output (length no_name) selected_name (selection_answer (length no_rows) (length no_name) m number) → b.bytes ≤ length name
    name_within name h = let x = the-selection in omega (arith, ap (λ (s : Selected). s.bytes) x.2, holds _ x.0.name name (name-is name h x.0 x.1))

    -- the text of as many rows and bytes as are counted is the definition's
    pub selection_same : (rows name : List ℕ) → rows ≡ output (length no_rows) selected_rows (selection_answer (length no_rows) (length no_name) m number)
        → name ≡ output (length no_name) selected_name (selection_answer (length no_rows) (length no_name) m number) → (x : Selection) → answer m number ≡ given x → b ≡ selected x
        → number_line (bytes_of "M") (take b.rows rows) ++ text_line (bytes_of "=") (take b.bytes name) ≡ selection_lines x
    unfolding selection_lines
    selection_same rows name h k x g e =
        ap₂ (λ (r s : List ℕ). number_line (bytes_of "M") r ++ text_line (bytes_of "=") s)
        (front _ x.rows rows b.rows (rows-are rows h x g) (ap (λ (s : Selected). s.rows) e)) (front _ x.name name b.bytes (name-is name k x g) (ap (λ (s : Selected). s.bytes) e))

pub ruleset selecting = (rows_within, name_within, length-take-le, refusal_shown, answered)
