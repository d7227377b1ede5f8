-- What the call answers, and what its output holds. Assumes nothing.
use Rattle.std.specs.Prelude.{Bool, ◌≡◌, List, ℕ, ◌/◌, length, Result}
use Rattle.as5506.specs.Tables.{Tables}
use Rattle.as5506.specs.Answers.{Answer, handed}
use Rattle.as5506.specs.Groups.{Expansion}
use Rattle.as5506.specs.Listing.{expand_answer}
use Rattle.as5506.specs.Layout.{feature_numbers, expansion_numbers, output}
use Rattle.as5506.specs.declared.Refusal.{Refusal as Told}
use Rattle.lent.specs.Answered.{AnswerIn}
use Rattle.feature_group.specs.declared.Expanded.{Expanded}

-- what the code hands over of an expansion: how many features were written and how many visits were made
abbrev pub expanded : Expansion → Expanded
expanded x = record { features = length x.features; visits = x.visits }

-- the definition's answer for the tables m and an output of this length
abbrev pub answer_for : Tables → List ℕ → ℕ → ℕ → Bool → Answer Expansion
answer_for m out from name inverse = expand_answer (length out / feature_numbers) m from name inverse

-- a call for which the definition's answer is `wanted`, before a refusal clears the output: it answers z and leaves out' in it
pub record Gives (wanted : Answer Expansion) (out : List ℕ) (z : Result Expanded Told) (out' : List ℕ) : Type 0 where
  pub answer : z ≡ handed expanded wanted
  pub in-features : AnswerIn expansion_numbers wanted out out'

-- THE CONTRACT: a call on the tables m with the output `out` answers z and leaves out' in it
pub record ExpandedInto (m : Tables) (out : List ℕ) (from name : ℕ) (inverse : Bool) (z : Result Expanded Told) (out' : List ℕ) : Type 0 where
  pub answer : z ≡ handed expanded (answer_for m out from name inverse)
  pub written-features : out' ≡ output (length out) expansion_numbers (answer_for m out from name inverse)
