-- What an output holds after an answer, before a refusal clears it. Assumes nothing.
use Rattle.std.specs.Prelude.{◌≡◌, List, ℕ, ◌≤◌, length}
use Rattle.std.proofs.lemmas.List.Edits.{sets}
use Rattle.as5506.specs.Answers.{Answer, given, refused}

module _ {A : Type 0} where
  -- the numbers of what is given, from the front; there are no more of them than places. After a refusal it may hold anything
  unfoldable pub AnswerIn : (A → List ℕ) → Answer A → List ℕ → List ℕ → Type 0
  AnswerIn numbers (given x) out out' = (length (numbers x) ≤ length out) × (out' ≡ sets out 0 (numbers x))
  AnswerIn numbers (refused r) out out' = Unit {0}
