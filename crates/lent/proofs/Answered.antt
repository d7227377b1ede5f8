-- Laws of `AnswerIn`: an output that was zeros and holds an answer, or is cleared after a refusal, is the definition's. Assumes nothing.
use mathlib.Core.Bool.{not}
use mathlib.Core.Path.{◌≡◌, refl, ap, ◌∙◌}
use mathlib.Core.List.{List}
use Prim.Native.Nat.{ℕ, ◌≤◌}
use native.Mathlib.Omega.{arith}
use lib.Dec.{T}
use lib.ListN.{length}
use lib.Seq.{sets}
use Rattle.as5506.specs.Lists.{zeros}
use Rattle.as5506.specs.Answers.{Refusal, Answer, given, refused}
use Rattle.as5506.specs.Layout.{output}
use Rattle.as5506.proofs.Laws.{zeros-length}
use Rattle.as5506.proofs.Answers.{is_given}
use Rattle.lent.specs.Answered.{AnswerIn}
use Rattle.lent.proofs.Padded.{padded-is}

module _ {A : Type 0} (numbers : A → List ℕ) (a : Answer A) (out out' : List ℕ) where
  pub given-in : (x : A) → a ≡ given x → length (numbers x) ≤ length out → out' ≡ sets out 0 (numbers x) → AnswerIn numbers a out out'
  unfolding AnswerIn
  given-in x e h w = rw e (h, w)

  pub refused-in : (r : Refusal) → a ≡ refused r → AnswerIn numbers a out out'
  unfolding AnswerIn
  refused-in r e = rw e tt

module _ {A : Type 0} (numbers : A → List ℕ) where
  -- the output was zeros
  pub keeps : (a : Answer A) (out out' : List ℕ) (n : ℕ) → T (is_given a) → out ≡ zeros n → AnswerIn numbers a out out' → out' ≡ output n numbers a
  unfolding AnswerIn
  keeps (given x) out out' n t e w =
      w.1 ∙ ap (λ (o : List ℕ). sets o 0 (numbers x)) e ∙ padded-is n (numbers x) (omega (arith, w.0, zeros-length out n e))
  keeps (refused r) out out' n t e w = absurd t

  -- the output is cleared
  pub clears : (a : Answer A) (n : ℕ) → T (not (is_given a)) → zeros n ≡ output n numbers a
  clears (given x) n t = absurd t
  clears (refused r) n t = refl
