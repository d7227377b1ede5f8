-- What a number that is taken for a limit tells: whether 19 refuses it, and how many steps there are. Assumes nothing.
use mathlib.Core.Bool.{Bool, true}
use mathlib.Core.Path.{◌≡◌, sym, ap, ◌∙◌, subst}
use mathlib.Core.List.{List, [], ◌∷◌}
use Prim.Native.Nat.{ℕ, ◌≤◌}
use lib.Dec.{T, ltb, nltb→le}
use Rattle.std.specs.Prelude.{Result, Ok, Err, is_err, IfOk}
use Rattle.as5506.specs.Lists.{is_nil, when}
use Rattle.as5506.specs.declared.Refusal.{Refusal as Told}
use Rattle.as5506.specs.declared.step_limit.StepLimit.{StepLimit}
use Rattle.as5506.specs.Answers.{Refusal, refusal, nowhere, told}
use Rattle.as5506.specs.Tracing.{largest_limit}
use Rattle.as5506.specs.Listing.{limit_over}
use Rattle.as5506.proofs.Laws.{nil-when}
use Rattle.as5506.proofs.Answers.{err-same}

-- no 19: it is no more than 64
pub allowed : (k : ℕ) → T (is_nil (limit_over k)) → k ≤ largest_limit
allowed k t = nltb→le largest_limit k (nil-when (ltb largest_limit k) (refusal 19 nowhere) t)

-- q is what the code takes it for
module _ (k : ℕ) (q : Result StepLimit Told) where
  pub limit-taken : is_err q ≡ ltb largest_limit k → (l : StepLimit) → q ≡ Ok l → limit_over k ≡ []
  limit-taken over l e = ap (λ (b : Bool). when b (refusal 19 nowhere)) (sym over ∙ ap is_err e)

  pub steps-taken : IfOk q (λ l. l.steps ≡ k) → (l : StepLimit) → q ≡ Ok l → l.steps ≡ k
  steps-taken h l e = subst (λ z. IfOk z (λ l. l.steps ≡ k)) e h

  pub limit-refused : is_err q ≡ ltb largest_limit k → (is_err q ≡ true → q ≡ Err (told (refusal 19 nowhere))) → (r : Told) → q ≡ Err r
      → (limit_over k ≡ refusal 19 nowhere ∷ []) × (r ≡ told (refusal 19 nowhere))
  limit-refused over is r e = (
    ap (λ (b : Bool). when b (refusal 19 nowhere)) (sym over ∙ ap is_err e),
    err-same r (told (refusal 19 nowhere)) (sym e ∙ is (ap is_err e)),
  )
