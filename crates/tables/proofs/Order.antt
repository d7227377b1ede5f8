-- Checks one after the other: a refusal of the first is that of all, and where it accepts, what the others find is. Assumes nothing.
use mathlib.Core.Path.{◌≡◌, refl, sym}
use mathlib.Core.List.{List, [], ◌∷◌, ◌++◌}
use Rattle.std.specs.Prelude.{Ok}
use Rattle.as5506.specs.Answers.{Refusal, told}
use Rattle.as5506.proofs.Answers.{ok-not-err}
use Rattle.tables.specs.Answer.{checked}

module _ (xs ys : List Refusal) where
  pub stops : (checked xs ≡ Ok tt → ⊥) → checked (xs ++ ys) ≡ checked xs
  stops = go xs
    where
      go : (xs : List Refusal) → (checked xs ≡ Ok tt → ⊥) → checked (xs ++ ys) ≡ checked xs
      go [] h = absurd (h refl)
      go (x ∷ xs) h = refl

  pub goes_on : checked xs ≡ Ok tt → checked (xs ++ ys) ≡ checked ys
  goes_on = go xs
    where
      go : (xs : List Refusal) → checked xs ≡ Ok tt → checked (xs ++ ys) ≡ checked ys
      go [] h = refl
      go (x ∷ xs) h = absurd (ok-not-err tt (told x) (sym h))

pub ruleset in_turn = (stops, goes_on)
