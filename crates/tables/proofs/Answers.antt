-- What the answer of the checks tells a caller. Assumes nothing.
use mathlib.Core.Path.{◌≡◌, refl, sym, ◌∙◌}
use mathlib.Core.List.{List, [], ◌∷◌}
use lib.Dec.{T}
use Rattle.std.specs.Prelude.{Ok, Err}
use Rattle.as5506.specs.declared.Refusal.{Refusal as Told}
use Rattle.as5506.specs.Tables.{Tables}
use Rattle.as5506.specs.Answers.{Refusal, told}
use Rattle.as5506.specs.Refusals.{faults, accepted}
use Rattle.as5506.proofs.Answers.{ok-not-err, err-same}
use Rattle.tables.specs.Answer.{Checked, checked}

module _ (fs : List Refusal) (z : Checked) (e : z ≡ checked fs) where
  -- nothing refuses
  pub none-is : z ≡ Ok tt → fs ≡ []
  none-is f = go fs (sym e ∙ f)
    where
      go : (gs : List Refusal) → checked gs ≡ Ok tt → gs ≡ []
      go [] h = refl
      go (x ∷ gs) h = absurd (ok-not-err tt (told x) (sym h))

  -- the first fault does
  pub refused-is : (r : Told) → z ≡ Err r → (x : Refusal) × (gs : List Refusal) × (fs ≡ x ∷ gs) × (r ≡ told x)
  refused-is r f = go fs (sym e ∙ f)
    where
      go : (gs : List Refusal) → checked gs ≡ Err r → (x : Refusal) × (hs : List Refusal) × (gs ≡ x ∷ hs) × (r ≡ told x)
      go [] h = absurd (ok-not-err tt r h)
      go (x ∷ hs) h = (x, hs, refl, sym (err-same (told x) r h))

-- the tables are accepted
pub accepted-is : (m : Tables) (z : Checked) → z ≡ checked (faults m) → z ≡ Ok tt → T (accepted m)
unfolding accepted
accepted-is m z e f = rw (none-is (faults m) z e f) tt
