-- What holds of all letters. Assumes nothing.
use mathlib.Core.Path.{◌≡◌}
use mathlib.Core.List.{List, [], ◌∷◌}
use Prim.Native.Nat.{◌≤◌}
use lib.Dec.{T, ltb, nltb→le}
use Rattle.std.specs.Prelude.{Ok}
use Rattle.as5506.specs.Lists.{is_nil, each}
use Rattle.as5506.specs.Tables.{Tables, Letter, count}
use Rattle.as5506.specs.Columns.{order}
use Rattle.as5506.specs.Answers.{Refusal, refusal, row, told}
use Rattle.as5506.specs.Refusals.{too_many_rows}
use Rattle.as5506.proofs.Answers.{ok-not-err}
use Rattle.as5506.proofs.Letters.{each-letter}
use Rattle.as5506.proofs.Laws.{All, nil-when, nil-each}
use Rattle.tables.specs.Answer.{Checked, checked}
use Rattle.tables.specs.Few.{Few}

-- what holds of all letters holds of each
pub at-letter : (P : Letter → Type 0) → All P order → (l : Letter) → P l
at-letter P a =
    each-letter P a.0 a.1.0 a.1.1.0 a.1.1.1.0 a.1.1.1.1.0 a.1.1.1.1.1.0 a.1.1.1.1.1.1.0 a.1.1.1.1.1.1.1.0 a.1.1.1.1.1.1.1.1.0 a.1.1.1.1.1.1.1.1.1.0 a.1.1.1.1.1.1.1.1.1.1.0
    a.1.1.1.1.1.1.1.1.1.1.1.0

-- where no table has too many rows
pub few-rows : (m : Tables) → T (is_nil (each (too_many_rows m) order)) → (l : Letter) → count m l ≤ 4096
unfolding too_many_rows
few-rows m t l = nltb→le 4096 (count m l) (nil-when (ltb 4096 (count m l)) (refusal 10 (row l 4096)) (at-letter (λ l. T (is_nil (too_many_rows m l))) (nil-each (too_many_rows m) order t) l))

pub few_after : (m : Tables) → ◌≡◌ {A = Checked} (Ok tt) (checked (each (too_many_rows m) order)) → Few m
few_after m e = record { few = few-rows m (go (each (too_many_rows m) order) e) }
  where
    go : (fs : List Refusal) → ◌≡◌ {A = Checked} (Ok tt) (checked fs) → T (is_nil fs)
    go [] h = tt
    go (x ∷ fs) h = absurd (ok-not-err tt (told x) h)
