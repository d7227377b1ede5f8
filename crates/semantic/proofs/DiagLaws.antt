-- The diagnostics of a connection, by its children. Assumes nothing.
use mathlib.Core.Bool.{true, false}
use mathlib.Core.Path.{◌≡◌, refl}
use mathlib.Core.List.{List, [], ◌∷◌}
use Prim.Native.Nat.{ℕ}
use borrow.Author.Tests.{eq-eqb}
use Rattle.std.specs.Prelude.{Option, is_some}
use Rattle.as5506.specs.Lists.{first_of}
use Rattle.as5506.specs.Rows.{diag}
use Rattle.as5506.specs.Tracing.{no_child, unequal}

-- by the first of the children of a side
module _ (code x sub : ℕ) (l : List ℕ) {o : Option ℕ} (e : o ≡ first_of l) where
  pub side_some : true ≡ is_some o → no_child code x sub l ≡ []
  side_some h = some l (rw (← e) h)
    where
      some : (l : List ℕ) → true ≡ is_some (first_of l) → no_child code x sub l ≡ []
      some [] h = cc
      some (a ∷ l) h = refl

  pub side_none : false ≡ is_some o → {c n : ℕ} → c ≡ code → n ≡ sub → no_child code x sub l ≡ diag c x n 0 ∷ []
  side_none h p q = rw (p, q) (none l (rw (← e) h))
    where
      none : (l : List ℕ) → false ≡ is_some (first_of l) → no_child code x sub l ≡ diag code x sub 0 ∷ []
      none [] h = refl
      none (a ∷ l) h = cc

pub counts_equal : (x a b : ℕ) → a ≡ b → unequal true x a b ≡ []
counts_equal x a b e = rw (eq-eqb a b e)
