-- The modes of each component as a chain of M rows. Assumes nothing.
use Rattle.std.specs.Prelude.{not, ◌≡◌, List, [], ◌∷◌, map, ℕ, zero, suc, ◌+◌, ◌≤◌, ◌<◌, length, get_or, set}
use Rattle.as5506.specs.Lists.{zeros, keep, is_nil}
use Rattle.as5506.specs.Tables.{Tables, modes_of, letter_m, count}
use Rattle.operation_modes.specs.declared.link.Linked.{Linked}

-- k modes from mode v on, each linked to the one after it
unfoldable pub chain : List ℕ → ℕ → ℕ → List ℕ
chain next v zero = []
chain next v (suc k) = v ∷ chain next (get_or next v 0) k

-- the modes of component o by the links
unfoldable pub modes_linked : Linked → ℕ → List ℕ
modes_linked l o = chain l.next (get_or l.first o 0) (get_or l.sizes o 0)

-- no mode is linked
abbrev pub unlinked : Linked
unlinked = record { first = zeros 4096; next = zeros 4096; sizes = zeros 4096 }

-- with mode j put before those of component o
abbrev pub put_before : Linked → ℕ → ℕ → Linked
put_before l o j =
    record { first = set l.first o j; next = set l.next j (get_or l.first o 0); sizes = set l.sizes o (get_or l.sizes o 0 + 1) }

-- all modes are linked
pub record Links (m : Tables) (l : Linked) : Type 0 where
  pub are : (o : ℕ) → o < 4096 → modes_linked l o ≡ modes_of m o
  pub few : (o : ℕ) → length (modes_linked l o) ≤ count m letter_m

-- where each component has these modes, those of the components of a list that have some
unfoldable pub modal_of : (ℕ → List ℕ) → List ℕ → List (List ℕ)
modal_of modes components = keep (λ ms. not (is_nil ms)) (map modes components)
