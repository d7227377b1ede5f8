-- First appearances: what is kept of a destination. Assumes nothing.
use Rattle.std.specs.Prelude.{Bool, true, false, ◌≡◌, List, [], ◌∷◌, ℕ, ◌≤◌, eqb, length, get_or, take, set, Option, Some, None}
use Rattle.as5506.specs.Lists.{each, zeros}
use Rattle.as5506.specs.Groups.{Feature, Expansion, too_many_visits}
use Rattle.as5506.specs.Layout.{feature_block}

-- the features whose name has not come yet, after the names that memo marks
unfoldable pub firsts_by : Bool → Feature → List Feature → List Feature → List Feature
firsts_by true f new old = f ∷ new
firsts_by false f new old = old

unfoldable pub firsts : List ℕ → List Feature → List Feature
firsts memo [] = []
firsts memo (f ∷ fs) = firsts_by (eqb (get_or memo f.name 0) 0) f (firsts (set memo f.name 1) fs) (firsts memo fs)

-- an expansion's blocks of first appearances among `size` names
abbrev pub first_blocks : ℕ → Expansion → List ℕ
first_blocks size x = each feature_block (firsts (zeros size) x.features)

-- an answer: there are too many visits, or so many numbers are used for the blocks
abbrev pub KeepsFirsts : Expansion → Option ℕ → ℕ → List ℕ → Type 0
KeepsFirsts x None size kept = too_many_visits x ≡ true
KeepsFirsts x (Some used) size kept = (too_many_visits x ≡ false) × (used ≤ length kept) × (take used kept ≡ first_blocks size x)
