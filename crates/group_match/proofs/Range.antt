-- The features of an expansion that is matched: each has the name of an E row, and a prefix of at most ten names. Assumes nothing.
use mathlib.Core.Bool.{false}
use mathlib.Core.List.{[]}
use Prim.Native.Nat.{ℕ, suc, ◌/◌, ◌≤◌, ◌<◌}
use lib.ListN.{length}
use Rattle.as5506.specs.Tables.{width, letter_e, e_name}
use Rattle.as5506.specs.Groups.{Feature, depth_limit}
use Rattle.as5506.proofs.Laws.{All}
use Rattle.links.specs.Walk.{declared_in, Groups, visit_link}
use Rattle.links.proofs.Range.{expansion-each}

-- a feature whose name is one of `size`, and which finds room in a block
pub record Fine (size : ℕ) (f : Feature) : Type 0 where
  pub name_below : f.name < size
  pub prefix-short : length f.prefix ≤ depth_limit

pub expansion-fine : (g : Groups) (size : ℕ) → ((i : ℕ) → i < length g.e / width letter_e → e_name (declared_in g.e) i < size) → (to : ℕ) → All (Fine size) (visit_link g (suc depth_limit) to false []).features
expansion-fine g size names to = expansion-each g (Fine size) (λ i v p h l. record { name_below = names i h; prefix-short = l }) to false
