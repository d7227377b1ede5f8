-- Blocks written one after the other into a lent output, as many as find room. Assumes nothing.
use Rattle.std.specs.Prelude.{◌≡◌, List, ℕ, ◌+◌, ◌-◌, ◌*◌, ◌/◌, ◌<◌, ◌≤◌, length, take, Option, Some, None}
use Rattle.std.proofs.lemmas.List.Edits.{sets}
use Rattle.std.specs.Borrow.{MutBor}
use Rattle.as5506.specs.Lists.{each}
use Rattle.output.specs.declared.blocks.Blocks.{Blocks}

module _ {A : Type 0} where
  -- how many blocks of w numbers stand in out once the entries l are written behind the first `count`, or that not all of them find room
  unfoldable pub Tells : ℕ → List A → List ℕ → ℕ → Option ℕ → Type 0
  Tells w l out count (Some r) = (r ≡ count + length l) × (r ≤ length out / w)
  Tells w l out count None = length out / w < count + length l

  -- the entries that find room
  unfoldable pub fitting : ℕ → List A → List ℕ → ℕ → List A
  fitting w l out count = take (length out / w - count) l

  -- The entries l are written behind the first `count` blocks of out, each as a block f of w numbers, as many as find room: q tells it, and out' is
  -- what the output holds then, all else in it being as it was.
  pub record Written (w : ℕ) (f : A → List ℕ) (l : List A) (out : List ℕ) (count : ℕ) (q : Option ℕ) (out' : List ℕ) : Type 0 where
    pub tells : Tells w l out count q
    pub whole : length (each f (fitting w l out count)) ≡ length (fitting w l out count) * w
    pub holds : out' ≡ sets out (count * w) (each f (fitting w l out count))

-- a block by its numbers
abbrev pub itself : List ℕ → List ℕ
itself block = block

-- no block is written yet into the numbers that are lent
pub record BeginsBlocks {w : ℕ} (lent : MutBor (List ℕ)) (b : Blocks w) : Type 0 where
  pub same : b.numbers.ghost_name ≡ lent.ghost_name
  pub now : b.numbers.now ≡ lent.now
  pub count : b.count ≡ 0

-- how many blocks stand there, where a call tells that all found room
abbrev pub count_told : Option (Unit {0}) → ℕ → Option ℕ
count_told None count = None
count_told (Some u) count = Some count

-- The entries l are written, each as a block f, behind the blocks that stand in b, as many as find room: q tells whether all do, and b' is what is left.
-- Where not all do, as many blocks stand there as there is room for.
pub record Wrote {A : Type 0} {w : ℕ} (f : A → List ℕ) (l : List A) (b : Blocks w) (q : Option (Unit {0})) (b' : Blocks w) : Type 0 where
  pub same : b'.numbers.ghost_name ≡ b.numbers.ghost_name
  pub written : Written w f l b.numbers.now b.count (count_told q b'.count) b'.numbers.now
  pub full : q ≡ None → b'.count ≡ length b'.numbers.now / w
