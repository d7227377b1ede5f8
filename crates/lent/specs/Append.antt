-- Pieces written one behind the other into a lent output. Assumes nothing.
use Rattle.std.specs.Prelude.{Bool, true, false, ◌≡◌, List, [], ◌∷◌, ℕ, ◌+◌, ◌≤◌, leb, length, take, Option, Some, None, IfSome}
use Rattle.std.proofs.lemmas.List.Edits.{sets}
use Rattle.as5506.specs.Lists.{each}

-- an output and how much of it is used, none where a piece found no room
pub record Filled (A : Type 0) : Type 0 where
  pub holds : List A
  pub used : Option ℕ

module _ {A : Type 0} where
  abbrev pub filled : List A → Option ℕ → Filled A
  filled l k = record { holds = l; used = k }

  -- what is used lies within the output
  abbrev pub Within : Filled A → Type 0
  Within o = IfSome o.used (λ k. k ≤ length o.holds)

  -- of an output as much as is used, all of one that is full
  unfoldable pub part_used : Option ℕ → List A → List A
  part_used None l = l
  part_used (Some k) l = take k l

  -- what was used of an output stays as it was
  abbrev pub Stays : Filled A → Filled A → Type 0
  Stays o n = part_used o.used n.holds ≡ part_used o.used o.holds

  unfoldable pub append_by : Bool → ℕ → List A → List A → Filled A
  append_by true k piece l = filled (sets l k piece) (Some (k + length piece))
  append_by false k piece l = filled l None

  unfoldable pub append_behind : Option ℕ → List A → List A → Filled A
  append_behind None piece l = filled l None
  append_behind (Some k) piece l = append_by (leb (k + length piece) (length l)) k piece l

  -- a piece behind what is used, if there is room for the whole of it
  abbrev pub append : List A → Filled A → Filled A
  append piece o = append_behind o.used piece o.holds

  -- pieces, one behind the other
  unfoldable pub append_all : List (List A) → Filled A → Filled A
  append_all [] o = o
  append_all (p ∷ ps) o = append_all ps (append p o)

  -- the pieces as one
  abbrev pub together : List (List A) → List A
  together ps = each (λ (p : List A). p) ps
