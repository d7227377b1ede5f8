-- 02 (vi), of what both entries hand back. Assumes nothing.
use Rattle.std.specs.Prelude.{◌≡◌, ℕ, length, Result}
use Rattle.as5506.specs.Lists.{same_bytes}
use Rattle.as5506.specs.Tables.{Tables}
use Rattle.as5506.specs.Names.{same_folded}
use Rattle.as5506.specs.declared.Refusal.{Refusal as Told}
use Rattle.as5506.specs.Entries.{NamesApart}
use Rattle.listing.specs.declared.Both.{Both}
use Rattle.listing.specs.Answer.{Outputs, BothInto}

-- outputs of the same lengths, whatever they hold
pub record SameLengths (o o' : Outputs) : Type 0 where
  pub links : length o.links ≡ length o'.links
  pub rows : length o.rows ≡ length o'.rows
  pub diags : length o.diags ≡ length o'.diags
  pub group-rows : length o.group-rows ≡ length o'.group-rows
  pub names : length o.names ≡ length o'.names
  pub group-diags : length o.group-diags ≡ length o'.group-diags

-- "Where all names that differ also differ folded, both entries give one list": for tables with such names both answer the same under one limit, and leave
-- the same in every output
abbrev pub OneListHandedBack : Type 0
OneListHandedBack =
    (m : Tables) → NamesApart m → (k : ℕ) (o o' : Outputs) → SameLengths o o' → (z z' : Result Both Told) (p p' : Outputs)
    → BothInto same_bytes k m o z p → BothInto same_folded k m o' z' p' → (z ≡ z') × (p ≡ p')
