-- 02 (ix), of what two calls hand back. Assumes nothing.
use Rattle.std.specs.Prelude.{◌↔◌, ◌≡◌, List, ℕ, Result, Ok}
use Rattle.as5506.specs.Lists.{same_bytes}
use Rattle.as5506.specs.Tables.{Tables}
use Rattle.as5506.specs.declared.Refusal.{Refusal as Told}
use Rattle.as5506.specs.declared.Listed.{Listed}
use Rattle.as5506.specs.Rows.{Row}
use Rattle.as5506.specs.Listing.{Room, traced_answer}
use Rattle.as5506.specs.Limits.{OneReach}
use Rattle.as5506.specs.Layout.{rows_back}
use Rattle.instance.specs.Answer.{TracedAs}

-- a call for the traced listing under the limit k, whatever the room, handed back the rows r: those that it counts, read from their output with the bytes of
-- their three names
pub record HandedBack (k : ℕ) (m : Tables) (r : List Row) : Type 0 where
  pub links-room : ℕ
  pub room : Room
  pub links : List ℕ
  pub rows : List ℕ
  pub diags : List ℕ
  pub answer : Result Listed Told
  pub links-after : List ℕ
  pub rows-after : List ℕ
  pub diags-after : List ℕ
  pub call : TracedAs (traced_answer same_bytes k links-room room m) k m links rows diags answer links-after rows-after diags-after
  pub counted : Listed
  pub gives : answer ≡ Ok counted
  pub are : r ≡ rows_back m counted.rows rows-after

-- "For two limits, the lists are equal exactly when they are the same number or no followed chain has a step beyond the smaller. Both must fit": what two
-- calls that give a list hand back, number and order of the rows, connections, kinds, components, paths and names
abbrev pub TwoLimitsHandedBack : Type 0
TwoLimitsHandedBack = (m : Tables) (a b : ℕ) (r s : List Row) → HandedBack a m r → HandedBack b m s → (r ≡ s) ↔ OneReach same_bytes a b m
