-- 02 (ix), of what two calls for both listings hand back. Assumes nothing.
use Rattle.std.specs.Prelude.{◌↔◌, ◌≡◌, List, ℕ, Result, Ok}
use Rattle.as5506.specs.Tables.{Tables}
use Rattle.as5506.specs.Names.{Comparison}
use Rattle.as5506.specs.declared.Refusal.{Refusal as Told}
use Rattle.as5506.specs.Rows.{Row}
use Rattle.as5506.specs.Listing.{Room, both_answer}
use Rattle.as5506.specs.Limits.{OneReach}
use Rattle.as5506.specs.Layout.{rows_back}
use Rattle.listing.specs.declared.Both.{Both}
use Rattle.listing.specs.Answer.{Outputs, BothAs}

-- a call for both listings under the limit k, by a comparison of names and whatever the room, handed back the traced rows r: those that it counts, read from
-- their output with the bytes of their three names
pub record HandedBack (same : Comparison) (k : ℕ) (m : Tables) (r : List Row) : Type 0 where
  pub links-room : ℕ
  pub names-room : ℕ
  pub room : Room
  pub group-room : Room
  pub before : Outputs
  pub answer : Result Both Told
  pub after : Outputs
  pub call : BothAs same (both_answer same k links-room room group-room names-room m) k m before answer after
  pub counted : Both
  pub gives : answer ≡ Ok counted
  pub are : r ≡ rows_back m counted.traced.rows after.rows

-- "For two limits, the lists are equal exactly when they are the same number or no followed chain has a step beyond the smaller. Both must fit": what two
-- calls of one entry that give both lists hand back, number and order of the traced rows, connections, kinds, components, paths and names
abbrev pub TwoLimitsHandedBack : Type 0
TwoLimitsHandedBack = (same : Comparison) (m : Tables) (a b : ℕ) (r s : List Row) → HandedBack same a m r → HandedBack same b m s → (r ≡ s) ↔ OneReach same a b m
