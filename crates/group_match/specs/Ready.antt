-- What matching asks for: of the tables and their links, and of the slices that it works with. Assumes nothing.
use Rattle.std.specs.Prelude.{List, ℕ, ◌*◌, ◌≤◌, ◌<◌, length}
use Rattle.as5506.specs.Tables.{Tables, letter_n, letter_e, count, e_name}
use Rattle.as5506.specs.Layout.{feature_numbers}
use Rattle.links.specs.declared.Links.{Links}
use Rattle.links.specs.Links.{LinkedBy}

-- the slices that matching works with: a number for each name, and room for a feature of each name
pub record RoomReady (m : Tables) (memo kept : List ℕ) : Type 0 where
  pub names : (i : ℕ) → i < count m letter_e → e_name m i < length memo
  pub few : length memo ≤ 4096
  pub room : length memo * feature_numbers ≤ length kept

-- all connections: names have a number each, and room for a feature each
pub record MatchReady (m : Tables) (links : Links) (memo kept : List ℕ) : Type 0 where
  pub linked : LinkedBy m links
  pub names : count m letter_n ≤ length memo
  pub few : length memo ≤ 4096
  pub room : length memo * feature_numbers ≤ length kept
