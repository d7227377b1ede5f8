-- Matches and their rows. Assumes nothing.
use Rattle.std.specs.Prelude.{List, ℕ, ◌≤◌, length, Some, None}
use Rattle.as5506.specs.Lists.{each}
use Rattle.as5506.specs.Tables.{Tables, name_of}
use Rattle.as5506.specs.Groups.{Feature}
use Rattle.as5506.specs.Rows.{Row}
use Rattle.as5506.specs.GroupList.{match_row}

-- a match: a connection, its two components, a source feature and its partner
pub record Pair : Type 0 where
  pub conn : ℕ
  pub src : ℕ
  pub dst : ℕ
  pub feature : Feature
  pub partner : Feature

-- its row; the ends' expansions are no part of it
unfoldable pub pair_rows : Tables → Pair → List Row
pair_rows m p = match_row m (record { conn = p.conn; src = p.src; dst = p.dst; src_group = None; dst_group = None }) p.feature (Some p.partner)

unfoldable pub rows_of_pairs : Tables → List Pair → List Row
rows_of_pairs m ps = each (pair_rows m) ps

-- no name is longer than 63 bytes
abbrev pub ShortNames : Tables → Type 0
ShortNames m = (k : ℕ) → length (name_of m k) ≤ 63
