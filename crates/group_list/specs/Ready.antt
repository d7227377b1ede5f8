-- What matching asks for: of the tables, and of the room that is lent to it. Assumes nothing.
use Rattle.std.specs.Prelude.{◌≡◌, ℕ, suc, ◌*◌, ◌≤◌}
use Rattle.as5506.specs.Tables.{Tables, letter_n, letter_u, letter_e, count}
use Rattle.as5506.specs.Groups.{depth_limit}
use Rattle.as5506.specs.Layout.{feature_numbers}

-- `places` for the names of tables m, `links` for their rows of E and of U, features of so many names in `kept`, and in `calm` a number for each link
-- and level
pub record MatchRoom (m : Tables) (places links kept calm : ℕ) : Type 0 where
  pub names : count m letter_n ≤ places
  pub declared : count m letter_e ≤ links
  pub types : count m letter_u ≤ links
  pub few-places : places ≤ 4096
  pub few-links : links ≤ 4096
  pub features : kept ≡ places * feature_numbers
  pub levels : calm ≡ links * suc depth_limit
