-- That tables are not too long. Assumes nothing.
use Rattle.std.specs.Prelude.{◌≤◌}
use Rattle.as5506.specs.Tables.{Tables, Letter, count}

-- no table has more than 4,096 rows
pub record Few (m : Tables) : Type 0 where
  pub few : (l : Letter) → count m l ≤ 4096
