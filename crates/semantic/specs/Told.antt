-- What is told of the rows of all X rows under a limit of k steps, and of their diagnostics. Assumes nothing.
use Rattle.std.specs.Prelude.{ℕ, ◌+◌, ◌/◌, ◌≤◌, ◌<◌, List, length, Option, Some, None}
use Rattle.as5506.specs.Lists.{each, up_to}
use Rattle.as5506.specs.Tables.{Tables, x_count}
use Rattle.as5506.specs.Names.{Comparison}
use Rattle.as5506.specs.Tracing.{rows_at, traced, diags_at, traced_diags}
use Rattle.as5506.specs.Layout.{traced_block, row_numbers, diag_block, diag_numbers}
use Rattle.output.specs.declared.blocks.Blocks.{Blocks}
use Rattle.output.specs.Blocks.{Written, Wrote}

-- X row x is the first whose rows find no room in out, behind the `count` blocks that stand there: the rows of the X rows before it all find room, and
-- with its own not all do.
pub record EndsRows (same : Comparison) (k : ℕ) (m : Tables) (out : List ℕ) (count : ℕ) (x : ℕ) : Type 0 where
  pub is_row : x < x_count m
  pub before : count + length (each (rows_at same m k) (up_to x)) ≤ length out / row_numbers
  pub over : length out / row_numbers < count + length (each (rows_at same m k) (up_to (x + 1)))

-- the diagnostics of the X rows before the one that ends the rows are written behind the blocks of their output, as many as find room; all else in it is
-- as it was
pub record WroteBefore (same : Comparison) (k : ℕ) (m : Tables) (rows : Blocks row_numbers) (diags diags' : Blocks diag_numbers) : Type 0 where
  pub row : ℕ
  pub ends : EndsRows same k m rows.numbers.now rows.count row
  pub told : Option (Unit {0})
  pub wrote : Wrote diag_block (each (diags_at same m) (up_to row)) diags told diags'

-- the same of the two outputs that are lent for them, from the first number of each on
pub record WrittenBefore (same : Comparison) (k : ℕ) (m : Tables) (rows out out' : List ℕ) : Type 0 where
  pub row : ℕ
  pub ends : EndsRows same k m rows 0 row
  pub told : Option ℕ
  pub written : Written diag_numbers diag_block (each (diags_at same m) (up_to row)) out 0 told out'

-- They are written behind the blocks of two outputs. None tells that the rows found no room, and then the diagnostics of the X rows before are written;
-- else it is told of the diagnostics, and all are written, or as many as find room.
abbrev pub ListedAll : Comparison → ℕ → Tables → Blocks row_numbers → Blocks diag_numbers → Option (Option (Unit {0})) → Blocks row_numbers → Blocks diag_numbers → Type 0
ListedAll same k m rows diags None rows' diags' = Wrote (traced_block m) (traced same k m) rows None rows' × WroteBefore same k m rows diags diags'
ListedAll same k m rows diags (Some q) rows' diags' = Wrote (traced_block m) (traced same k m) rows (Some tt) rows' × Wrote diag_block (traced_diags same m) diags q diags'
