-- `tables::keys::is_taken`: the rows from row j on have one with the key exactly if any has. Assumes nothing.
use Rattle.std.proofs.Common.{◌≡◌, ◌-◌, ℕ, Bool}
use Rattle.as5506.specs.Lists.{any_of, span, up_to}
use Rattle.tables.specs.Rows.{Tests}
use Rattle.tables.proofs.keys.is_taken.Given as goal

abbrev pub invariant-loop-j : goal.invariant-loop-j
invariant-loop-j g l = (test : ℕ → Bool) → Tests (goal.F-post g l.same l.row) test → any_of test (span l.j (l.row.i - l.j)) ≡ any_of test (up_to l.row.i)
