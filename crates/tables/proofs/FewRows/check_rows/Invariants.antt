-- `tables::FewRows::check_rows`: the bad rows from row i on are all bad rows. Assumes nothing.
use Rattle.std.proofs.Common.{◌≡◌, ◌-◌, ℕ, Bool}
use Rattle.lent.specs.Model.{model}
use Rattle.as5506.specs.Lists.{keep, span}
use Rattle.as5506.specs.Tables.{count, rows_of}
use Rattle.tables.specs.Letter.{letter_of}
use Rattle.tables.specs.Rows.{Tests}
use Rattle.tables.proofs.FewRows.check_rows.Given as goal

abbrev pub invariant-loop-i : goal.invariant-loop-i
invariant-loop-i g l = (bad : ℕ → Bool) → Tests (goal.F-post g l.is_bad) bad → keep bad (span l.i (count (model l.self.m.now) (letter_of l.letter) - l.i)) ≡ keep bad (rows_of (model l.self.m.now) (letter_of l.letter))
