-- `tables::keys::is_taken` meets its contract: one row more. Assumes nothing.
use Rattle.std.proofs.Common.{arith, sym, ◌∙◌}
use Rattle.tables.proofs.Scans.{any-hit, any-miss}
use Rattle.tables.proofs.keys.is_taken.Goals as goal

pub returns-then-same : goal.returns-then-same
returns-then-same g c = λ test h. sym (any-hit test _ _ (omega arith) (sym (h.tests _ _ c.same.ensures) ∙ c.if-same.true)) ∙ c.loop-j.invariant test h

pub loop-j-preserved : goal.loop-j-preserved
loop-j-preserved g c = λ test h. sym (any-miss test _ _ (omega arith) (sym (h.tests _ _ c.same.ensures) ∙ c.if-same.false)) ∙ c.loop-j.invariant test h
