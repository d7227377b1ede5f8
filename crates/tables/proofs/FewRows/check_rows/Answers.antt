-- `tables::FewRows::check_rows` meets its contract: one row more. Assumes nothing.
use Rattle.std.proofs.Common.{arith, sym, ◌∙◌}
use Rattle.as5506.proofs.Scans.{keep-miss}
use Rattle.tables.specs.Rule.{number_of}
use Rattle.tables.specs.Letter.{letter_of}
use Rattle.tables.proofs.Scans.{refused-row}
use Rattle.tables.proofs.FewRows.check_rows.Goals as goal

pub returns-then-is_bad : goal.returns-then-is_bad
returns-then-is_bad g c =
    λ bad h.
    refused-row (number_of c.args.rule) (letter_of c.args.letter) bad c.loop-i.i _ c.refused_at.result (omega (arith, c.count_of-i-end.ensures.value))
    (sym (h.tests _ _ c.is_bad.ensures) ∙ c.if-is_bad.true) c.refused_at.ensures (c.loop-i.invariant bad h)

pub loop-i-preserved : goal.loop-i-preserved
loop-i-preserved g c =
    λ bad h.
    sym (keep-miss bad _ _ (omega (arith, c.count_of-i-end.ensures.value)) (sym (h.tests _ _ c.is_bad.ensures) ∙ c.if-is_bad.false)) ∙ c.loop-i.invariant bad h
