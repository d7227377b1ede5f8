-- `operation_modes::Accepted::select` meets its contract. Each way out is a law of proofs/Answers.antt. Assumes nothing.
use native.Mathlib.Omega.{arith}
use Rattle.operation_modes.proofs.Answers.{selects-20, selects-11, selects-14, selects-all}
use Rattle.operation_modes.proofs.Accepted.select.Goals as goal

pub returns-then-number-k : goal.returns-then-number-k
returns-then-number-k c =
    selects-20 c.args.self.now.few_components c.link.ensures c.of-combined.ensures c.args.k _ _ c.number.ensures (omega (arith, c.if-number-k.true)) c.from.ensures

pub returns-then-rows-chosen : goal.returns-then-rows-chosen
returns-then-rows-chosen c =
    selects-11 c.args.self.now.few_components c.link.ensures c.of-combined.ensures c.args.k _ _ c.number.ensures c.if-number-k.false c.if-rows-chosen.true c.from-then-rows-chosen.ensures

pub returns-in_err-bytes : goal.returns-in_err-bytes
returns-in_err-bytes c =
    selects-14 c.args.self.now.few_components c.link.ensures c.of-combined.ensures c.args.k _ _ c.number.ensures c.if-number-k.false c.if-rows-chosen.false c.choose_modes.ensures c.join_names.ensures
    c.from-2.ensures c.ok_or.ensures.value c.in_err-bytes.was (grind arith)

pub returns : goal.returns
returns c =
    selects-all c.args.self.now.few_components c.link.ensures c.of-combined.ensures c.args.k _ _ c.number.ensures c.if-number-k.false c.if-rows-chosen.false c.choose_modes.ensures c.join_names.ensures
    c.from-2.ensures c.ok_or.ensures.value c.in_ok-bytes.was
