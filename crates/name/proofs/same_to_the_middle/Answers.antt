-- `name::same_to_the_middle` meets its contract. Assumes nothing.
use Rattle.std.proofs.Common.{rules, arith, ◌-◌, length}
use Rattle.name.proofs.Compare.{same_at, differ_at, met-turn, met-end}
use Rattle.name.proofs.same_to_the_middle.Goals as goal

pub returns-then-not-same_byte : goal.returns-then-not-same_byte
returns-then-not-same_byte c = differ_at _ _ (length c.args.s.now - 1 - c.loop-i.i) _ c.same_byte.ensures (search rules)

pub returns-then-not-same_byte-2 : goal.returns-then-not-same_byte-2
returns-then-not-same_byte-2 c = differ_at _ _ c.loop-i.i _ c.same_byte-in-loop-i.ensures (search rules)

pub loop-i-preserved : goal.loop-i-preserved
loop-i-preserved c =
    let s = c.args.s.now in
    let t = c.args.t.now in
    met-turn s t c.loop-i.i c.loop-i.invariant
    (same_at s t (length s - 1 - c.loop-i.i) _ c.same_byte.ensures (search rules))
    (same_at s t c.loop-i.i _ c.same_byte-in-loop-i.ensures (search rules))

pub returns : goal.returns
returns c = met-end _ _ c.loop-i.i (search rules) (omega arith) c.loop-i.invariant
