-- `fields::put_fields`: a field that is not long holds 32 bits, and there is room for its numbers. Assumes nothing.
use Rattle.std.proofs.Common.{sym, subst, ◌∙◌, arith}
use Rattle.fields.proofs.Laws.{cells_next, field_short}
use Rattle.fields.specs.Fields.{Short}
use Rattle.fields.proofs.put_fields.Goals as goal

pub put-place-requires : goal.put-place-requires
put-place-requires c = (
  λ h. subst Short (sym c.field_of.ensures) (field_short _ _ (c.split_at.ensures.front_len ∙ c.columns.ensures) h),
  omega (arith, c.loop-mark.invariant.room, cells_next c.args.marks.now c.loop-mark.mark-index c.loop-mark-test.true),
)
