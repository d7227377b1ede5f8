-- `child_links::fill::link_row` meets its contract. Assumes nothing.
use mathlib.Core.Path.{sym, ◌∙◌}
use native.Mathlib.Omega.{arith}
use Rattle.as5506.proofs.Accepted.{sound, few-rows}
use Rattle.lent.specs.Model.{model}
use Rattle.child_links.proofs.Filling.{spells_root, owner-row, spells_put}
use Rattle.child_links.proofs.fill.link_row.Goals as goal

pub returns-then-owner : goal.returns-then-owner
returns-then-owner c = spells_root _ _ _ c.requires.1 (sound _ c.requires.0) (sym c.parent_of-owner.ensures ∙ c.if-owner.true)

pub slot_for-slot-requires : goal.slot_for-slot-requires
slot_for-slot-requires c = (c.requires.0, c.requires.1, owner-row _ _ _ c.requires.1 (sound _ c.requires.0) c.parent_of-owner.ensures c.if-owner.false)

pub overflow_cast-i : goal.overflow_cast-i
overflow_cast-i c = omega (arith, c.requires.1.within, few-rows (model c.args.m.now) c.requires.0)

pub returns : goal.returns
returns c =
    spells_put _ _ _ c.requires.1 (sound _ c.requires.0) c.parent_of-owner.ensures c.if-owner.false c.slot_for-slot.ensures c.get_or-next.ensures c.put.ensures c.put-2.ensures
