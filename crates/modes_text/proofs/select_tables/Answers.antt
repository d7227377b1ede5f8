-- `modes_text::select_tables` meets its contract: what the call leaves in its outputs is printed as the definition's lines. Assumes nothing.
use Rattle.std.proofs.Common.{rules}
use Rattle.as5506.specs.Text.{selection_lines}
use Rattle.as5506.specs.Program.{mode_text}
use Rattle.lent.specs.Model.{model}
use Rattle.operation_modes.specs.Answer.{selected}
use Rattle.shown.proofs.Fits.{text-shown}
use Rattle.modes_text.proofs.Selected.{answer, answered, selection_same}
use Rattle.modes_text.proofs.select_tables.Goals as goal

pub returns-in-Ok : goal.returns-in-Ok
unfolding mode_text
returns-in-Ok c =
    let s = c.select_modes.ensures in
    text-shown selected selection_lines (answer (model c.args.m.now) c.args.number) _ (answered _ _ _ s.answer) _ c.in-Ok.is _
    (λ x g e. selection_same _ _ _ s.answer _ c.in-Ok.is _ _ s.written-rows s.written-name x g e) (c.print.ensures _ (λ out left z p. search rules))
