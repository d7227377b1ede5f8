-- `modes_text::count_tables` meets its contract: the number that is counted is printed as the definition's line. Assumes nothing.
use Rattle.std.proofs.Common.{rules}
use mathlib.Core.Path.{ap}
use mathlib.Core.Bool.{cond}
use mathlib.Core.List.{[], ◌∷◌}
use Rattle.as5506.specs.Lists.{bytes_of}
use Rattle.as5506.specs.Text.{number_line, modes_line}
use Rattle.as5506.specs.Modes.{modes_answer}
use Rattle.as5506.specs.Program.{modes_text}
use Rattle.lent.specs.Model.{model}
use Rattle.operation_modes.specs.Answer.{modes_told}
use Rattle.operation_modes.specs.declared.Modes.{Modes}
use Rattle.shown.proofs.Fits.{text-shown}
use Rattle.modes_text.proofs.count_tables.Goals as goal

pub returns-in-Ok : goal.returns-in-Ok
unfolding modes_text modes_line
returns-in-Ok c =
    text-shown modes_told modes_line (modes_answer (model c.args.m.now)) _ c.count_selections.ensures _ c.in-Ok.is _
    (λ x g e. ap (λ (s : Modes). number_line (bytes_of "Z") (s.number ∷ cond s.cut 1 0 ∷ [])) e)
    (c.print.ensures _ (λ out left z p. search rules))
