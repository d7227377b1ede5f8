-- `shown::print` meets its contract: what is printed into zeros is ended. Assumes nothing.
use mathlib.Core.Path.{sym, ap, ◌∙◌}
use Prim.Native.Nat.{ℕ}
use Rattle.as5506.specs.Lists.{zeros}
use Rattle.as5506.specs.Text.{text_within}
use Rattle.as5506.specs.Program.{text_or_refusal}
use Rattle.shown.proofs.Fits.{shown_at}
use Rattle.shown.proofs.print.Goals as goal

pub returns : goal.returns
returns g c = λ t says.
    let k = c.printer-used.auto.arg2 ∙ c.clear.auto.text in
    shown_at (λ (n : ℕ). text_or_refusal (text_within n t)) k
    (c.finish.ensures t _ (c.clear.ensures ∙ ap zeros (sym k)) (says _ _ _ c.printer-used.ensures))
