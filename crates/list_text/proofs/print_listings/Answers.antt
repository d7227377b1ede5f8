-- `list_text::print_listings` meets its contract: what is printed into zeros is ended. Assumes nothing.
use mathlib.Core.Path.{sym, ap, ◌∙◌}
use Prim.Native.Nat.{ℕ}
use Rattle.as5506.specs.Lists.{zeros}
use Rattle.as5506.specs.Text.{text_within}
use Rattle.as5506.specs.Program.{text_or_refusal}
use Rattle.lent.specs.Model.{model}
use Rattle.text.specs.Listed.{listings_text}
use Rattle.shown.proofs.Fits.{shown_at}
use Rattle.list_text.proofs.print_listings.Goals as goal

pub returns : goal.returns
returns c =
    let t = listings_text (model c.args.m.now) c.args.list.now in
    let k = c.print_list-used.auto.text ∙ c.fill.auto.self in
    shown_at (λ (n : ℕ). text_or_refusal (text_within n t)) k (c.finish.ensures t _ (c.fill.ensures.after (λ y e. e) ∙ ap zeros (sym k)) c.print_list-used.ensures)
