-- 02 (ix): what two calls for both listings hand back is equal exactly where one limit reaches no further than the other. Assumes nothing.
use mathlib.Core.Logic.{◌↔◌}
use mathlib.Core.Path.{◌≡◌, sym, ap, ◌∙◌}
use mathlib.Core.List.{List}
use Prim.Native.Nat.{ℕ}
use lib.ListN.{length}
use Rattle.as5506.specs.Tables.{Tables}
use Rattle.as5506.specs.Names.{Comparison}
use Rattle.as5506.specs.Answers.{given}
use Rattle.as5506.specs.Rows.{Row}
use Rattle.as5506.specs.Listing.{TracedList, BothLists, traced_answer, both_answer}
use Rattle.as5506.specs.Layout.{traced_row_numbers, of_traced, output, rows_back}
use Rattle.as5506.proofs.Answers.{handed-ok}
use Rattle.as5506.proofs.Output.{rows-of_two}
use Rattle.listing.specs.Answer.{listed}
use Rattle.listing.specs.Limits.{HandedBack, TwoLimitsHandedBack}
use Rattle.listing.proofs.Answers.{traced-in}

-- the lists that a call gave, and the traced rows as they lie in their output
module _ {same : Comparison} {k : ℕ} {m : Tables} {r : List Row} (h : HandedBack same k m r) where
  gave : (b : BothLists) × (both_answer same k h.links-room h.room h.group-room h.names-room m ≡ given b) × (h.counted ≡ listed b)
  gave = handed-ok listed h.answer (both_answer same k h.links-room h.room h.group-room h.names-room m) h.call.answer h.counted h.gives

  gave-traced : traced_answer same k h.links-room h.room m ≡ given gave.0.traced
  gave-traced = traced-in same k h.links-room h.room h.group-room h.names-room m gave.0 gave.1

  laid : r ≡ rows_back m (length gave.0.traced.rows) (output (length h.before.rows) (traced_row_numbers m) (given gave.0.traced))
  laid = h.are ∙ (λ i. rows_back m (gave.2 i).traced.rows ((h.call.written-rows ∙ ap (output (length h.before.rows) (of_traced (traced_row_numbers m))) gave.1) i))

pub two_limits : TwoLimitsHandedBack
two_limits same m a b r s h g =
    let d = rows-of_two same m a b _ _ _ _ _ _ (gave-traced h) (gave-traced g) (length h.before.rows) (length g.before.rows) in
    ((λ e. d.0 (sym (laid h) ∙ e ∙ laid g)), (λ e. laid h ∙ d.1 e ∙ sym (laid g)))
