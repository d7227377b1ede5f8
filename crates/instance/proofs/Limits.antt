-- 02 (ix): what two calls hand back is equal exactly where one limit reaches no further than the other. Assumes nothing.
use mathlib.Core.Logic.{◌↔◌}
use mathlib.Core.Path.{◌≡◌, sym, ap, ◌∙◌}
use mathlib.Core.List.{List}
use Prim.Native.Nat.{ℕ}
use lib.ListN.{length}
use Rattle.as5506.specs.Lists.{same_bytes}
use Rattle.as5506.specs.Tables.{Tables}
use Rattle.as5506.specs.Answers.{given}
use Rattle.as5506.specs.Rows.{Row}
use Rattle.as5506.specs.Listing.{TracedList, traced_answer}
use Rattle.as5506.specs.Layout.{traced_row_numbers, output, rows_back}
use Rattle.as5506.proofs.Answers.{handed-ok}
use Rattle.as5506.proofs.Output.{rows-of_two}
use Rattle.instance.specs.Answer.{listed}
use Rattle.instance.specs.Limits.{HandedBack, TwoLimitsHandedBack}

-- the list that a call gave, and its rows as they lie in the output
module _ {k : ℕ} {m : Tables} {r : List Row} (h : HandedBack k m r) where
  gave : (l : TracedList) × (traced_answer same_bytes k h.links-room h.room m ≡ given l) × (h.counted ≡ listed l)
  gave = handed-ok listed h.answer (traced_answer same_bytes k h.links-room h.room m) h.call.answer h.counted h.gives

  laid : r ≡ rows_back m (length gave.0.rows) (output (length h.rows) (traced_row_numbers m) (given gave.0))
  laid = h.are ∙ (λ i. rows_back m (gave.2 i).rows ((h.call.written-rows ∙ ap (output (length h.rows) (traced_row_numbers m)) gave.1) i))

pub two_limits : TwoLimitsHandedBack
two_limits m a b r s h g =
    let d = rows-of_two same_bytes m a b _ _ _ _ _ _ (gave h).1 (gave g).1 (length h.rows) (length g.rows) in
    ((λ e. d.0 (sym (laid h) ∙ e ∙ laid g)), (λ e. laid h ∙ d.1 e ∙ sym (laid g)))
