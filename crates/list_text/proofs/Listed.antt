-- What both listings leave in the outputs that are lent here, and the text that is printed from blocks of it. Assumes nothing.
use mathlib.Core.Bool.{false}
use mathlib.Core.Path.{◌≡◌, sym, ap, ◌∙◌, subst}
use mathlib.Core.List.{List, map}
use Prim.Native.Nat.{ℕ, ◌/◌, ◌≤◌}
use native.Mathlib.Omega.{arith}
use lib.ListN.{length, take}
use lib.Seq.{length-take-le}
use Rattle.std.specs.Prelude.{Result, Ok}
use Rattle.std.specs.Simd.{first_chunks}
use Rattle.as5506.specs.Tables.{Tables}
use Rattle.as5506.specs.Names.{Comparison}
use Rattle.as5506.specs.Answers.{Answer, given, handed}
use Rattle.as5506.specs.Tracing.{shown}
use Rattle.as5506.specs.Listing.{BothLists, both_answer}
use Rattle.as5506.specs.Layout.{row_numbers, diag_numbers, traced_row_numbers, traced_diag_numbers, group_row_numbers, group_diag_numbers, composed_names, of_traced, of_group, output, row_back, rows_back, group_rows_back, diag_back, diags_back}
use Rattle.as5506.specs.Text.{list_text, text_within}
use Rattle.as5506.specs.Program.{rows_lent, room, names_lent, printed_or_refusal, text_or_refusal}
use Rattle.as5506.specs.declared.Refusal.{Refusal as Told}
use Rattle.as5506.proofs.Back.{traced-back, group-back, traced-diags-back, group-diags-back}
use Rattle.as5506.proofs.Answers.{handed-ok}
use Rattle.shown.proofs.Fits.{refusal_shown}
use Rattle.listing.specs.declared.Both.{Both}
use Rattle.listing.specs.Answer.{listed, answer_for}
use Rattle.listing.proofs.Given.{BothFit, holds, traced_room, group_room, fit, no_outputs, answer-lent}
use Rattle.text.specs.Printing.{group_rows, list_of}
use Rattle.text.proofs.Printed.{list-printed, rows-blocks, group-blocks, diags-blocks, first-of}

-- ---- the first k blocks of w numbers of an output

module _ (w k : ℕ) (out : List ℕ) (blocks : List (List ℕ)) (h : k ≤ length out / w) where
  -- there are as many
  blocks-within : length blocks ≡ length out / w → k ≡ length (take k blocks)
  blocks-within e = sym (length-take-le k blocks (omega (arith, e, h)))

  blocks-are : blocks ≡ first_chunks w (length out / w) out → take k blocks ≡ first_chunks w k out
  blocks-are f = ap (take k) f ∙ first-of w k (length out / w) out h

-- ---- the call

abbrev pub answer : Comparison → ℕ → Tables → Answer BothLists
answer same k m = both_answer same k (rows_lent false) room room names_lent m

module _ (same : Comparison) (k : ℕ) (m : Tables) (z : Result Both Told) (e : z ≡ handed listed (answer_for same k m no_outputs)) where
  pub answered : z ≡ handed listed (answer same k m)
  answered = e ∙ ap (handed listed) (answer-lent same k m)

  -- no more is counted than there is room for
  module _ (b : Both) (given_so : z ≡ Ok b) where
    the-lists : (x : BothLists) × (answer_for same k m no_outputs ≡ given x) × (b ≡ listed x)
    the-lists = handed-ok listed z (answer_for same k m no_outputs) e b given_so

    fits : BothFit (traced_room no_outputs) (group_room no_outputs) the-lists.0
    fits = holds (BothFit (traced_room no_outputs) (group_room no_outputs)) (answer_for same k m no_outputs) (fit same k m no_outputs) the-lists.0 the-lists.1

    module _ (out : List ℕ) where
      traced-room : length out ≡ length no_outputs.rows → b.traced.rows ≤ length out / row_numbers
      traced-room l = rw l (subst (λ (c : Both). c.traced.rows ≤ length no_outputs.rows / row_numbers) (sym the-lists.2) fits.traced.rows)

      group-room : length out ≡ length no_outputs.group-rows → b.group.rows ≤ length out / row_numbers
      group-room l = rw l (subst (λ (c : Both). c.group.rows ≤ length no_outputs.group-rows / row_numbers) (sym the-lists.2) fits.group.rows)

      diags-room : length out ≡ length no_outputs.diags → b.traced.diagnostics ≤ length out / diag_numbers
      diags-room l = rw l (subst (λ (c : Both). c.traced.diagnostics ≤ length no_outputs.diags / diag_numbers) (sym the-lists.2) fits.traced.diags)

      group-diags-room : length out ≡ length no_outputs.group-diags → b.group.diagnostics ≤ length out / diag_numbers
      group-diags-room l = rw l (subst (λ (c : Both). c.group.diagnostics ≤ length no_outputs.group-diags / diag_numbers) (sym the-lists.2) fits.group.diags)

      module _ (blocks : List (List ℕ)) where
        pub traced_within : length out ≡ length no_outputs.rows → length blocks ≡ length out / row_numbers → b.traced.rows ≡ length (take b.traced.rows blocks)
        traced_within l h = blocks-within row_numbers _ out blocks (traced-room l) h

        pub group_within : length out ≡ length no_outputs.group-rows → length blocks ≡ length out / row_numbers → b.group.rows ≡ length (take b.group.rows blocks)
        group_within l h = blocks-within row_numbers _ out blocks (group-room l) h

        pub diags_within : length out ≡ length no_outputs.diags → length blocks ≡ length out / diag_numbers → b.traced.diagnostics ≡ length (take b.traced.diagnostics blocks)
        diags_within l h = blocks-within diag_numbers _ out blocks (diags-room l) h

        pub group_diags_within : length out ≡ length no_outputs.group-diags → length blocks ≡ length out / diag_numbers → b.group.diagnostics ≡ length (take b.group.diagnostics blocks)
        group_diags_within l h = blocks-within diag_numbers _ out blocks (group-diags-room l) h

    -- what the outputs hold
    module _ (rows ds group-rows names gs : List ℕ) (r : rows ≡ output (length no_outputs.rows) (of_traced (traced_row_numbers m)) (answer_for same k m no_outputs))
        (d : ds ≡ output (length no_outputs.diags) (of_traced traced_diag_numbers) (answer_for same k m no_outputs))
        (gr : group-rows ≡ output (length no_outputs.group-rows) (of_group group_row_numbers) (answer_for same k m no_outputs))
        (ns : names ≡ output (length no_outputs.names) (of_group composed_names) (answer_for same k m no_outputs))
        (gd : gs ≡ output (length no_outputs.group-diags) (of_group group_diag_numbers) (answer_for same k m no_outputs)) where
      given-is : (n : ℕ) (f : BothLists → List ℕ) (out : List ℕ) → out ≡ output n f (answer_for same k m no_outputs) → out ≡ output n f (given the-lists.0)
      given-is n f out q = q ∙ ap (output n f) the-lists.1

      traced-is : rows_back m b.traced.rows rows ≡ map (shown m) the-lists.0.traced.rows
      traced-is =
          (λ i. rows_back m (the-lists.2 i).traced.rows (given-is _ (of_traced (traced_row_numbers m)) rows r i))
          ∙ traced-back m _ the-lists.0.traced fits.traced.short

      group-is : group_rows_back b.group.rows group-rows names ≡ the-lists.0.group.rows
      group-is =
          (λ i. group_rows_back (the-lists.2 i).group.rows (given-is _ (of_group group_row_numbers) group-rows gr i) (given-is _ (of_group composed_names) names ns i))
          ∙ group-back _ _ the-lists.0.group fits.group.short

      diags-are : diags_back b.traced.diagnostics ds ≡ the-lists.0.traced.diags
      diags-are = (λ i. diags_back (the-lists.2 i).traced.diagnostics (given-is _ (of_traced traced_diag_numbers) ds d i)) ∙ traced-diags-back _ the-lists.0.traced

      group-diags-are : diags_back b.group.diagnostics gs ≡ the-lists.0.group.diags
      group-diags-are =
          (λ i. diags_back (the-lists.2 i).group.diagnostics (given-is _ (of_group group_diag_numbers) gs gd i)) ∙ group-diags-back _ the-lists.0.group

      list-same : (traced group diags group-diags : List (List ℕ)) → traced ≡ first_chunks row_numbers b.traced.rows rows → group ≡ first_chunks row_numbers b.group.rows group-rows
          → diags ≡ first_chunks diag_numbers b.traced.diagnostics ds → group-diags ≡ first_chunks diag_numbers b.group.diagnostics gs
          → list_of m (map (row_back m) traced) (group_rows group names) (map diag_back diags) (map diag_back group-diags) ≡ list_text m the-lists.0
      list-same traced group diags group-diags t u v w =
          let traced-rows = ap (map (row_back m)) t ∙ sym (rows-blocks m b.traced.rows rows) ∙ traced-is in
          let rows = ap (λ (l : List (List ℕ)). group_rows l names) u ∙ sym (group-blocks b.group.rows group-rows names) ∙ group-is in
          let ds = ap (map diag_back) v ∙ sym (diags-blocks b.traced.diagnostics ds) ∙ diags-are in
          let gs = ap (map diag_back) w ∙ sym (diags-blocks b.group.diagnostics gs) ∙ group-diags-are in
          (λ i. list_of m (traced-rows i) (rows i) (ds i) (gs i)) ∙ sym (list-printed m the-lists.0)

-- the list that is printed from the blocks that are counted is what is shown
pub list_shown : (same : Comparison) (k n : ℕ) (m : Tables) (b : Both) (traced group diags group-diags : List (List ℕ)) (names : List ℕ) (z : Result Both Told) (rows ds group-rows gs : List ℕ)
    → z ≡ handed listed (answer_for same k m no_outputs) → z ≡ Ok b
    → rows ≡ output (length no_outputs.rows) (of_traced (traced_row_numbers m)) (answer_for same k m no_outputs)
    → ds ≡ output (length no_outputs.diags) (of_traced traced_diag_numbers) (answer_for same k m no_outputs)
    → group-rows ≡ output (length no_outputs.group-rows) (of_group group_row_numbers) (answer_for same k m no_outputs)
    → names ≡ output (length no_outputs.names) (of_group composed_names) (answer_for same k m no_outputs)
    → gs ≡ output (length no_outputs.group-diags) (of_group group_diag_numbers) (answer_for same k m no_outputs)
    → length rows ≡ length no_outputs.rows → length ds ≡ length no_outputs.diags → length group-rows ≡ length no_outputs.group-rows → length gs ≡ length no_outputs.group-diags
    → traced ≡ first_chunks row_numbers (length rows / row_numbers) rows → group ≡ first_chunks row_numbers (length group-rows / row_numbers) group-rows
    → diags ≡ first_chunks diag_numbers (length ds / diag_numbers) ds → group-diags ≡ first_chunks diag_numbers (length gs / diag_numbers) gs
    → printed_or_refusal n (list_text m) (answer same k m)
    ≡ text_or_refusal (text_within n (list_of m (map (row_back m) (take b.traced.rows traced)) (group_rows (take b.group.rows group) names) (map diag_back (take b.traced.diagnostics diags)) (map diag_back (take b.group.diagnostics group-diags))))
unfolding printed_or_refusal
list_shown same k n m b traced group diags group-diags names z rows ds group-rows gs e i r d gr ns gd rl dl grl gdl t g dc gdc =
    ap (printed_or_refusal n (list_text m)) (sym (answer-lent same k m) ∙ (the-lists same k m z e b i).1)
    ∙ ap (λ (t : List ℕ). text_or_refusal (text_within n t))
    (sym (list-same same k m z e b i rows ds group-rows names gs r d gr ns gd _ _ _ _ (blocks-are row_numbers _ rows traced (traced-room same k m z e b i rows rl) t)
    (blocks-are row_numbers _ group-rows group (group-room same k m z e b i group-rows grl) g) (blocks-are diag_numbers _ ds diags (diags-room same k m z e b i ds dl) dc)
    (blocks-are diag_numbers _ gs group-diags (group-diags-room same k m z e b i gs gdl) gdc)))

-- what the call for the list goes by
pub ruleset listing = (traced_within, group_within, diags_within, group_diags_within, answered, refusal_shown, list_shown)
