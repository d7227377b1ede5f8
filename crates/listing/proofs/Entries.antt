-- 02 (vi): both entries hand back one list where all names that differ also differ folded. Assumes nothing.
use mathlib.Core.Path.{◌≡◌, sym, ap, ◌∙◌}
use Prim.Native.Nat.{ℕ}
use lib.ListN.{length}
use Rattle.as5506.specs.Lists.{same_bytes}
use Rattle.as5506.specs.Tables.{Tables}
use Rattle.as5506.specs.Names.{same_folded}
use Rattle.as5506.specs.Answers.{Answer, handed}
use Rattle.as5506.specs.Listing.{BothLists, both_answer}
use Rattle.as5506.specs.Layout.{room_in, links_in, links_of, traced_row_numbers, traced_diag_numbers, group_row_numbers, group_diag_numbers, composed_names, of_traced, of_group, output}
use Rattle.as5506.specs.Entries.{NamesApart}
use Rattle.as5506.proofs.Entries.{one_list}
use Rattle.listing.specs.Answer.{Outputs, outputs, listed, answer_for}
use Rattle.listing.specs.Entries.{SameLengths, OneListHandedBack}

one-answer : (m : Tables) → NamesApart m → (k : ℕ) (o o' : Outputs) → SameLengths o o' → answer_for same_bytes k m o ≡ answer_for same_folded k m o'
one-answer m h k o o' s =
    sym (one_list m h k (links_in (length o.links)) (length o.names) (room_in (length o.rows) (length o.diags)) (room_in (length o.group-rows) (length o.group-diags)))
    ∙ (λ i. both_answer same_folded k (links_in (s.links i)) (room_in (s.rows i) (s.diags i)) (room_in (s.group-rows i) (s.group-diags i)) (s.names i) m)

pub handed_back : OneListHandedBack
handed_back m h k o o' s z z' p p' w w' =
    let a : answer_for same_bytes k m o ≡ answer_for same_folded k m o' = one-answer m h k o o' s in
    let links = w.written-links ∙ (λ i. output (s.links i) (links_of m) (a i)) ∙ sym w'.written-links in
    let rows = w.written-rows ∙ (λ i. output (s.rows i) (of_traced (traced_row_numbers m)) (a i)) ∙ sym w'.written-rows in
    let diags = w.written-diagnostics ∙ (λ i. output (s.diags i) (of_traced traced_diag_numbers) (a i)) ∙ sym w'.written-diagnostics in
    let grows = w.written-group-rows ∙ (λ i. output (s.group-rows i) (of_group group_row_numbers) (a i)) ∙ sym w'.written-group-rows in
    let names = w.written-names ∙ (λ i. output (s.names i) (of_group composed_names) (a i)) ∙ sym w'.written-names in
    let gdiags = w.written-group-diagnostics ∙ (λ i. output (s.group-diags i) (of_group group_diag_numbers) (a i)) ∙ sym w'.written-group-diagnostics in
    (w.answer ∙ ap (handed listed) a ∙ sym w'.answer, (λ i. outputs (links i) (rows i) (diags i) (grows i) (names i) (gdiags i)))
