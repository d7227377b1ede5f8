-- What the calls tell that fill the caller's records, and what their outputs hold. Assumes nothing.
use Rattle.std.specs.Prelude.{◌≡◌, List, ℕ, ◌/◌, min, length}
use Rattle.as5506.specs.Lists.{same_bytes}
use Rattle.as5506.specs.Tables.{Tables}
use Rattle.as5506.specs.Names.{Comparison}
use Rattle.as5506.specs.Answers.{Answer}
use Rattle.as5506.specs.Listing.{Room, TracedList, GroupList, BothLists, traced_answer, group_answer, both_answer}
use Rattle.as5506.specs.Layout.{links_in, row_numbers, diag_numbers}
use Rattle.listing.specs.Answer.{Outputs}
use Rattle.conlist_c.specs.Told.{TracedTold, GroupTold, BothTold}
use Rattle.conlist_c.specs.declared.diagnostic.Diagnostic.{Diagnostic}
use Rattle.conlist_c.specs.Records.{records}

-- 12: "more diagnostics than the output holds": there is room for as many as there are records, and for no more than a quarter of the numbers
abbrev pub room_with : ℕ → ℕ → ℕ → Room
room_with rows numbers count = record { rows = rows / row_numbers; diags = min count (numbers / diag_numbers) }

-- ---- the definition's answers for the limit k, the tables m, outputs of these lengths and so many records

abbrev pub traced_for : ℕ → Tables → List ℕ → List ℕ → List ℕ → ℕ → Answer TracedList
traced_for k m links rows numbers count = traced_answer same_bytes k (links_in (length links)) (room_with (length rows) (length numbers) count) m

abbrev pub group_for : Tables → List ℕ → List ℕ → List ℕ → List ℕ → ℕ → Answer GroupList
group_for m links rows names numbers count = group_answer same_bytes (links_in (length links)) (room_with (length rows) (length numbers) count) (length names) m

abbrev pub both_for : Comparison → ℕ → Tables → Outputs → ℕ → ℕ → Answer BothLists
both_for same k m o count group-count =
    both_answer same k (links_in (length o.links)) (room_with (length o.rows) (length o.diags) count) (room_with (length o.group-rows) (length o.group-diags) group-count) (length o.names) m

-- ---- THE CONTRACTS, with the caller's records `out`, which afterwards are out'

-- the traced listing
pub record TracedRecords (k : ℕ) (m : Tables) (links rows numbers : List ℕ) (out : List Diagnostic) (told' links' rows' numbers' : List ℕ) (out' : List Diagnostic) : Type 0 where
  pub as-numbers : TracedTold (traced_for k m links rows numbers (length out)) k m links rows numbers told' links' rows' numbers'
  pub as-records : out' ≡ records (length out) (λ (l : TracedList). l.diags) (traced_for k m links rows numbers (length out))

-- the group listing
pub record GroupRecords (m : Tables) (links rows names numbers : List ℕ) (out : List Diagnostic) (told' links' rows' names' numbers' : List ℕ) (out' : List Diagnostic) : Type 0 where
  pub as-numbers : GroupTold (group_for m links rows names numbers (length out)) m links rows names numbers told' links' rows' names' numbers'
  pub as-records : out' ≡ records (length out) (λ (g : GroupList). g.diags) (group_for m links rows names numbers (length out))

-- both listings, with records for the diagnostics of each
pub record BothRecords (same : Comparison) (k : ℕ) (m : Tables) (o : Outputs) (out group-out : List Diagnostic) (told' : List ℕ) (p : Outputs) (out' group-out' : List Diagnostic) : Type 0 where
  pub as-numbers : BothTold same (both_for same k m o (length out) (length group-out)) k m o told' p
  pub as-records : out' ≡ records (length out) (λ (b : BothLists). b.traced.diags) (both_for same k m o (length out) (length group-out))
  pub as-group-records : group-out' ≡ records (length group-out) (λ (b : BothLists). b.group.diags) (both_for same k m o (length out) (length group-out))
