-- What an answer that gives both lists holds, for callers: no more than there is room for, and short paths; and the outputs that a program lends.
-- Assumes nothing.
use mathlib.Core.Bool.{Bool, false}
use mathlib.Core.Path.{◌≡◌, subst}
use mathlib.Core.List.{List, [], ◌∷◌, ◌++◌}
use Rattle.std.specs.Prelude.{Option, None, Some, Result, Ok}
use Prim.Native.Nat.{ℕ, ◌*◌, ◌/◌, ◌≤◌}
use native.Mathlib.Nat.{div-mul-le_self, mul-le-mul_right, le_trans}
use native.Mathlib.Omega.{arith}
use lib.Dec.{T, ltb, nltb→le}
use lib.ListN.{length, length-replicate}
use Rattle.as5506.specs.Lists.{is_nil, zeros}
use Rattle.as5506.specs.Tables.{Tables}
use Rattle.as5506.specs.Names.{Comparison}
use Rattle.as5506.specs.Answers.{Refusal, refusal, nowhere, Answer, given, refused, fault, unless_faults}
use Rattle.as5506.specs.declared.Refusal.{Refusal as Told}
use Rattle.as5506.specs.Groups.{Feature}
use Rattle.as5506.specs.GroupList.{GroupConnection, group_connections, overrun, Match, matches, match_row, rows_matched}
use Rattle.as5506.specs.Tracing.{largest_limit}
use Rattle.as5506.specs.Links.{link_numbers}
use Rattle.as5506.specs.Listing.{Room, limit_over, faults_linked, TracedList, GroupList, BothLists, rows_over, names_over, diags_over, traced_list, traced_within, traced_on, traced_answer, group_list_of, group_within, group_of, group_on, group_answer, with_group, after_traced, both_answer}
use Rattle.as5506.specs.Layout.{links_in, row_numbers, diag_numbers, room_in}
use Rattle.as5506.specs.Program.{rows_lent, names_lent, room as room_lent}
use Rattle.as5506.proofs.Laws.{All, all-each-of, nil-left, nil-right, nil-when}
use Rattle.as5506.proofs.Back.{ShortPath, ShortRow}
use Rattle.as5506.proofs.Answers.{handed-ok}
use Rattle.as5506.proofs.Allowed.{allowed}
use Rattle.as5506.proofs.Output.{list-short}
use Rattle.listing.specs.declared.Both.{Both}
use Rattle.listing.specs.Answer.{listed, Outputs, outputs, answer_for, BothInto}

-- ---- what holds of an answer that is given

module _ {A : Type 0} where
  abbrev pub Holds : (A → Type 0) → Answer A → Type 0
  Holds P (given a) = P a
  Holds P (refused r) = Unit {0}

  -- where it is given it holds of what is
  pub holds : (P : A → Type 0) (a : Answer A) → Holds P a → (x : A) → a ≡ given x → P x
  holds P a h x e = subst (Holds P) e h

  unless_holds : (P : A → Type 0) (rs : List Refusal) (a : A) → (T (is_nil rs) → P a) → Holds P (unless_faults rs a)
  unless_holds P [] a h = h tt
  unless_holds P (r ∷ rs) a h = tt

-- no fault: no more than the room
roomy : (number n k : ℕ) → T (is_nil (fault number (ltb n k))) → k ≤ n
roomy number n k t = nltb→le n k (nil-when (ltb n k) (refusal number nowhere) t)

pub record TracedFits (room : Room) (l : TracedList) : Type 0 where
  pub rows : length l.rows ≤ room.rows
  pub diags : length l.diags ≤ room.diags
  pub short : All ShortPath l.rows

pub record GroupFits (room : Room) (g : GroupList) : Type 0 where
  pub rows : length g.rows ≤ room.rows
  pub diags : length g.diags ≤ room.diags
  pub short : All ShortRow g.rows

pub record BothFit (traced_room group_room : Room) (b : BothLists) : Type 0 where
  pub traced : TracedFits traced_room b.traced
  pub group : GroupFits group_room b.group

-- ---- the traced listing

traced-fits : (same : Comparison) (k : ℕ) (room : Room) (m : Tables) (fs : List Refusal) → (T (is_nil fs) → k ≤ largest_limit) → Holds (TracedFits room) (traced_on same k room m fs)
unfolding traced_on traced_within
traced-fits same k room m [] few =
    let l = traced_list same k m in
    unless_holds (TracedFits room) (rows_over room l.rows ++ diags_over room l.diags) l
    (λ t. record {
      rows = roomy 11 room.rows (length l.rows) (nil-left (rows_over room l.rows) (diags_over room l.diags) t);
      diags = roomy 12 room.diags (length l.diags) (nil-right (rows_over room l.rows) (diags_over room l.diags) t);
      short = list-short same k m (few tt);
    })
traced-fits same k room m (r ∷ fs) few = tt

pub traced_fit : (same : Comparison) (k links : ℕ) (room : Room) (m : Tables) → Holds (TracedFits room) (traced_answer same k links room m)
unfolding traced_answer
traced_fit same k links room m = traced-fits same k room m (limit_over k ++ faults_linked links m) (λ t. allowed k (nil-left (limit_over k) (faults_linked links m) t))

-- ---- the group listing: a row's path is its connection

row-short : (m : Tables) (b : GroupConnection) (s : Feature) (d : Option Feature) → All ShortRow (match_row m b s d)
unfolding match_row
row-short m b s None = tt
row-short m b s (Some d) = (omega arith, tt)

rows_short : (m : Tables) (ms : List Match) → All ShortRow (group_list_of m ms).rows
unfolding group_list_of rows_matched
rows_short m ms =
    all-each-of ShortRow (λ (p : Match). match_row m p.connection p.feature p.partner) (λ p. row-short m p.connection p.feature p.partner) ms

within-fits : (room : Room) (names : ℕ) (over : Bool) (g : GroupList) → All ShortRow g.rows → Holds (GroupFits room) (group_within room names over g)
unfolding group_within
within-fits room names over g h =
    let first = fault 13 over in
    let rows = rows_over room g.rows in
    let bytes = names_over names g.rows in
    let diags = diags_over room g.diags in
    unless_holds (GroupFits room) (first ++ rows ++ bytes ++ diags) g
    (λ t. record {
      rows = roomy 11 room.rows (length g.rows) (nil-right first rows (nil-left (first ++ rows) bytes (nil-left (first ++ rows ++ bytes) diags t)));
      diags = roomy 12 room.diags (length g.diags) (nil-right (first ++ rows ++ bytes) diags t);
      short = h;
    })

group-fits : (room : Room) (names : ℕ) (m : Tables) (bs : List GroupConnection) → Holds (GroupFits room) (group_of room names m bs)
unfolding group_of
group-fits room names m bs = within-fits room names (overrun bs) (group_list_of m (matches m bs)) (rows_short m (matches m bs))

group-on-fits : (same : Comparison) (room : Room) (names : ℕ) (m : Tables) (fs : List Refusal) → Holds (GroupFits room) (group_on same room names m fs)
unfolding group_on
group-on-fits same room names m [] = group-fits room names m (group_connections same m)
group-on-fits same room names m (r ∷ fs) = tt

pub group-fit : (same : Comparison) (links : ℕ) (room : Room) (names : ℕ) (m : Tables) → Holds (GroupFits room) (group_answer same links room names m)
unfolding group_answer
group-fit same links room names m = group-on-fits same room names m (faults_linked links m)

-- ---- both

with-fits : (room room' : Room) (l : TracedList) (a : Answer GroupList) → TracedFits room l → Holds (GroupFits room') a → Holds (BothFit room room') (with_group l a)
unfolding with_group
with-fits room room' l (refused r) h k = tt
with-fits room room' l (given g) h k = record { traced = h; group = k }

after-fits : (same : Comparison) (room room' : Room) (names : ℕ) (m : Tables) (a : Answer TracedList) → Holds (TracedFits room) a → Holds (BothFit room room') (after_traced same room' names m a)
unfolding after_traced
after-fits same room room' names m (refused r) h = tt
after-fits same room room' names m (given l) h = with-fits room room' l (group_of room' names m (group_connections same m)) h (group-fits room' names m (group_connections same m))

pub both-fit : (same : Comparison) (k links : ℕ) (room room' : Room) (names : ℕ) (m : Tables) → Holds (BothFit room room') (both_answer same k links room room' names m)
unfolding both_answer
both-fit same k links room room' names m = after-fits same room room' names m (traced_answer same k links room m) (traced_fit same k links room m)

-- ---- what a call leaves

abbrev pub traced_room : Outputs → Room
traced_room o = room_in (length o.rows) (length o.diags)

abbrev pub group_room : Outputs → Room
group_room o = room_in (length o.group-rows) (length o.group-diags)

pub fit : (same : Comparison) (k : ℕ) (m : Tables) (o : Outputs) → Holds (BothFit (traced_room o) (group_room o)) (answer_for same k m o)
fit same k m o = both-fit same k (links_in (length o.links)) (traced_room o) (group_room o) (length o.names) m

within : (n w k : ℕ) → k ≤ n / w → k * w ≤ n
within n w k h = le_trans (mul-le-mul_right w h) (div-mul-le_self n w)

-- rows and diagnostics, as many as the answer counts, lie within their outputs
pub record Within (o : Outputs) (b : Both) : Type 0 where
  pub rows : b.traced.rows * row_numbers ≤ length o.rows
  pub diags : b.traced.diagnostics * diag_numbers ≤ length o.diags
  pub group-rows : b.group.rows * row_numbers ≤ length o.group-rows
  pub group-diags : b.group.diagnostics * diag_numbers ≤ length o.group-diags

pub counts-within : (same : Comparison) (k : ℕ) (m : Tables) (o : Outputs) (z : Result Both Told) (p : Outputs) → BothInto same k m o z p → (b : Both) → z ≡ Ok b → Within o b
counts-within same k m o z p h b e =
    let l = handed-ok listed z (answer_for same k m o) h.answer b e in
    let f = holds (BothFit (traced_room o) (group_room o)) (answer_for same k m o) (fit same k m o) l.0 l.1 in
    record {
      rows = within (length o.rows) row_numbers b.traced.rows (rw l.2 f.traced.rows);
      diags = within (length o.diags) diag_numbers b.traced.diagnostics (rw l.2 f.traced.diags);
      group-rows = within (length o.group-rows) row_numbers b.group.rows (rw l.2 f.group.rows);
      group-diags = within (length o.group-diags) diag_numbers b.group.diagnostics (rw l.2 f.group.diags);
    }

-- ---- the outputs that a program lends

abbrev links_lent : ℕ
links_lent = rows_lent false * link_numbers

abbrev listed_lent : ℕ
listed_lent = room_lent.rows * row_numbers

abbrev diags_lent : ℕ
diags_lent = room_lent.diags * diag_numbers

abbrev pub no_outputs : Outputs
no_outputs = outputs (zeros links_lent) (zeros listed_lent) (zeros diags_lent) (zeros listed_lent) (zeros names_lent) (zeros diags_lent)

pub answer-lent : (same : Comparison) (k : ℕ) (m : Tables) → answer_for same k m no_outputs ≡ both_answer same k (rows_lent false) room_lent room_lent names_lent m
answer-lent same k m =
    let links = length-replicate {A = ℕ} links_lent 0 in
    let rows = length-replicate {A = ℕ} listed_lent 0 in
    let diags = length-replicate {A = ℕ} diags_lent 0 in
    λ i. both_answer same k (links_in (links i)) (room_in (rows i) (diags i)) (room_in (rows i) (diags i)) (length-replicate {A = ℕ} names_lent 0 i) m
