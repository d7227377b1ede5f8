-- The matches of group connections: what matching leaves as a whole, the matches that have a partner, and how many numbers they take.
-- Assumes nothing.
use mathlib.Core.Bool.{Bool, true, false, ◌||◌}
use mathlib.Core.Path.{◌≡◌, refl, sym, ap, ap₂, subst, ◌∙◌}
use mathlib.Core.List.{List, [], ◌∷◌, ◌++◌, map, map-append}
use Prim.Native.Nat.{ℕ, ◌+◌, ◌*◌}
use lib.ListN.{length, length-append}
use Rattle.as5506.specs.Lists.{each, padded}
use Rattle.as5506.specs.Tables.{Tables}
use Rattle.as5506.specs.Groups.{Feature}
use Rattle.as5506.specs.Rows.{Row, Diag}
use Rattle.as5506.specs.GroupList.{GroupConnection, group_overrun, overrun, Match, matches_by, matches, match_row, match_diag, rows_matched, diags_matched}
use Rattle.as5506.specs.Layout.{row_numbers, group_block, diag_block}
use Rattle.as5506.proofs.Laws.{All, all_map, all-of, all-each-of, each_same, each_append, each-each, each_map, even-length, not-both}
use Rattle.lent.specs.Append.{Filled, filled, append_all, together}
use Rattle.lent.proofs.Pieces.{all_append}
use Rattle.sink.specs.declared.Tally.{Tally}
use Rattle.std.specs.Prelude.{Some, None, Option}
use Rattle.group_match.specs.Matching.{match_piece, match_pieces, note_pieces, Lists, over, lists, after_by, after, after_all, lists_of}
use Rattle.group_match.proofs.Loop.{all-over}
use Rattle.group_names.specs.Pairs.{Pair, pair_rows, rows_of_pairs}
use Rattle.group_names.proofs.Blocks.{pair_block, Short, pair-length}

-- ---- MATCHING: what all connections leave

pieces-append : (a b : List Match) → match_pieces (a ++ b) ≡ match_pieces a ++ match_pieces b
unfolding match_pieces
pieces-append a b = each_append (λ (p : Match). match_piece p.connection p.feature p.partner) a b

notes-append : (a b : List Match) → note_pieces (a ++ b) ≡ note_pieces a ++ note_pieces b
unfolding note_pieces diags_matched
notes-append a b =
    ap (map diag_block) (each_append (λ (p : Match). match_diag p.connection p.feature p.partner) a b) ∙ map-append diag_block (diags_matched a) (diags_matched b)

-- more matches behind those that are written
after_more : (t : Bool) (a b : List Match) (rows notes : Filled ℕ)
    → after_by t b (append_all (match_pieces a) rows) (append_all (note_pieces a) notes) ≡ after_by t (a ++ b) rows notes
unfolding after_by
after_more true a b rows notes = refl
after_more false a b rows notes =
    ap₂ lists (sym (ap (λ (ps : List (List ℕ)). append_all ps rows) (pieces-append a b) ∙ all_append (match_pieces a) (match_pieces b) rows))
    (sym (ap (λ (ps : List (List ℕ)). append_all ps notes) (notes-append a b) ∙ all_append (note_pieces a) (note_pieces b) notes))

module _ (m : Tables) where
  after-by : (t u : Bool) (a b : List Match) (bs : List GroupConnection) (rows notes : Filled ℕ)
      → ((rows notes : Filled ℕ) → after_all m bs (lists rows notes) ≡ after_by u b rows notes)
      → after_all m bs (after_by t a rows notes) ≡ after_by (t || u) (a ++ b) rows notes
  unfolding after_by
  after-by true u a b bs rows notes rest = all-over m bs
  after-by false u a b bs rows notes rest = rest (append_all (match_pieces a) rows) (append_all (note_pieces a) notes) ∙ after_more u a b rows notes

  after-all : (bs : List GroupConnection) (rows notes : Filled ℕ) → after_all m bs (lists rows notes) ≡ after_by (overrun bs) (matches m bs) rows notes
  unfolding after_all after after_by overrun matches match_pieces note_pieces diags_matched append_all
  after-all [] rows notes = refl
  after-all (b ∷ bs) rows notes =
      after-by (group_overrun b.src_group || group_overrun b.dst_group) (overrun bs) (matches_by m b b.src_group b.dst_group) (matches m bs) bs rows notes (after-all bs)

-- ---- what its answer tells

abbrev is_over : Lists → Bool
is_over over = true
is_over (lists rows notes) = false

abbrev rows_or : Filled ℕ → Lists → Filled ℕ
rows_or d over = d
rows_or d (lists rows notes) = rows

abbrev notes_or : Filled ℕ → Lists → Filled ℕ
notes_or d over = d
notes_or d (lists rows notes) = notes

module _ (ms : List Match) (rows notes : Filled ℕ) where
  over_by : (t : Bool) → over ≡ after_by t ms rows notes → t ≡ true
  unfolding after_by
  over_by true e = refl
  over_by false e = absurd (not-both is_over over (after_by false ms rows notes) e tt refl)

  -- no end has too many visits, and both outputs have the pieces of all matches
  abbrev Left : Bool → Filled ℕ → Filled ℕ → Type 0
  Left t rows₁ notes₁ = (t ≡ false) × (rows₁ ≡ append_all (match_pieces ms) rows) × (notes₁ ≡ append_all (note_pieces ms) notes)

  done-by : (t : Bool) (rows₁ notes₁ : Filled ℕ) → lists rows₁ notes₁ ≡ after_by t ms rows notes → Left t rows₁ notes₁
  unfolding after_by
  done-by true rows₁ notes₁ e = absurd (not-both is_over over (lists rows₁ notes₁) (sym e) tt refl)
  done-by false rows₁ notes₁ e = (refl, ap (rows_or rows₁) e, ap (notes_or notes₁) e)

module _ (m : Tables) (bs : List GroupConnection) (rows notes rows₁ notes₁ : List ℕ) (z : Option Tally)
    (e : lists_of z rows₁ notes₁ ≡ after_all m bs (lists (filled rows (Some 0)) (filled notes (Some 0)))) where
  whole : lists_of z rows₁ notes₁ ≡ after_by (overrun bs) (matches m bs) (filled rows (Some 0)) (filled notes (Some 0))
  whole = e ∙ after-all m bs (filled rows (Some 0)) (filled notes (Some 0))

  pub told_over : z ≡ None → overrun bs ≡ true
  unfolding lists_of
  told_over h = over_by (matches m bs) (filled rows (Some 0)) (filled notes (Some 0)) (overrun bs) (subst (λ (y : Option Tally). lists_of y rows₁ notes₁ ≡ after_by (overrun bs) (matches m bs) (filled rows (Some 0)) (filled notes (Some 0))) h whole)

  pub told-done : (t : Tally) → z ≡ Some t
      → (overrun bs ≡ false) × (filled rows₁ t.used ≡ append_all (match_pieces (matches m bs)) (filled rows (Some 0))) × (filled notes₁ t.noted ≡ append_all (note_pieces (matches m bs)) (filled notes (Some 0)))
  unfolding lists_of
  told-done t h =
      done-by (matches m bs) (filled rows (Some 0)) (filled notes (Some 0)) (overrun bs) (filled rows₁ t.used) (filled notes₁ t.noted)
      (subst (λ (y : Option Tally). lists_of y rows₁ notes₁ ≡ after_by (overrun bs) (matches m bs) (filled rows (Some 0)) (filled notes (Some 0))) h whole)

-- ---- the matches that have a partner

unfoldable pub pair_by : GroupConnection → Feature → Option Feature → List Pair
pair_by b s None = []
pair_by b s (Some d) = record { conn = b.conn; src = b.src; dst = b.dst; feature = s; partner = d } ∷ []

unfoldable pub pairs_of : List Match → List Pair
pairs_of ms = each (λ p. pair_by p.connection p.feature p.partner) ms

-- their blocks

pair-piece : (b : GroupConnection) (s : Feature) (d : Option Feature) → together (match_piece b s d) ≡ each pair_block (pair_by b s d)
unfolding match_piece pair_by pair_block
pair-piece b s None = refl
pair-piece b s (Some d) = refl

pub pair-blocks : (ms : List Match) → together (match_pieces ms) ≡ each pair_block (pairs_of ms)
unfolding match_pieces pairs_of
pair-blocks ms =
    each-each (λ (p : List ℕ). p) (λ (p : Match). match_piece p.connection p.feature p.partner) ms
    ∙ each_same (λ (p : Match). together (match_piece p.connection p.feature p.partner)) (λ (p : Match). each pair_block (pair_by p.connection p.feature p.partner)) ms
    (all-of (λ (p : Match). together (match_piece p.connection p.feature p.partner) ≡ each pair_block (pair_by p.connection p.feature p.partner)) (λ p. pair-piece p.connection p.feature p.partner) ms)
    ∙ sym (each-each pair_block (λ (p : Match). pair_by p.connection p.feature p.partner) ms)

pub pairs-length : (ps : List Pair) → All Short ps → length (each pair_block ps) ≡ length ps * row_numbers
pairs-length ps h = even-length row_numbers pair_block ps (all_map Short (λ p. length (pair_block p) ≡ row_numbers) pair-length ps h)

-- their rows

module _ (m : Tables) where
  pair_row : (b : GroupConnection) (s : Feature) (d : Option Feature) → each (pair_rows m) (pair_by b s d) ≡ match_row m b s d
  unfolding pair_by pair_rows match_row
  pair_row b s None = refl
  pair_row b s (Some d) = refl

  pub rows-of-pairs : (ms : List Match) → rows_of_pairs m (pairs_of ms) ≡ rows_matched m ms
  unfolding rows_of_pairs pairs_of rows_matched
  rows-of-pairs ms =
      each-each (pair_rows m) (λ (p : Match). pair_by p.connection p.feature p.partner) ms
      ∙ each_same (λ (p : Match). each (pair_rows m) (pair_by p.connection p.feature p.partner)) (λ (p : Match). match_row m p.connection p.feature p.partner) ms
      (all-of (λ (p : Match). each (pair_rows m) (pair_by p.connection p.feature p.partner) ≡ match_row m p.connection p.feature p.partner) (λ p. pair_row p.connection p.feature p.partner) ms)

  one-row : (b : GroupConnection) (s : Feature) (d : Option Feature) → length (match_row m b s d) ≡ length (pair_by b s d)
  unfolding pair_by match_row
  one-row b s None = refl
  one-row b s (Some d) = refl

  pub rows-number : (ms : List Match) → length (rows_matched m ms) ≡ length (pairs_of ms)
  unfolding rows_matched pairs_of
  rows-number [] = refl
  rows-number (p ∷ ms) =
      length-append (match_row m p.connection p.feature p.partner) (rows_matched m ms)
      ∙ ap₂ ◌+◌ (one-row p.connection p.feature p.partner) (rows-number ms)
      ∙ sym (length-append (pair_by p.connection p.feature p.partner) (pairs_of ms))

  row-length : (b : GroupConnection) (s : Feature) (d : Option Feature) → All (λ r. length (group_block r) ≡ row_numbers) (match_row m b s d)
  unfolding match_row group_block padded
  row-length b s None = tt
  row-length b s (Some d) = (refl, tt)

  pub rows-length : (ms : List Match) → length (each group_block (rows_matched m ms)) ≡ length (rows_matched m ms) * row_numbers
  unfolding rows_matched
  rows-length ms =
      even-length row_numbers group_block (rows_matched m ms)
      (all-each-of (λ (r : Row). length (group_block r) ≡ row_numbers) (λ (p : Match). match_row m p.connection p.feature p.partner) (λ p. row-length p.connection p.feature p.partner) ms)

-- ---- the diagnostics

pub note-blocks : (ms : List Match) → together (note_pieces ms) ≡ each diag_block (diags_matched ms)
unfolding note_pieces
note-blocks ms = each_map (λ (p : List ℕ). p) diag_block (diags_matched ms)

pub notes-length : (ds : List Diag) → length (each diag_block ds) ≡ length ds * 4
unfolding diag_block
notes-length ds = even-length 4 diag_block ds (all-of (λ (d : Diag). length (diag_block d) ≡ 4) (λ d. refl) ds)
