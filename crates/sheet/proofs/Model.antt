-- For callers: what a success hands over. Every table read has whole rows, fits what is lent, and can be taken back out of the lent slice; name
-- number k is the name of the k-th N line. Assumes nothing.
use mathlib.Core.List.{List, [], ◌∷◌, ◌++◌, map, append_assoc}
use mathlib.Core.Path.{◌≡◌, refl, sym, ap, ◌∙◌}
use Prim.Native.Nat.{ℕ, zero, suc, ◌*◌, ◌≤◌, ◌<◌}
use native.Mathlib.Nat.{suc-add, not-suc-le-zero, le_of_suc-le-suc}
use native.Mathlib.Omega.{arith}
use lib.ListN.{length, take, get_or, length-append, length-map}
use lib.Seq.{take-append_seam, drop-append_seam}
use Rattle.as5506.specs.Answers.{given}
use Rattle.as5506.specs.Lists.{each, padded}
use Rattle.as5506.specs.Sheet.{lines_with, line_name, lent_of, placed, tables_read, read_sheet, table_after, bytes_after}
use Rattle.as5506.specs.Tables.{Tables, name_in, name_of, Letter, letter_n, table, width, count}
use Rattle.as5506.proofs.Laws.{padded-length}
use Rattle.lent.proofs.Padded.{padded-front}
use Rattle.sheet.proofs.Rows.{whole-rows, rows-counted}
use Rattle.sheet.proofs.Whole.{no-fault, read_is, table_fits, bytes_fit}
use Rattle.sheet.specs.Read.{counts_of, sheet_read, ReadInto}
use Rattle.sheet.specs.Steps.{texts}
use Rattle.sheet.specs.declared.Counts.{Counts}
use Rattle.std.specs.Prelude.{Ok}
use Rattle.as5506.proofs.Answers.{ok-same}

-- ---- names

double : (k : ℕ) → suc k * 2 ≡ suc (suc (k * 2))
double k = omega arith

-- the k-th of names that stand one after the other behind `pre`
name-at : (pre : List ℕ) (ss : List (List ℕ)) (k : ℕ) → k < length ss → name_in (pre ++ each (λ s. s) ss) (placed (length pre) ss) k ≡ get_or ss k []
unfolding placed name_in
name-at pre [] k h = absurd (not-suc-le-zero h)
name-at pre (s ∷ ss) zero h = rw (drop-append_seam pre (s ++ each (λ s. s) ss)) (take-append_seam s (each (λ s. s) ss))
name-at pre (s ∷ ss) (suc k) h =
    rw (double k, suc-add (suc (k * 2)) 1, suc-add (k * 2) 1, suc-add (suc (k * 2)) 0, suc-add (k * 2) 0, ← length-append pre s, ← append_assoc pre s (each (λ s. s) ss))
    (name-at (pre ++ s) ss k (le_of_suc-le-suc h))

each-name : (ls : List (List ℕ)) → each line_name ls ≡ each (λ s. s) (map line_name ls)
each-name [] = refl
each-name (s ∷ ls) = ap (λ (r : List ℕ). line_name s ++ r) (each-name ls)

pub name-read : (ls : List (List ℕ)) (k : ℕ) → k < count (tables_read ls) letter_n → name_of (tables_read ls) k ≡ get_or (map line_name (lines_with letter_n ls)) k []
unfolding tables_read
name-read ls k h =
    rw (each-name (lines_with letter_n ls))
    (name-at [] (map line_name (lines_with letter_n ls)) k (rw (length-map (lines_with letter_n ls) line_name, ← rows-counted ls letter_n) h))

-- ---- a success

-- the slices `after` hold the model: the first `count * width` numbers of each table are the definition's
pub record Model (before : Tables) (s : List ℕ) (counts : Counts) (after : Tables) : Type 0 where
  pub model : Tables
  pub read : read_sheet (lent_of before) s ≡ given model
  pub is : model ≡ tables_read (texts s)
  pub counted : counts ≡ counts_of model
  pub whole : (l : Letter) → length (table model l) ≡ count model l * width l
  pub within : (l : Letter) → count model l * width l ≤ length (table after l)
  pub rows : (l : Letter) → take (count model l * width l) (table after l) ≡ table model l
  pub bytes-within : counts.bytes ≤ length after.bytes
  pub bytes : take counts.bytes after.bytes ≡ model.bytes

pub handed : (before : Tables) (s : List ℕ) (counts : Counts) (after : Tables) → ReadInto before s (Ok counts) after → Model before s counts after
unfolding table_after bytes_after
handed before s counts after k =
    let none = no-fault (lent_of before) s counts (sym k.answer) in
    let r = read_is (lent_of before) s none in
    let m = tables_read (texts s) in
    let c : counts ≡ counts_of m = ok-same counts (counts_of m) (k.answer ∙ ap sheet_read r) in
    let w : (l : Letter) → length (table m l) ≡ count m l * width l = λ l. whole-rows (texts s) l ∙ ap (λ (n : ℕ). n * width l) (sym (rows-counted (texts s) l)) in
    let t : (l : Letter) → table after l ≡ padded (length (table before l)) (table m l) = λ l. k.tables l ∙ ap (table_after (lent_of before) l) r in
    let b : after.bytes ≡ padded (length before.bytes) m.bytes = k.bytes ∙ ap (bytes_after (lent_of before)) r in
    let u : counts.bytes ≡ length m.bytes = ap (λ (c : Counts). c.bytes) c in
    record {
      model = m;
      read = r;
      is = refl;
      counted = c;
      whole = w;
      within = λ l. rw (← w l, t l, padded-length (length (table before l)) (table m l) (table_fits (lent_of before) s none l)) (table_fits (lent_of before) s none l);
      rows = λ l. rw (← w l, t l) (padded-front (length (table before l)) (table m l));
      bytes-within = rw (u, b, padded-length (length before.bytes) m.bytes (bytes_fit (lent_of before) s none)) (bytes_fit (lent_of before) s none);
      bytes = rw (u, b) (padded-front (length before.bytes) m.bytes);
    }
