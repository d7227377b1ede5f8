-- What a call of `read_sheet` gives and leaves, from the definition's answer (as5506, Sheet). Assumes nothing.
use Rattle.std.specs.Prelude.{List, ◌≡◌, ℕ, ◌≤◌, T, length, Result, Ok}
use Rattle.as5506.specs.Answers.{Answer, given, handed}
use Rattle.as5506.specs.Before.{read_before, accepted_before, padded_sheet, widened, NoFewer, IndexKept}
use Rattle.as5506.specs.Lists.{padded}
use Rattle.as5506.specs.Sheet.{Lent, lent_of, read_sheet, table_after, bytes_after}
use Rattle.as5506.specs.Tables.{Tables, Letter, letter_n, letter_c, letter_f, letter_x, letter_p, letter_i, letter_t, letter_q, letter_u, letter_e, letter_r, letter_m, table, count}
use Rattle.as5506.specs.declared.Refusal.{Refusal as Told}
use Rattle.sheet.specs.declared.Counts.{Counts}

-- the bytes of names and the rows of each letter in tables
abbrev pub counts_of : Tables → Counts
counts_of m =
    record {
      bytes = length m.bytes;
      n = count m letter_n;
      c = count m letter_c;
      f = count m letter_f;
      x = count m letter_x;
      p = count m letter_p;
      i = count m letter_i;
      t = count m letter_t;
      q = count m letter_q;
      u = count m letter_u;
      e = count m letter_e;
      r = count m letter_r;
      m = count m letter_m;
    }

-- the definition's answer as the code hands it over
abbrev pub sheet_read : Answer Tables → Result Counts Told
sheet_read a = handed counts_of a

-- THE CONTRACT: a call on the sheet s with the slices `before` gives z and leaves the slices `after`
pub record ReadInto (before : Tables) (s : List ℕ) (z : Result Counts Told) (after : Tables) : Type 0 where
  pub answer : z ≡ sheet_read (read_sheet (lent_of before) s)
  pub bytes : after.bytes ≡ bytes_after (lent_of before) (read_sheet (lent_of before) s)
  pub tables : (l : Letter) → table after l ≡ table_after (lent_of before) l (read_sheet (lent_of before) s)

-- 02 (ii): "Every accepted sheet written before keeps its index once the field is padded": a call on a padded sheet s, which gave the tables m before it was
-- padded, hands these back with the index in three numbers (as5506, Before), and zeros behind
pub record KeptInto (slices : Tables) (s : List ℕ) (m : Tables) (z : Result Counts Told) (after : Tables) : Type 0 where
  pub kept : IndexKept (lent_of slices) s m
  pub answer : z ≡ Ok (counts_of (widened m))
  pub bytes : after.bytes ≡ padded (length slices.bytes) m.bytes
  pub tables : (l : Letter) → table after l ≡ padded (length (table slices l)) (table (widened m) l)

abbrev pub HandsBackIndex : Type 0
HandsBackIndex =
    (was : Lent) (slices : Tables) → NoFewer was (lent_of slices) → (s : List ℕ) (m : Tables) → read_before was s ≡ given m → T (accepted_before m)
    → length (padded_sheet s) ≤ 16384 → (z : Result Counts Told) (after : Tables) → ReadInto slices (padded_sheet s) z after → KeptInto slices s m z after
