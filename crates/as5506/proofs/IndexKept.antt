-- 02 (ii): every accepted sheet written before keeps its index once the field is padded. Assumes nothing.
use mathlib.Core.Bool.{Bool, true, false}
use mathlib.Core.Path.{◌≡◌, refl, sym, ap, ◌∙◌, subst}
use mathlib.Core.List.{List, [], ◌∷◌, ◌++◌, map, append_assoc, map-map, map-id}
use Prim.Native.Nat.{ℕ, ◌*◌, ◌/◌, ◌%◌, ◌≤◌, ◌<◌}
use native.Mathlib.Nat.{mul-div_cancel, mul-mod_left}
use native.Mathlib.Omega.{arith}
use borrow.Author.Tests.{le-ltb}
use lib.Dec.{T, eqb, ltb, eqb→eq}
use lib.ListN.{length, get_or, take, drop, replicate, take-append-drop}
use Rattle.as5506.specs.Lists.{up_to, is_nil, each}
use Rattle.as5506.specs.Tables.{Tables, letter_n, letter_c, letter_f, letter_x, letter_p, letter_i, letter_t, letter_q, letter_u, letter_e, letter_r, letter_m}
use Rattle.as5506.specs.Columns.{letter_byte}
use Rattle.as5506.specs.Answers.{Refusal, given, fault}
use Rattle.as5506.specs.Fields.{space}
use Rattle.as5506.specs.Sheet.{Line, ended, unended, line_feed, line_with, lines_of, text_of, lines_with, line_row, Lent, sheet_faults, rows_read, tables_read, read_sheet}
use Rattle.as5506.specs.Refusals.{faults, accepted}
use Rattle.as5506.specs.Before.{columns_before, count_before, at_before, lines_faults_before, with_c, tables_read_before, read_before, faults_before, accepted_before, pad_by, padded_line, written_back, padded_sheet, row_in_three, widened, NoFewer, KeepsIndex}
use Rattle.as5506.proofs.Laws.{All, all-of, all_append, all-append-left, all-append-right, all_replicate, all_keep, all-mapped, each_same, each_map, even-length, nil-right, map-entries, row_at, each-entries}
use Rattle.as5506.proofs.Answers.{unless-given, unless-nil, nil-given}
use Rattle.as5506.proofs.Fields.{numbers-length}
use Rattle.as5506.proofs.Widened.{refusals-same, index-there, index_same}
use Rattle.as5506.proofs.PaddedLines.{in_nine, row_before, lines-padded, lines_other, lines-kept, Fine, row-padded, lines-fine}

-- ---- bytes and lines

-- not an LF
abbrev Other : ℕ → Type 0
Other b = eqb b line_feed ≡ false

-- a line's bytes
abbrev Bytes : List ℕ → Type 0
Bytes t = All Other t

line-bytes : (c : Bool) (b : ℕ) (ls : List Line) → eqb b line_feed ≡ c → All (λ l. Bytes (text_of l)) ls → All (λ l. Bytes (text_of l)) (line_with c b ls)
unfolding line_with
line-bytes true b ls e h = (tt, h)
line-bytes false b [] e h = ((e, tt), tt)
line-bytes false b (ended l ∷ ls) e h = ((e, h.0), h.1)
line-bytes false b (unended l ∷ ls) e h = ((e, h.0), h.1)

lines-bytes : (s : List ℕ) → All (λ l. Bytes (text_of l)) (lines_of s)
unfolding lines_of
lines-bytes [] = tt
lines-bytes (b ∷ bs) = line-bytes (eqb b line_feed) b (lines_of bs) refl (lines-bytes bs)

padded-bytes : (t : List ℕ) → Bytes t → Bytes (padded_line t)
padded-bytes t h = go (eqb (get_or t 0 0) (letter_byte letter_c))
  where
    parts : Bytes (take 13 t ++ drop 13 t)
    parts = rw (take-append-drop 13 t) h

    go : (c : Bool) → Bytes (pad_by c t)
    go true =
        all_append Other (take 13 t ++ replicate 14 space) (drop 13 t)
        (all_append Other (take 13 t) (replicate 14 space) (all-append-left Other (take 13 t) (drop 13 t) parts) (all_replicate Other 14 space refl))
        (all-append-right Other (take 13 t) (drop 13 t) parts)
    go false = h

-- a line written before others is the first that is read
one_line : (t rest : List ℕ) → Bytes t → lines_of (t ++ (line_feed ∷ rest)) ≡ ended t ∷ lines_of rest
unfolding lines_of line_with
one_line [] rest h = refl
one_line (b ∷ t) rest h = rw (h.0, one_line t rest h.1)

-- lines written one after the other are read back
lines-back : (ts : List (List ℕ)) → All Bytes ts → lines_of (each (λ t. t ++ (line_feed ∷ [])) ts) ≡ map ended ts
unfolding lines_of
lines-back [] h = refl
lines-back (t ∷ ts) h =
    ap lines_of (append_assoc t (line_feed ∷ []) (each (λ t. t ++ (line_feed ∷ [])) ts))
    ∙ one_line t (each (λ t. t ++ (line_feed ∷ [])) ts) h.0
    ∙ ap (λ (r : List Line). ended t ∷ r) (lines-back ts h.1)

-- ---- the tables

module _ (ts : List (List ℕ)) where
  abbrev cs : List (List ℕ)
  cs = lines_with letter_c ts

  rows-even : All (λ t. length (row_before t) ≡ 7) cs
  rows-even = all-of (λ t. length (row_before t) ≡ 7) (λ t. numbers-length (columns_before letter_c) (drop 1 t)) cs

  cells-before : length (tables_read_before ts).c ≡ length cs * 7
  unfolding tables_read_before
  cells-before = even-length 7 row_before cs rows-even

  count-before : count_before (tables_read_before ts) letter_c ≡ length cs
  count-before = ap (λ (n : ℕ). n / 7) cells-before ∙ mul-div_cancel (length cs) (omega arith)

  at_before_lem : (i j : ℕ) → i < length cs → j < 7 → at_before (tables_read_before ts) letter_c i j ≡ get_or (row_before (get_or cs i [])) j 0
  unfolding tables_read_before
  at_before_lem i j h l = row_at 7 row_before cs rows-even [] 0 i j h l

  -- row i in three is the row of the i-th C line, in nine
  row-in-nine : (i : ℕ) → i < length cs → row_in_three (tables_read_before ts) i ≡ in_nine (row_before (get_or cs i []))
  row-in-nine i h =
      ap in_nine
      (subst (λ (n : ℕ). map (at_before (tables_read_before ts) letter_c i) (up_to n) ≡ row_before (get_or cs i [])) seven
      (map-entries (at_before (tables_read_before ts) letter_c i) 0 (row_before (get_or cs i [])) (λ j l. at_before_lem i j h (subst (λ (n : ℕ). j < n) seven l))))
    where
      seven : length (row_before (get_or cs i [])) ≡ 7
      seven = numbers-length (columns_before letter_c) (drop 1 (get_or cs i []))

  rows-widened : widened (tables_read_before ts) ≡ with_c (each (λ t. in_nine (row_before t)) cs) (tables_read ts)
  unfolding widened tables_read_before
  rows-widened =
      ap (λ (c : List ℕ). with_c c (tables_read ts))
      (ap (λ (n : ℕ). each (row_in_three (tables_read_before ts)) (up_to n)) count-before
      ∙ each-entries (row_in_three (tables_read_before ts)) (λ t. in_nine (row_before t)) [] cs row-in-nine)

  -- all but the C table are as before
  padded-tables : tables_read (map padded_line ts) ≡ with_c (rows_read letter_c (map padded_line ts)) (tables_read ts)
  unfolding tables_read rows_read
  padded-tables =
      rw (
        lines_other letter_n refl ts,
        lines_other letter_f refl ts,
        lines_other letter_x refl ts,
        lines_other letter_p refl ts,
        lines_other letter_i refl ts,
        lines_other letter_t refl ts,
        lines_other letter_q refl ts,
        lines_other letter_u refl ts,
        lines_other letter_e refl ts,
        lines_other letter_r refl ts,
        lines_other letter_m refl ts,
      )

  rows_alike : All Fine ts → All (λ t. line_row letter_c (padded_line t) ≡ in_nine (row_before t)) cs
  unfolding lines_with
  rows_alike =
      all_keep Fine (λ t. line_row letter_c (padded_line t) ≡ in_nine (row_before t)) (λ t. eqb (get_or t 0 0) (letter_byte letter_c))
      (λ t u fine. row-padded t (eqb→eq (get_or t 0 0) (letter_byte letter_c) u) fine) ts

  rows-padded : All Fine ts → rows_read letter_c (map padded_line ts) ≡ each (λ t. in_nine (row_before t)) cs
  unfolding rows_read
  rows-padded fine =
      ap (each (line_row letter_c)) (lines-padded letter_c ts)
      ∙ each_map (line_row letter_c) padded_line cs
      ∙ each_same (λ t. line_row letter_c (padded_line t)) (λ t. in_nine (row_before t)) cs (rows_alike fine)

  -- THE TABLES OF PADDED LINES are the widened tables of before
  tables-widened : All Fine ts → tables_read (map padded_line ts) ≡ widened (tables_read_before ts)
  tables-widened fine = padded-tables ∙ ap (λ (c : List ℕ). with_c c (tables_read ts)) (rows-padded fine) ∙ sym rows-widened

-- ---- a sheet that was read before

module _ (lent : Lent) (s : List ℕ) (m : Tables) (was : read_before lent s ≡ given m) where
  abbrev texts : List (List ℕ)
  texts = map text_of (lines_of s)

  no-faults : T (is_nil (lines_faults_before lent [] 1 (lines_of s)))
  unfolding read_before
  no-faults =
      nil-right (fault 1 (ltb 16384 (length s))) (lines_faults_before lent [] 1 (lines_of s))
      (unless-nil (fault 1 (ltb 16384 (length s)) ++ lines_faults_before lent [] 1 (lines_of s)) (tables_read_before texts) m was)

  is-before : m ≡ tables_read_before texts
  unfolding read_before
  is-before = unless-given (fault 1 (ltb 16384 (length s)) ++ lines_faults_before lent [] 1 (lines_of s)) (tables_read_before texts) m was

  ended-lines : lines_of s ≡ map ended texts
  ended-lines = (lines-fine lent [] 1 (lines_of s) no-faults).0

  fine-lines : All Fine texts
  fine-lines = (lines-fine lent [] 1 (lines_of s) no-faults).1

  padded-lines : lines_of (padded_sheet s) ≡ map ended (map padded_line texts)
  unfolding padded_sheet
  padded-lines =
      ap lines_of
      (ap (each written_back) ended-lines ∙ each_map written_back ended texts ∙ sym (each_map (λ t. t ++ (line_feed ∷ [])) padded_line texts))
      ∙ lines-back (map padded_line texts) (all-mapped Bytes Bytes padded_line padded-bytes texts (all-mapped (λ l. Bytes (text_of l)) Bytes text_of (λ l h. h) (lines_of s) (lines-bytes s)))

  -- THE REFUSALS OF ITS TABLES ARE THOSE OF BEFORE, accepted or not
  pub refusals-kept : faults (widened m) ≡ faults_before m
  refusals-kept = refusals-same m (ap (λ (t : Tables). length t.c % 7) is-before ∙ ap (λ (n : ℕ). n % 7) (cells-before texts) ∙ mul-mod_left (length (lines_with letter_c texts)) 7)

-- ---- THE PROMISE

texts-back : (us : List (List ℕ)) → map text_of (map ended us) ≡ us
texts-back us = map-map text_of ended us ∙ map-id us

module _ (was now : Lent) (many : NoFewer was now) (s : List ℕ) (m : Tables) (read : read_before was s ≡ given m) (room : length (padded_sheet s) ≤ 16384) where
  none-now : T (is_nil (sheet_faults now (padded_sheet s)))
  unfolding sheet_faults
  none-now =
      rw (le-ltb 16384 (length (padded_sheet s)) room, padded-lines was s m read)
      (lines-kept was now many [] 1 (map text_of (lines_of s)) (subst (λ (ls : List Line). T (is_nil (lines_faults_before was [] 1 ls))) (ended-lines was s m read) (no-faults was s m read)))

  padded-read : read_sheet now (padded_sheet s) ≡ given (widened m)
  unfolding read_sheet
  padded-read =
      nil-given (sheet_faults now (padded_sheet s)) (tables_read (map text_of (lines_of (padded_sheet s)))) none-now
      ∙ ap given
      (ap (λ (ls : List Line). tables_read (map text_of ls)) (padded-lines was s m read)
      ∙ ap tables_read (texts-back (map padded_line (map text_of (lines_of s))))
      ∙ tables-widened (map text_of (lines_of s)) (fine-lines was s m read)
      ∙ ap widened (sym (is-before was s m read)))

-- EVERY ACCEPTED SHEET WRITTEN BEFORE KEEPS ITS INDEX
pub index_kept : KeepsIndex
unfolding accepted accepted_before
index_kept was now many s m read ok room =
    record {
      is_read = padded-read was now many s m read room;
      is_accepted = subst (λ (rs : List Refusal). T (is_nil rs)) (sym (refusals-kept was s m read)) ok;
      is_there = index-there m;
      index = index_same m;
    }
