-- 02 (ii): "Every accepted sheet written before keeps its index once the field is padded, where 1 still lets it through". Written before means: the array
-- index in six columns, and in the tables one number. This file has the reading and the checks of such a sheet, how it is padded, and the promise
-- (`KeepsIndex`). Nothing else in the definition speaks of that form.
-- A C line and a C row alone had another form; so what looks at neither is not said again: lines, letters and their order, the fields of the other letters,
-- names, the rules of a field (that a number has 64 bits says nothing of six columns), keys that clash, and refusals 8 and 9. Assumes nothing.
use Rattle.std.specs.Prelude.{Bool, true, false, not, ◌&&◌, ◌||◌, cond, List, [], ◌∷◌, ◌++◌, map, ◌≡◌, ℕ, zero, suc, ◌+◌, ◌*◌, ◌/◌, ◌%◌, ◌≤◌, ◌<◌, T, eqb, leb, ltb, length, get_or, take, drop, replicate, Option, None, Some}
use Rattle.as5506.specs.Lists.{up_to, keep, when, is_nil, each}
use Rattle.as5506.specs.Tables.{Tables, tables_of, present, Letter, letter_n, letter_c, table, width, has_index, c_index, e_holder_kind}
use Rattle.as5506.specs.Columns.{order, rank, letter_byte, Meaning, name, row_in, holder, below, anything, Column, needed, optional, long, columns}
use Rattle.as5506.specs.Answers.{Refusal, refusal, line, row, Answer, given, fault, unless_faults}
use Rattle.as5506.specs.Fields.{space, field_numbers}
use Rattle.as5506.specs.Sheet.{Line, ended, unended, line_feed, lines_of, text_of, letter_of, lines_with, is_n, rules_by, Lent, name_bytes, is_earlier, tables_read, read_sheet}
use Rattle.as5506.specs.Refusals.{bad_name, holder_letter, Key, clashes_from, faults8, faults9, accepted}

-- ---- the form: a C line and a C row alone differ

abbrev pub is_c : Letter → Bool
is_c l = eqb (rank l) 1

abbrev pub columns_if : Bool → Letter → List Column
columns_if true l = needed 6 name ∷ optional 6 (row_in letter_c) ∷ optional 6 anything ∷ needed 6 name ∷ needed 6 name ∷ optional 6 name ∷ needed 6 anything ∷ []
columns_if false l = columns l

abbrev pub columns_before : Letter → List Column
columns_before l = columns_if (is_c l) l

abbrev pub width_if : Bool → Letter → ℕ
width_if true l = 7
width_if false l = width l

abbrev pub width_before : Letter → ℕ
width_before l = width_if (is_c l) l

abbrev pub count_before : Tables → Letter → ℕ
count_before m l = length (table m l) / width_before l

abbrev pub at_before : Tables → Letter → ℕ → ℕ → ℕ
at_before m l i j = get_or (table m l) (i * width_before l + j) 0

-- ---- refusals 1 to 5

unfoldable pub has_place_before : Lent → List (List ℕ) → Letter → List ℕ → Bool
has_place_before lent before l s =
    leb (suc (length (lines_with l before)) * width_before l) (lent.numbers l)
    && (not (is_n l) || leb (name_bytes (s ∷ before)) lent.bytes)

abbrev pub known_before : Lent → List (List ℕ) → List ℕ → Option Letter → List ℕ
known_before lent before s None = 2 ∷ []
known_before lent before s (Some l) =
    when (is_earlier before l) 3 ++ when (not (rules_by (is_n l) (columns_before l) s)) 4 ++ when (not (has_place_before lent before l s)) 5

unfoldable pub line_faults_before : Lent → List (List ℕ) → Line → List ℕ
line_faults_before lent before (unended s) = 2 ∷ []
line_faults_before lent before (ended s) = known_before lent before s (letter_of s)

unfoldable pub lines_faults_before : Lent → List (List ℕ) → ℕ → List Line → List Refusal
lines_faults_before lent before k [] = []
lines_faults_before lent before k (l ∷ ls) =
    map (λ n. refusal n (line k)) (line_faults_before lent before l) ++ lines_faults_before lent (text_of l ∷ before) (suc k) ls

-- tables with another table of C rows
abbrev pub with_c : List ℕ → Tables → Tables
with_c cs m = tables_of m.bytes m.n cs m.f m.x m.p m.i m.t m.q m.u m.e m.r m.m

unfoldable pub tables_read_before : List (List ℕ) → Tables
tables_read_before ls = with_c (each (λ s. field_numbers (columns_before letter_c) (drop 1 s)) (lines_with letter_c ls)) (tables_read ls)

-- THE READER, before
unfoldable pub read_before : Lent → List ℕ → Answer Tables
read_before lent s = unless_faults (fault 1 (ltb 16384 (length s)) ++ lines_faults_before lent [] 1 (lines_of s)) (tables_read_before (map text_of (lines_of s)))

-- ---- refusals 10, 6, 7, 16 over rows of that form; 8 and 9 look at no C row

abbrev pub row_faults_before : ℕ → Tables → Letter → (ℕ → Bool) → List Refusal
row_faults_before number m l is_bad = map (λ i. refusal number (row l i)) (keep is_bad (up_to (count_before m l)))

unfoldable pub faults10_before : Tables → List Refusal
faults10_before m =
    each (λ l. when (not (eqb (length (table m l) % width_before l) 0)) (refusal 10 (row l 0))) order
    ++ each (λ l. when (ltb 4096 (count_before m l)) (refusal 10 (row l 4096))) order
    ++ row_faults_before 10 m letter_n (bad_name m)

abbrev pub in_range_before : Tables → ℕ → Meaning → ℕ → Bool
in_range_before m i name v = ltb v (count_before m letter_n)
in_range_before m i (row_in l) v = ltb v (count_before m l)
in_range_before m i holder v = ltb v (count_before m (holder_letter (e_holder_kind m i)))
in_range_before m i (below b) v = ltb v b
in_range_before m i anything v = present v

-- no field was long
abbrev pub allows_before : Tables → ℕ → Column → ℕ → Bool
allows_before m i (needed b w) v = in_range_before m i w v
allows_before m i (optional b w) v = not (present v) || in_range_before m i w v
allows_before m i (long b) v = false

unfoldable pub allows_from_before : Tables → Letter → ℕ → ℕ → List Column → Bool
allows_from_before m l i j [] = true
allows_from_before m l i j (c ∷ cs) = allows_before m i c (at_before m l i j) && allows_from_before m l i (suc j) cs

unfoldable pub faults6_before : Tables → List Refusal
faults6_before m = each (λ l. row_faults_before 6 m l (λ i. not (allows_from_before m l i 0 (columns_before l)))) order

abbrev pub bad_parent_before : Tables → ℕ → Bool
bad_parent_before m zero = present (at_before m letter_c zero 1)
bad_parent_before m (suc i) = not (ltb (at_before m letter_c (suc i) 1) (suc i))

unfoldable pub faults7_before : Tables → List Refusal
faults7_before m = when (eqb (count_before m letter_c) 0) (refusal 7 (row letter_c 0)) ++ row_faults_before 7 m letter_c (bad_parent_before m)

abbrev pub place_key_before : Tables → ℕ → Key
place_key_before m i = (at_before m letter_c i 1 ∷ at_before m letter_c i 6 ∷ []) ∷ []

unfoldable pub faults16_before : Tables → List Refusal
faults16_before m = map (λ i. refusal 16 (row letter_c i)) (clashes_from [] 0 (map (place_key_before m) (up_to (count_before m letter_c))))

unfoldable pub faults_before : Tables → List Refusal
faults_before m = faults10_before m ++ faults6_before m ++ faults7_before m ++ faults16_before m ++ faults8 m ++ faults9 m

-- "accepted", before
unfoldable pub accepted_before : Tables → Bool
accepted_before m = is_nil (faults_before m)

-- ---- "once the field is padded": 14 spaces more in front of the third field of each C line

abbrev pub pad_by : Bool → List ℕ → List ℕ
pad_by true s = take 13 s ++ replicate 14 space ++ drop 13 s
pad_by false s = s

abbrev pub padded_line : List ℕ → List ℕ
padded_line s = pad_by (eqb (get_or s 0 0) (letter_byte letter_c)) s

abbrev pub written_back : Line → List ℕ
written_back (ended s) = padded_line s ++ (line_feed ∷ [])
written_back (unended s) = padded_line s

unfoldable pub padded_sheet : List ℕ → List ℕ
padded_sheet s = each written_back (lines_of s)

-- ---- THE PROMISE

-- the tables of before, but for the index of each component: present, high, low
abbrev pub in_three : ℕ → List ℕ
in_three v = cond (present v) (1 ∷ 0 ∷ v ∷ []) (0 ∷ 0 ∷ 0 ∷ [])

abbrev pub row_in_three : Tables → ℕ → List ℕ
row_in_three m i =
    at_before m letter_c i 0 ∷ at_before m letter_c i 1 ∷ []
    ++ in_three (at_before m letter_c i 2)
    ++ (at_before m letter_c i 3 ∷ at_before m letter_c i 4 ∷ at_before m letter_c i 5 ∷ at_before m letter_c i 6 ∷ [])

unfoldable pub widened : Tables → Tables
widened m = with_c (each (row_in_three m) (up_to (count_before m letter_c))) m

-- no fewer bytes, and rows of each letter, are lent now than before
pub record NoFewer (was now : Lent) : Type 0 where
  pub bytes : was.bytes ≤ now.bytes
  pub rows : (l : Letter) → was.numbers l / width_before l ≤ now.numbers l / width l

-- of a sheet s that gave the tables m before
pub record IndexKept (lent : Lent) (s : List ℕ) (m : Tables) : Type 0 where
  -- padded it is read, into the same tables but for the three numbers
  pub is_read : read_sheet lent (padded_sheet s) ≡ given (widened m)
  pub is_accepted : T (accepted (widened m))
  -- each component has an index exactly if it had one, and then the same
  pub is_there : (i : ℕ) → i < count_before m letter_c → has_index (widened m) i ≡ present (at_before m letter_c i 2)
  pub index : (i : ℕ) → i < count_before m letter_c → T (present (at_before m letter_c i 2)) → c_index (widened m) i ≡ at_before m letter_c i 2

-- "Every accepted sheet written before", whatever was lent for it, "where 1 still lets it through"
abbrev pub KeepsIndex : Type 0
KeepsIndex =
    (was now : Lent) → NoFewer was now → (s : List ℕ) (m : Tables) → read_before was s ≡ given m → T (accepted_before m)
    → length (padded_sheet s) ≤ 16384 → IndexKept now s m
