-- Tables of before, with the array index in three numbers (02 (ii)): they are refused as before, and have the same index. Assumes nothing.
use mathlib.Core.Bool.{Bool, true, false, not, ◌&&◌, ◌||◌, cond, not-or_self, false≢true}
use mathlib.Core.Path.{◌≡◌, refl, sym, ap, ap₂, ◌∙◌, subst}
use mathlib.Core.List.{List, [], ◌∷◌, ◌++◌, map}
use Prim.Native.Nat.{ℕ, zero, suc, ◌+◌, ◌*◌, ◌/◌, ◌%◌, ◌<◌}
use native.Mathlib.Nat.{mul-div_cancel, mul-mod_left}
use native.Mathlib.Numerals.{add-one}
use native.Mathlib.Omega.{arith}
use lib.Dec.{T, eqb, ltb}
use lib.ListN.{length, get_or}
use Rattle.as5506.specs.Lists.{up_to, keep, when, each, all_of}
use Rattle.as5506.specs.Tables.{Tables, two_to32, present, Letter, letter_n, letter_c, letter_f, letter_x, letter_p, letter_i, letter_t, letter_q, letter_u, letter_e, letter_r, letter_m, table, width, count, at, has_index, c_index, e_holder_kind}
use Rattle.as5506.specs.Columns.{order, Meaning, name, row_in, holder, below, anything, Column, needed, optional, long, columns}
use Rattle.as5506.specs.Names.{key}
use Rattle.as5506.specs.Answers.{refusal, row}
use Rattle.as5506.specs.Refusals.{row_faults, broken_rows, too_many_rows, bad_name, faults10, holder_letter, in_range, good_long, allows, allows_from, bad_row, faults6, bad_parent, faults7, Key, clashes_from, clashes, place_key, faults16, faults8, faults9, faults}
use Rattle.as5506.specs.Before.{is_c, columns_before, width_if, width_before, count_before, at_before, row_faults_before, faults10_before, in_range_before, allows_before, allows_from_before, faults6_before, bad_parent_before, faults7_before, place_key_before, faults16_before, faults_before, row_in_three, widened}
use Rattle.as5506.proofs.Laws.{All, all-of, keep-alike, map_same, even-length, up_to-all, up_to-length, up_to-entry, row_at}
use Rattle.as5506.proofs.Letters.{each-letter}

-- ---- letters: C, or another, of which nothing has changed

pub c-or-other : (P : Letter → Type 0) → P letter_c → ((l : Letter) → is_c l ≡ false → P l) → (l : Letter) → P l
c-or-other P c h =
    each-letter P (h letter_n refl) c (h letter_f refl) (h letter_x refl) (h letter_p refl) (h letter_i refl) (h letter_t refl) (h letter_q refl) (h letter_u refl) (h letter_e refl) (h letter_r refl) (h letter_m refl)

other_width : (l : Letter) → is_c l ≡ false → width_before l ≡ width l
other_width l e = ap (λ (b : Bool). width_if b l) e

-- ---- a row in three: what was one number is three

abbrev row_by : Bool → (ℕ → ℕ) → List ℕ
row_by b g = g 0 ∷ g 1 ∷ (cond b (1 ∷ 0 ∷ g 2 ∷ []) (0 ∷ 0 ∷ 0 ∷ []) ++ (g 3 ∷ g 4 ∷ g 5 ∷ g 6 ∷ []))

-- what such a row r says of the numbers g of before
record InThree (r : List ℕ) (g : ℕ → ℕ) : Type 0 where
  wide : length r ≡ 9
  first : get_or r 0 0 ≡ g 0
  second : get_or r 1 0 ≡ g 1
  is_there : eqb (get_or r 2 0) 1 ≡ present (g 2)
  index : T (present (g 2)) → get_or r 3 0 * two_to32 + get_or r 4 0 ≡ g 2
  good : good_long (get_or r 2 0) (get_or r 3 0) (get_or r 4 0) ≡ true
  fourth : get_or r 5 0 ≡ g 3
  fifth : get_or r 6 0 ≡ g 4
  sixth : get_or r 7 0 ≡ g 5
  seventh : get_or r 8 0 ≡ g 6

in_three : (b : Bool) (g : ℕ → ℕ) → present (g 2) ≡ b → InThree (row_by b g) g
in_three true g e =
    record { wide = refl; first = refl; second = refl; is_there = sym e; index = λ t. omega arith; good = refl; fourth = refl; fifth = refl; sixth = refl; seventh = refl }
in_three false g e =
    record { wide = refl; first = refl; second = refl; is_there = sym e; index = λ t. absurd (subst T e t); good = refl; fourth = refl; fifth = refl; sixth = refl; seventh = refl }

-- ---- columns

-- a column that is not long
abbrev is_short : Column → Bool
is_short (needed b w) = true
is_short (optional b w) = true
is_short (long b) = false

short-columns : (l : Letter) → is_c l ≡ false → T (all_of is_short (columns l))
short-columns l e = subst (λ (b : Bool). T (b || all_of is_short (columns l))) e (each-letter (λ l. T (is_c l || all_of is_short (columns l))) tt tt tt tt tt tt tt tt tt tt tt tt l)

-- ---- widened tables, whatever the tables
module _ (m : Tables) where
  -- ---- rows and their numbers

  in-three-at : (i : ℕ) → InThree (row_in_three m i) (at_before m letter_c i)
  in-three-at i = in_three (present (at_before m letter_c i 2)) (at_before m letter_c i) refl

  rows-wide : (n : ℕ) → All (λ i. length (row_in_three m i) ≡ 9) (up_to n)
  rows-wide n = all-of (λ i. length (row_in_three m i) ≡ 9) (λ i. (in-three-at i).wide) (up_to n)

  c-cells : length (widened m).c ≡ count_before m letter_c * 9
  unfolding widened
  c-cells =
      even-length 9 (row_in_three m) (up_to (count_before m letter_c)) (rows-wide (count_before m letter_c)) ∙ ap (λ (n : ℕ). n * 9) (up_to-length (count_before m letter_c))

  c-at : (i j : ℕ) → i < count_before m letter_c → j < 9 → at (widened m) letter_c i j ≡ get_or (row_in_three m i) j 0
  unfolding widened
  c-at i j h l =
      row_at 9 (row_in_three m) (up_to (count_before m letter_c)) (rows-wide (count_before m letter_c)) 0 0 i j (rw (up_to-length (count_before m letter_c)) h) l
      ∙ ap (λ (k : ℕ). get_or (row_in_three m k) j 0) (up_to-entry (count_before m letter_c) i 0 h)

  other-table : (l : Letter) → is_c l ≡ false → table (widened m) l ≡ table m l
  unfolding widened
  other-table =
      each-letter (λ l. is_c l ≡ false → table (widened m) l ≡ table m l)
      (λ e. refl) (λ e. absurd (false≢true (sym e))) (λ e. refl) (λ e. refl) (λ e. refl) (λ e. refl) (λ e. refl) (λ e. refl) (λ e. refl) (λ e. refl) (λ e. refl) (λ e. refl)

  other_at : (l : Letter) → is_c l ≡ false → (i j : ℕ) → at (widened m) l i j ≡ at_before m l i j
  other_at l e i j = ap₂ (λ (t : List ℕ) (w : ℕ). get_or t (i * w + j) 0) (other-table l e) (sym (other_width l e))

  counts-kept : (l : Letter) → count (widened m) l ≡ count_before m l
  counts-kept =
      c-or-other (λ l. count (widened m) l ≡ count_before m l)
      (ap (λ (n : ℕ). n / 9) c-cells ∙ mul-div_cancel (count_before m letter_c) (omega arith))
      (λ l e. ap₂ (λ (t : List ℕ) (w : ℕ). length t / w) (other-table l e) (sym (other_width l e)))

  -- tests of rows that agree give the same faults
  rows-kept : (number : ℕ) (l : Letter) (p q : ℕ → Bool) → ((i : ℕ) → i < count_before m l → p i ≡ q i) → row_faults number (widened m) l p ≡ row_faults_before number m l q
  rows-kept number l p q h =
      ap (map (λ i. refusal number (row l i)))
      (ap (λ (n : ℕ). keep p (up_to n)) (counts-kept l) ∙ keep-alike p q (up_to (count_before m l)) (up_to-all (λ i. p i ≡ q i) (count_before m l) h))

  -- ---- 10

  broken-kept : length m.c % 7 ≡ 0 → (l : Letter) → broken_rows (widened m) l ≡ when (not (eqb (length (table m l) % width_before l) 0)) (refusal 10 (row l 0))
  unfolding broken_rows
  broken-kept whole =
      c-or-other (λ l. broken_rows (widened m) l ≡ when (not (eqb (length (table m l) % width_before l) 0)) (refusal 10 (row l 0)))
      (ap (λ (r : ℕ). when (not (eqb r 0)) (refusal 10 (row letter_c 0))) (ap (λ (n : ℕ). n % 9) c-cells ∙ mul-mod_left (count_before m letter_c) 9 ∙ sym whole))
      (λ l e. ap₂ (λ (t : List ℕ) (w : ℕ). when (not (eqb (length t % w) 0)) (refusal 10 (row l 0))) (other-table l e) (sym (other_width l e)))

  many-kept : (l : Letter) → too_many_rows (widened m) l ≡ when (ltb 4096 (count_before m l)) (refusal 10 (row l 4096))
  unfolding too_many_rows
  many-kept l = ap (λ (n : ℕ). when (ltb 4096 n) (refusal 10 (row l 4096))) (counts-kept l)

  names-kept : (k : ℕ) → bad_name (widened m) k ≡ bad_name m k
  unfolding bad_name widened
  names-kept k = refl

  faults10-kept : length m.c % 7 ≡ 0 → faults10 (widened m) ≡ faults10_before m
  unfolding faults10 faults10_before
  faults10-kept whole =
      ap₂ ◌++◌
      (ap₂ ◌++◌
      (λ i. each (λ l. broken-kept whole l i) order)
      (λ i. each (λ l. many-kept l i) order))
      (rows-kept 10 letter_n (bad_name (widened m)) (bad_name m) (λ k h. names-kept k))

  -- ---- 6

  range-kept : (i : ℕ) (w : Meaning) (v : ℕ) → in_range (widened m) i w v ≡ in_range_before m i w v
  range-kept i name v = ap (ltb v) (counts-kept letter_n)
  range-kept i (row_in l) v = ap (ltb v) (counts-kept l)
  range-kept i holder v =
      ap (λ (k : ℕ). ltb v (count (widened m) (holder_letter k))) (other_at letter_e refl i 0) ∙ ap (ltb v) (counts-kept (holder_letter (e_holder_kind m i)))
  range-kept i (below b) v = refl
  range-kept i anything v = refl

  -- a column of one number, wherever it stands now (j) and stood before (k)
  allows-kept : (l : Letter) (i j k : ℕ) (c : Column) → T (is_short c) → at (widened m) l i j ≡ at_before m l i k → allows (widened m) l i j c ≡ allows_before m i c (at_before m l i k)
  allows-kept l i j k (needed b w) t e = ap (in_range (widened m) i w) e ∙ range-kept i w (at_before m l i k)
  allows-kept l i j k (optional b w) t e =
      ap (λ (v : ℕ). not (present v) || in_range (widened m) i w v) e ∙ ap (λ (b : Bool). not (present (at_before m l i k)) || b) (range-kept i w (at_before m l i k))
  allows-kept l i j k (long b) t e = absurd t

  other-allows : (l : Letter) → is_c l ≡ false → (i j : ℕ) (cs : List Column) → T (all_of is_short cs) → allows_from (widened m) l i j cs ≡ allows_from_before m l i j cs
  unfolding allows_from allows_from_before
  other-allows l e i j [] t = refl
  other-allows l e i j (needed b w ∷ cs) t =
      ap₂ ◌&&◌ (allows-kept l i j j (needed b w) tt (other_at l e i j)) (ap (λ (k : ℕ). allows_from (widened m) l i k cs) (add-one j) ∙ other-allows l e i (suc j) cs t)
  other-allows l e i j (optional b w ∷ cs) t =
      ap₂ ◌&&◌ (allows-kept l i j j (optional b w) tt (other_at l e i j)) (ap (λ (k : ℕ). allows_from (widened m) l i k cs) (add-one j) ∙ other-allows l e i (suc j) cs t)
  other-allows l e i j (long b ∷ cs) t = absurd t

  -- any index was allowed, and its three numbers are
  index-allowed : (i : ℕ) → i < count_before m letter_c → allows (widened m) letter_c i 2 (long 20) ≡ allows_before m i (optional 6 anything) (at_before m letter_c i 2)
  index-allowed i h = rw (c-at i 2 h (omega arith), c-at i 3 h (omega arith), c-at i 4 h (omega arith)) ((in-three-at i).good ∙ sym (not-or_self (present (at_before m letter_c i 2))))

  c-allows : (i : ℕ) → i < count_before m letter_c → allows_from (widened m) letter_c i 0 (columns letter_c) ≡ allows_from_before m letter_c i 0 (columns_before letter_c)
  unfolding allows_from allows_from_before
  c-allows i h =
      let r = in-three-at i in
      ap₂ ◌&&◌ (allows-kept letter_c i 0 0 (needed 6 name) tt (c-at i 0 h (omega arith) ∙ r.first))
      (ap₂ ◌&&◌ (allows-kept letter_c i 1 1 (optional 6 (row_in letter_c)) tt (c-at i 1 h (omega arith) ∙ r.second))
      (ap₂ ◌&&◌ (index-allowed i h)
      (ap₂ ◌&&◌ (allows-kept letter_c i 5 3 (needed 6 name) tt (c-at i 5 h (omega arith) ∙ r.fourth))
      (ap₂ ◌&&◌ (allows-kept letter_c i 6 4 (needed 6 name) tt (c-at i 6 h (omega arith) ∙ r.fifth))
      (ap₂ ◌&&◌ (allows-kept letter_c i 7 5 (optional 6 name) tt (c-at i 7 h (omega arith) ∙ r.sixth))
      (ap₂ ◌&&◌ (allows-kept letter_c i 8 6 (needed 6 anything) tt (c-at i 8 h (omega arith) ∙ r.seventh)) refl))))))

  row_kept : (l : Letter) (i : ℕ) → i < count_before m l → bad_row (widened m) l i ≡ not (allows_from_before m l i 0 (columns_before l))
  unfolding bad_row
  row_kept =
      c-or-other (λ l. (i : ℕ) → i < count_before m l → bad_row (widened m) l i ≡ not (allows_from_before m l i 0 (columns_before l)))
      (λ i h. ap not (c-allows i h))
      (λ l e i h. ap not (other-allows l e i 0 (columns l) (short-columns l e) ∙ ap (allows_from_before m l i 0) (other-columns l e)))
    where
      other-columns : (l : Letter) → is_c l ≡ false → columns l ≡ columns_before l
      other-columns l e = rw e

  faults6-kept : faults6 (widened m) ≡ faults6_before m
  unfolding faults6 faults6_before
  faults6-kept =
      λ j. each (λ l. rows-kept 6 l (bad_row (widened m) l) (λ i. not (allows_from_before m l i 0 (columns_before l))) (row_kept l) j) order

  -- ---- 7 and 16

  parent-kept : (i : ℕ) → i < count_before m letter_c → at (widened m) letter_c i 1 ≡ at_before m letter_c i 1
  parent-kept i h = c-at i 1 h (omega arith) ∙ (in-three-at i).second

  place_kept : (i : ℕ) → i < count_before m letter_c → at (widened m) letter_c i 8 ≡ at_before m letter_c i 6
  place_kept i h = c-at i 8 h (omega arith) ∙ (in-three-at i).seventh

  bad-parent-kept : (i : ℕ) → i < count_before m letter_c → bad_parent (widened m) i ≡ bad_parent_before m i
  bad-parent-kept zero h = ap present (parent-kept zero h)
  bad-parent-kept (suc i) h = ap (λ (p : ℕ). not (ltb p (suc i))) (parent-kept (suc i) h)

  faults7-kept : faults7 (widened m) ≡ faults7_before m
  unfolding faults7 faults7_before
  faults7-kept =
      ap₂ ◌++◌ (ap (λ (n : ℕ). when (eqb n 0) (refusal 7 (row letter_c 0))) (counts-kept letter_c))
      (rows-kept 7 letter_c (bad_parent (widened m)) (bad_parent_before m) bad-parent-kept)

  faults16-kept : faults16 (widened m) ≡ faults16_before m
  unfolding faults16 faults16_before clashes
  faults16-kept =
      ap (λ (ks : List Key). map (λ i. refusal 16 (row letter_c i)) (clashes_from [] 0 ks))
      (ap (λ (n : ℕ). map (place_key (widened m)) (up_to n)) (counts-kept letter_c)
      ∙ map_same (place_key (widened m)) (place_key_before m) (up_to (count_before m letter_c))
      (up_to-all (λ i. place_key (widened m) i ≡ place_key_before m i) (count_before m letter_c)
      (λ i h. ap₂ (λ (p q : ℕ). (p ∷ q ∷ []) ∷ []) (parent-kept i h) (place_kept i h))))

  -- ---- 8 and 9 look at no C row

  faults8-kept : faults8 (widened m) ≡ faults8 m
  unfolding faults8 widened
  faults8-kept = refl

  faults9-kept : faults9 (widened m) ≡ faults9 m
  unfolding faults9 clashes key widened
  faults9-kept = refl

  -- WIDENED TABLES ARE REFUSED AS BEFORE, where the C table was of whole rows
  pub refusals-same : length m.c % 7 ≡ 0 → faults (widened m) ≡ faults_before m
  unfolding faults faults_before
  refusals-same whole = rw (faults10-kept whole, faults6-kept, faults7-kept, faults16-kept, faults8-kept, faults9-kept)

  -- ---- THE INDEX of widened tables

  pub index-there : (i : ℕ) → i < count_before m letter_c → has_index (widened m) i ≡ present (at_before m letter_c i 2)
  index-there i h = rw (c-at i 2 h (omega arith)) (in-three-at i).is_there

  pub index_same : (i : ℕ) → i < count_before m letter_c → T (present (at_before m letter_c i 2)) → c_index (widened m) i ≡ at_before m letter_c i 2
  index_same i h t = rw (c-at i 3 h (omega arith), c-at i 4 h (omega arith)) ((in-three-at i).index t)
