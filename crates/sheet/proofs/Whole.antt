-- A sheet that is read: what no fault tells of its lines, and what a caller of the reader builds on. Assumes nothing.
use mathlib.Core.Bool.{Bool, true, false, not, ◌||◌}
use mathlib.Core.List.{List, [], ◌∷◌, ◌++◌, map}
use mathlib.Core.Path.{◌≡◌, refl, sym, ap, subst, ◌∙◌}
use Prim.Native.Nat.{ℕ, suc, ◌+◌, ◌*◌, ◌≤◌, zero-le}
use native.Mathlib.Nat.{zero-mul, zero-add, add-zero}
use native.Mathlib.Omega.{arith}
use borrow.Author.Tests.{leb-true, ltb-false}
use lib.Dec.{eqb, leb, ltb}
use lib.ListN.{length, get_or, length-replicate}
use lib.Seq.{sets}
use Rattle.as5506.specs.Answers.{Refusal, refusal, line, Answer, given, refused, fault, unless_faults}
use Rattle.as5506.specs.Columns.{rank, letter_byte}
use Rattle.as5506.specs.Sheet.{Line, ended, unended, text_of, lines_of, lines_with, is_n, Lent, lent_of, name_bytes, has_place, is_earlier, line_faults, faults_from, sheet_faults, tables_read, read_sheet, table_after, bytes_after}
use Rattle.as5506.specs.Tables.{Tables, Letter, letter_n, letter_c, table, width, c_count}
use Rattle.as5506.specs.Refusals.{faults}
use Rattle.as5506.specs.Listing.{faults_linked}
use Rattle.as5506.specs.Program.{rows_lent, lent as conlist_lent}
use Rattle.as5506.specs.declared.Refusal.{Refusal as Told}
use Rattle.lent.proofs.Padded.{padded-is}
use Rattle.std.proofs.lemmas.Bool.{and_parts}
use Rattle.sheet.proofs.Check.{Good, good, earlier-none, earlier-than}
use Rattle.as5506.proofs.Letters.{each-letter}
use Rattle.sheet.proofs.Letters.{byte-letter}
use Rattle.sheet.proofs.Order.{first-in}
use Rattle.sheet.proofs.Rows.{none-with, own_line, other-line, names-length, whole-rows, lines_split, names-split}
use Rattle.sheet.specs.Read.{sheet_read, ReadInto}
use Rattle.sheet.specs.Steps.{lent_by, texts, in_order, Cleared}
use Rattle.sheet.specs.declared.Counts.{Counts}
use Rattle.std.specs.Prelude.{Result, Ok, Err}
use Rattle.as5506.proofs.Answers.{ok-not-err, unless-given, refused-not}
use Rattle.as5506.proofs.Links.{enough-links}

-- ---- lists of faults that are empty

nil-both : {A : Type 0} (xs ys : List A) → xs ++ ys ≡ [] → (xs ≡ []) × (ys ≡ [])
nil-both [] ys e = (refl, e)
nil-both (x ∷ xs) ys e = (cc, cc)

nil-map : {A B : Type 0} (f : A → B) (xs : List A) → map f xs ≡ [] → xs ≡ []
nil-map f [] e = refl
nil-map f (x ∷ xs) e = cc

-- ---- lines without a fault

module _ (lent : Lent) where
  -- the first of them, and the others
  first_good : (before : List (List ℕ)) (k : ℕ) (s : List ℕ) (ls : List Line) → faults_from lent before k (ended s ∷ ls) ≡ [] → Good lent before s × (faults_from lent (s ∷ before) (suc k) ls ≡ [])
  unfolding faults_from
  first_good before k s ls e =
      let h = nil-both (map (λ n. refusal n (line k)) (line_faults lent before (ended s))) (faults_from lent (s ∷ before) (suc k) ls) e in
      (good lent before s (nil-map (λ n. refusal n (line k)) (line_faults lent before (ended s)) h.0), h.1)

  none-unended : {A : Type 0} (before : List (List ℕ)) (k : ℕ) (s : List ℕ) (ls : List Line) → faults_from lent before k (unended s ∷ ls) ≡ [] → A
  unfolding faults_from line_faults
  none-unended before k s ls e = absurd (let z : ◌≡◌ {A = ℕ} 0 1 = cc in omega arith)

  -- they keep the rules and stand in order
  all-in-order : (last : ℕ) (before : List (List ℕ)) (k : ℕ) (ls : List Line) → ((l : Letter) → is_earlier before l ≡ ltb (rank l) last) → faults_from lent before k ls ≡ [] → in_order last ls ≡ true
  all-in-order last before k [] o e = refl
  all-in-order last before k (unended s ∷ ls) o e = none-unended before k s ls e
  all-in-order last before k (ended s ∷ ls) o e =
      let g = first_good before k s ls e in
      let l = g.0.letter in
      first-in last s ls l g.0.known g.0.rules (ltb-false (rank l) last (sym (o l) ∙ g.0.order))
      (all-in-order (rank l) (s ∷ before) (suc k) ls (earlier-than before s l g.0.known) g.1)

  -- ---- they fit

  -- the place of a line of the letter l, and at N that of its name
  place_of : (before : List (List ℕ)) (l : Letter) (s : List ℕ) → Good lent before s → eqb (get_or s 0 0) (letter_byte l) ≡ true
      → (suc (length (lines_with l before)) * width l ≤ lent.numbers l) × ((not (is_n l) || leb (name_bytes (s ∷ before)) lent.bytes) ≡ true)
  unfolding has_place
  place_of before l s g h =
      let e : g.letter ≡ l = cc (g.known, byte-letter s l h) in
      let b = and_parts (leb (suc (length (lines_with l before)) * width l) (lent.numbers l)) (not (is_n l) || leb (name_bytes (s ∷ before)) lent.bytes)
      (subst (λ (m : Letter). has_place lent before m s ≡ true) e g.place) in
      (leb-true (suc (length (lines_with l before)) * width l) (lent.numbers l) b.0, b.1)

  line-within : (l : Letter) (before : List (List ℕ)) (s : List ℕ) → Good lent before s → length (lines_with l before) * width l ≤ lent.numbers l → length (lines_with l (s ∷ before)) * width l ≤ lent.numbers l
  line-within l before s g h = go (eqb (get_or s 0 0) (letter_byte l)) refl
    where
      go : (t : Bool) → eqb (get_or s 0 0) (letter_byte l) ≡ t → length (lines_with l (s ∷ before)) * width l ≤ lent.numbers l
      go true e = rw (own_line l s before e) (place_of before l s g e).0
      go false e = rw (other-line l s before e) h

  name-within : (before : List (List ℕ)) (s : List ℕ) → Good lent before s → name_bytes before ≤ lent.bytes → name_bytes (s ∷ before) ≤ lent.bytes
  name-within before s g h = go (eqb (get_or s 0 0) (letter_byte letter_n)) refl
    where
      go : (t : Bool) → eqb (get_or s 0 0) (letter_byte letter_n) ≡ t → name_bytes (s ∷ before) ≤ lent.bytes
      go true e = leb-true (name_bytes (s ∷ before)) lent.bytes (place_of before letter_n s g e).1
      go false e = rw (other-line letter_n s before e) h

  rows-within : (l : Letter) (before : List (List ℕ)) (k : ℕ) (ls : List Line) → faults_from lent before k ls ≡ [] → length (lines_with l before) * width l ≤ lent.numbers l
      → (length (lines_with l before) + length (lines_with l (map text_of ls))) * width l ≤ lent.numbers l
  rows-within l before k [] e h = rw (none-with l, add-zero (length (lines_with l before))) h
  rows-within l before k (unended s ∷ ls) e h = none-unended before k s ls e
  rows-within l before k (ended s ∷ ls) e h =
      let g = first_good before k s ls e in
      let same : length (lines_with l (s ∷ before)) + length (lines_with l (map text_of ls)) ≡ length (lines_with l before) + length (lines_with l (s ∷ map text_of ls)) =
      omega (arith, lines_split l s before, lines_split l s (map text_of ls)) in
      subst (λ (n : ℕ). n * width l ≤ lent.numbers l) same (rows-within l (s ∷ before) (suc k) ls g.1 (line-within l before s g.0 h))

  names-within : (before : List (List ℕ)) (k : ℕ) (ls : List Line) → faults_from lent before k ls ≡ [] → name_bytes before ≤ lent.bytes → name_bytes before + name_bytes (map text_of ls) ≤ lent.bytes
  names-within before k [] e h = rw (none-with letter_n, add-zero (name_bytes before)) h
  names-within before k (unended s ∷ ls) e h = none-unended before k s ls e
  names-within before k (ended s ∷ ls) e h =
      let g = first_good before k s ls e in
      omega (arith, names-within (s ∷ before) (suc k) ls g.1 (name-within before s g.0 h), names-split s before, names-split s (map text_of ls))

-- ---- a sheet without a fault

module _ (lent : Lent) (s : List ℕ) (none : sheet_faults lent s ≡ []) where
  lines_none : faults_from lent [] 1 (lines_of s) ≡ []
  unfolding sheet_faults
  lines_none = (nil-both (fault 1 (ltb 16384 (length s))) (faults_from lent [] 1 (lines_of s)) none).1

  pub sheet-short : length s ≤ 16384
  unfolding sheet_faults
  sheet-short = go (ltb 16384 (length s)) refl (nil-both (fault 1 (ltb 16384 (length s))) (faults_from lent [] 1 (lines_of s)) none).0
    where
      go : (t : Bool) → ltb 16384 (length s) ≡ t → fault 1 t ≡ [] → length s ≤ 16384
      go true e f = absurd (let z : ◌≡◌ {A = ℕ} 0 1 = cc in omega arith)
      go false e f = ltb-false 16384 (length s) e

  pub sheet-in-order : in_order 0 (lines_of s) ≡ true
  sheet-in-order = all-in-order lent 0 [] 1 (lines_of s) earlier-none lines_none

  pub read_is : read_sheet lent s ≡ given (tables_read (texts s))
  unfolding read_sheet
  read_is = rw none

  -- EVERY TABLE OF A SHEET THAT IS READ FITS WHAT IS LENT FOR IT, AND SO DO THE NAMES
  pub table_fits : (l : Letter) → length (table (tables_read (texts s)) l) ≤ lent.numbers l
  unfolding lines_with
  table_fits l =
      rw (whole-rows (texts s) l, ← zero-add (length (lines_with l (texts s))))
      (rows-within lent l [] 1 (lines_of s) lines_none (rw (zero-mul (width l)) zero-le))

  pub bytes_fit : length (tables_read (texts s)).bytes ≤ lent.bytes
  unfolding tables_read lines_with
  bytes_fit = omega (arith, names-length (lines_with letter_n (texts s)), names-within lent [] 1 (lines_of s) lines_none zero-le)

-- 02 (xiii), "No other answer changes": the links that conlist lends are enough for every sheet that it reads, so 22 refuses none
pub enough-lent : (s : List ℕ) (m : Tables) → read_sheet conlist_lent s ≡ given m → faults_linked (rows_lent false) m ≡ faults m
unfolding read_sheet
enough-lent s m e = enough-links (rows_lent false) m (go (sheet_faults conlist_lent s) refl e)
  where
    go : (rs : List Refusal) → sheet_faults conlist_lent s ≡ rs → unless_faults rs (tables_read (texts s)) ≡ given m → c_count m ≤ rows_lent false
    go [] none f = rw (unless-given [] (tables_read (texts s)) m f) (omega (arith, table_fits conlist_lent s none letter_c))
    go (r ∷ rs) none f = absurd (refused-not r m f)

-- ---- the end of a call

-- what is lent, as the code counts it
pub lent_is : (m : Tables)
    → lent_by (record { bytes = length m.bytes; numbers = length m.n ∷ length m.c ∷ length m.f ∷ length m.x ∷ length m.p ∷ length m.i ∷ length m.t ∷ length m.q ∷ length m.u ∷ length m.e ∷ length m.r ∷ length m.m ∷ [] }) ≡ lent_of m
lent_is m = λ i. record { bytes = length m.bytes; numbers = λ l. each-letter (λ l. get_or (length m.n ∷ length m.c ∷ length m.f ∷ length m.x ∷ length m.p ∷ length m.i ∷ length m.t ∷ length m.q ∷ length m.u ∷ length m.e ∷ length m.r ∷ length m.m ∷ []) (rank l) 0 ≡ length (table m l)) refl refl refl refl refl refl refl refl refl refl refl refl l i }

-- a sheet that is read has no fault
pub no-fault : (lent : Lent) (s : List ℕ) (counts : Counts) → sheet_read (read_sheet lent s) ≡ Ok counts → sheet_faults lent s ≡ []
unfolding read_sheet
no-fault lent s counts e = go (sheet_faults lent s) e
  where
    go : (rs : List Refusal) → sheet_read (unless_faults rs (tables_read (texts s))) ≡ Ok counts → rs ≡ []
    go [] e = refl
    go (r ∷ rs) e = absurd (ok-not-err _ _ (sym e))

module _ (before cleared : Tables) (zeroed : Cleared before cleared) (s : List ℕ) (z : Result Counts Told) (e : z ≡ sheet_read (read_sheet (lent_of before) s)) where
  -- "A refusal leaves zeros in the reader's tables"
  pub refused-into : (r : Told) → z ≡ Err r → ReadInto before s z cleared
  unfolding table_after bytes_after
  refused-into r h = record { answer = e; bytes = (go (read_sheet (lent_of before) s) e).0; tables = (go (read_sheet (lent_of before) s) e).1 }
    where
      go : (a : Answer Tables) → z ≡ sheet_read a → (cleared.bytes ≡ bytes_after (lent_of before) a) × ((l : Letter) → table cleared l ≡ table_after (lent_of before) l a)
      go (given m) e = absurd (ok-not-err _ _ (sym e ∙ h))
      go (refused r) e = (zeroed.bytes, zeroed.tables)

  module _ (none : sheet_faults (lent_of before) s ≡ []) where
    -- what is read fits the cleared tables
    pub cleared-fits : (l : Letter) → length (table (tables_read (texts s)) l) ≤ length (table cleared l)
    cleared-fits l = rw (zeroed.tables l, length-replicate {A = ℕ} (length (table before l)) 0) (table_fits (lent_of before) s none l)

    pub cleared-bytes : length (tables_read (texts s)).bytes ≤ length cleared.bytes
    cleared-bytes = rw (zeroed.bytes, length-replicate {A = ℕ} (length before.bytes) 0) (bytes_fit (lent_of before) s none)

    -- the tables, written from the front of zeros
    pub read-into : (after : Tables) → after.bytes ≡ sets cleared.bytes 0 (tables_read (texts s)).bytes
        → ((l : Letter) → table after l ≡ sets (table cleared l) 0 (table (tables_read (texts s)) l))
        → ReadInto before s z after
    unfolding table_after bytes_after
    read-into after bs ts =
        let r = read_is (lent_of before) s none in
        record {
          answer = e;
          bytes = bs ∙ ap (λ (t : List ℕ). sets t 0 (tables_read (texts s)).bytes) zeroed.bytes
              ∙ padded-is (length before.bytes) (tables_read (texts s)).bytes (bytes_fit (lent_of before) s none) ∙ ap (bytes_after (lent_of before)) (sym r);
          tables = λ l. ts l ∙ ap (λ (t : List ℕ). sets t 0 (table (tables_read (texts s)) l)) (zeroed.tables l)
              ∙ padded-is (length (table before l)) (table (tables_read (texts s)) l) (table_fits (lent_of before) s none l) ∙ ap (table_after (lent_of before) l) (sym r);
        }
