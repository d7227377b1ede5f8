-- A sheet's lines written before, with the array index in six columns, once they are padded (02 (ii)): their rows and their refusals. Assumes nothing.
use mathlib.Core.Bool.{Bool, true, false, not, ◌&&◌, ◌||◌}
use mathlib.Core.Path.{◌≡◌, refl, sym, ap, ap₂, ◌∙◌, subst}
use mathlib.Core.List.{List, [], ◌∷◌, ◌++◌, map, append_assoc}
use Prim.Native.Nat.{ℕ, suc, ◌+◌, ◌*◌, ◌<◌}
use native.Mathlib.Nat.{mod-eq_of_lt, div-eq_of_lt, le_trans, le-div_iff_mul-le}
use native.Mathlib.Omega.{arith}
use borrow.Author.Tests.{ne_eqb, eq-eqb, eqb-true, eqb-false}
use lib.Dec.{T, eqb, leb, eqb→eq, leb→le, le→leb}
use lib.ListN.{length, get_or, take, drop, replicate, length-append, length-map, length-drop, take-append-drop}
use lib.Seq.{length-take-le}
use Rattle.std.specs.Prelude.{Option, None, Some}
use Rattle.as5506.specs.Lists.{put_if, when, is_nil, total}
use Rattle.as5506.specs.Tables.{missing, two_to32, Letter, letter_n, letter_c, width}
use Rattle.as5506.specs.Columns.{letter_byte, name, row_in, anything, Column, needed, optional, long, columns}
use Rattle.as5506.specs.Answers.{refusal, line}
use Rattle.as5506.specs.Fields.{space, Field, value, dash, bad, field_of, fits, number_of, long_numbers, fields_fit, field_numbers}
use Rattle.as5506.specs.Sheet.{Line, ended, unended, text_of, letter_of, lines_with, line_name, line_row, is_n, rules_by, keeps_rules, Lent, name_bytes, has_place, earlier_than, is_earlier, known_faults, line_faults, faults_from}
use Rattle.as5506.specs.Before.{is_c, columns_if, columns_before, width_before, has_place_before, known_before, line_faults_before, lines_faults_before, pad_by, padded_line, in_three, NoFewer}
use Rattle.as5506.proofs.Laws.{All, all_map, all-passing, map-own, and_left, and_right, and_both, not-not, nil-left, nil-right, nil-both, nil-when, nil-mapped, mapped-nil}
use Rattle.as5506.proofs.Letters.{each-letter, width_some, letter-byte, byte-letter}
use Rattle.as5506.proofs.Fields.{Below, small-field, padded-field, numbers-parts, fit_parts}
use Rattle.as5506.proofs.Widened.{c-or-other}

-- ---- the index

-- the three numbers of a number below a million, or of none, are those of the one number of before
three-kept : (f : Field) → Below 1000000 f → T (fits (optional 6 anything) f) → long_numbers f ≡ in_three (number_of f)
three-kept (value v) h t = rw (div-eq_of_lt {n = v} {m = two_to32} (omega arith), mod-eq_of_lt {n = v} {m = two_to32} (omega arith), ne_eqb v missing (λ e. omega arith))
three-kept dash h t = refl
three-kept bad h t = absurd t

-- what could stand in the field can stand in the padded one, and nothing else
long-fits : (f : Field) → fits (long 20) f ≡ fits (optional 6 anything) f
long-fits (value v) = refl
long-fits dash = refl
long-fits bad = refl

-- ---- the bytes of a C line behind its letter: the two fields before the index, the index, the four behind it

abbrev front : List Column
front = needed 6 name ∷ optional 6 (row_in letter_c) ∷ []

abbrev behind : List Column
behind = needed 6 name ∷ needed 6 name ∷ optional 6 name ∷ needed 6 anything ∷ []

abbrev spaces : List ℕ
spaces = replicate 14 space

-- a row of seven numbers in nine: the index in three
abbrev pub in_nine : List ℕ → List ℕ
in_nine (a ∷ b ∷ v ∷ r) = a ∷ b ∷ (in_three v ++ r)
in_nine (a ∷ b ∷ []) = []
in_nine (a ∷ []) = []
in_nine [] = []

module _ (s : List ℕ) (is_line : length s ≡ 42) where
  -- its parts
  abbrev first12 : List ℕ
  first12 = take 12 s

  abbrev index6 : List ℕ
  index6 = take 6 (drop 12 s)

  abbrev last24 : List ℕ
  last24 = drop 6 (drop 12 s)

  abbrev padded12 : List ℕ
  padded12 = take 12 s ++ spaces ++ drop 12 s

  is-12 : length first12 ≡ 12
  is-12 = length-take-le 12 s (omega arith)

  is-6 : length index6 ≡ 6
  is-6 = length-take-le 6 (drop 12 s) (omega (arith, length-drop 12 s))

  is-20 : length (spaces ++ index6) ≡ 20
  is-20 = omega (arith, length-append spaces index6, is-6)

  before-parts : s ≡ first12 ++ (index6 ++ last24)
  before-parts = sym (take-append-drop 12 s) ∙ ap (λ (r : List ℕ). first12 ++ r) (sym (take-append-drop 6 (drop 12 s)))

  now-parts : padded12 ≡ first12 ++ ((spaces ++ index6) ++ last24)
  now-parts =
      append_assoc first12 spaces (drop 12 s)
      ∙ ap (λ (r : List ℕ). first12 ++ r) (ap (λ (r : List ℕ). spaces ++ r) (sym (take-append-drop 6 (drop 12 s))) ∙ sym (append_assoc spaces index6 last24))

  before-numbers : field_numbers (columns_before letter_c) s ≡ field_numbers front first12 ++ (number_of (field_of index6) ∷ field_numbers behind last24)
  before-numbers = ap (field_numbers (columns_before letter_c)) before-parts ∙ numbers-parts front (optional 6 anything) behind first12 index6 last24 is-12 is-6

  now-numbers : field_numbers (columns letter_c) padded12 ≡ field_numbers front first12 ++ (long_numbers (field_of index6) ++ field_numbers behind last24)
  now-numbers =
      ap (field_numbers (columns letter_c)) now-parts
      ∙ numbers-parts front (long 20) behind first12 (spaces ++ index6) last24 is-12 is-20
      ∙ ap (λ (f : Field). field_numbers front first12 ++ (long_numbers f ++ field_numbers behind last24)) (padded-field 14 index6)

  before-fit : fields_fit (columns_before letter_c) s ≡ fields_fit front first12 && (fits (optional 6 anything) (field_of index6) && fields_fit behind last24)
  before-fit = ap (fields_fit (columns_before letter_c)) before-parts ∙ fit_parts front (optional 6 anything) behind first12 index6 last24 is-12 is-6

  -- padded, the fields keep their rules exactly if they did
  fit-kept : fields_fit (columns letter_c) padded12 ≡ fields_fit (columns_before letter_c) s
  fit-kept =
      ap (fields_fit (columns letter_c)) now-parts
      ∙ fit_parts front (long 20) behind first12 (spaces ++ index6) last24 is-12 is-20
      ∙ ap (λ (b : Bool). fields_fit front first12 && (b && fields_fit behind last24)) (ap (fits (long 20)) (padded-field 14 index6) ∙ long-fits (field_of index6))
      ∙ sym before-fit

  -- and their numbers are those of before, in nine
  numbers-kept : T (fields_fit (columns_before letter_c) s) → field_numbers (columns letter_c) padded12 ≡ in_nine (field_numbers (columns_before letter_c) s)
  unfolding field_numbers
  numbers-kept t =
      now-numbers
      ∙ ap (λ (r : List ℕ). field_numbers front first12 ++ (r ++ field_numbers behind last24)) (three-kept (field_of index6) (small-field index6 (omega (arith, is-6))) index-fits)
      ∙ sym (ap in_nine before-numbers)
    where
      index-fits : T (fits (optional 6 anything) (field_of index6))
      index-fits =
          and_left (fits (optional 6 anything) (field_of index6)) (fields_fit behind last24)
          (and_right (fields_fit front first12) (fits (optional 6 anything) (field_of index6) && fields_fit behind last24) (subst T before-fit t))

-- ---- a C line: its rules and its row, before

abbrev pub rules_c : List ℕ → Bool
rules_c t = rules_by false (columns_before letter_c) t

abbrev pub row_before : List ℕ → List ℕ
row_before t = field_numbers (columns_before letter_c) (drop 1 t)

padded-length : (s : List ℕ) → length (take 12 s ++ spaces ++ drop 12 s) ≡ 14 + length s
padded-length s =
    omega (arith, length-append (take 12 s ++ spaces) (drop 12 s), length-append (take 12 s) spaces, length-append (take 12 s) (drop 12 s), ap length (take-append-drop 12 s))

-- padded, it keeps the rules exactly if it did
rules-c : (t : List ℕ) → rules_by false (columns letter_c) (pad_by true t) ≡ rules_c t
rules-c [] = refl
rules-c (x ∷ s) = go (eqb (suc (length s)) 43) refl
  where
    go : (b : Bool) → eqb (suc (length s)) 43 ≡ b → rules_by false (columns letter_c) (pad_by true (x ∷ s)) ≡ b && fields_fit (columns_before letter_c) s
    go true e =
        let l : length s ≡ 42 = omega (arith, eqb-true (suc (length s)) 43 e) in
        ap₂ ◌&&◌ (eq-eqb (suc (length (take 12 s ++ spaces ++ drop 12 s))) 57 (omega (arith, padded-length s))) (fit-kept s l)
    go false e =
        ap (λ (b : Bool). b && fields_fit (columns letter_c) (take 12 s ++ spaces ++ drop 12 s))
        (ne_eqb (suc (length (take 12 s ++ spaces ++ drop 12 s))) 57 (λ f. eqb-false (suc (length s)) 43 e (omega (arith, padded-length s))))

-- and then its row is that of before, in nine
row-c : (t : List ℕ) → T (rules_c t) → line_row letter_c (pad_by true t) ≡ in_nine (row_before t)
row-c [] u = absurd u
row-c (x ∷ s) u =
    numbers-kept s (omega (arith, eqb→eq (suc (length s)) 43 (and_left (eqb (suc (length s)) 43) (fields_fit (columns_before letter_c) s) u)))
    (and_right (eqb (suc (length s)) 43) (fields_fit (columns_before letter_c) s) u)

-- ---- letters

width-before-some : (l : Letter) → 0 < width_before l
width-before-some = c-or-other (λ l. 0 < width_before l) (omega arith) (λ l e. rw e (width_some l))

other_byte : (l : Letter) → is_c l ≡ false → eqb (letter_byte l) (letter_byte letter_c) ≡ false
other_byte l e = each-letter (λ l. eqb (letter_byte l) (letter_byte letter_c) ≡ is_c l) refl refl refl refl refl refl refl refl refl refl refl refl l ∙ e

-- ---- a padded line: it begins as before, and only a C line has changed

begins-by : (c : Bool) (b : ℕ) (bs : List ℕ) → (get_or (pad_by c (b ∷ bs)) 0 0 ≡ b) × (letter_of (pad_by c (b ∷ bs)) ≡ letter_of (b ∷ bs))
unfolding letter_of
begins-by true b bs = (refl, refl)
begins-by false b bs = (refl, refl)

head-padded : (t : List ℕ) → get_or (padded_line t) 0 0 ≡ get_or t 0 0
head-padded [] = refl
head-padded (b ∷ bs) = (begins-by (eqb b (letter_byte letter_c)) b bs).0

letter-padded : (t : List ℕ) → letter_of (padded_line t) ≡ letter_of t
letter-padded [] = refl
letter-padded (b ∷ bs) = (begins-by (eqb b (letter_byte letter_c)) b bs).1

pad-c : (t : List ℕ) → get_or t 0 0 ≡ letter_byte letter_c → padded_line t ≡ pad_by true t
pad-c t e = rw e

pad-other : (l : Letter) → is_c l ≡ false → (t : List ℕ) → get_or t 0 0 ≡ letter_byte l → padded_line t ≡ t
pad-other l e t h = ap (λ (b : Bool). pad_by b t) (ap (λ (b : ℕ). eqb b (letter_byte letter_c)) h ∙ other_byte l e)

-- ---- the lines of a letter

pub lines-padded : (l : Letter) (ls : List (List ℕ)) → lines_with l (map padded_line ls) ≡ map padded_line (lines_with l ls)
unfolding lines_with
lines-padded l [] = refl
lines-padded l (s ∷ ls) =
    ap (λ (h : ℕ). put_if (eqb h (letter_byte l)) (padded_line s) (lines_with l (map padded_line ls))) (head-padded s) ∙ go (eqb (get_or s 0 0) (letter_byte l)) (lines-padded l ls)
  where
    go : (b : Bool) → lines_with l (map padded_line ls) ≡ map padded_line (lines_with l ls) → put_if b (padded_line s) (lines_with l (map padded_line ls)) ≡ map padded_line (put_if b s (lines_with l ls))
    go true e = ap (λ (r : List (List ℕ)). padded_line s ∷ r) e
    go false e = e

lines-begin : (l : Letter) (ls : List (List ℕ)) → All (λ s. get_or s 0 0 ≡ letter_byte l) (lines_with l ls)
unfolding lines_with
lines-begin l ls = all-passing (λ s. get_or s 0 0 ≡ letter_byte l) (λ s. eqb (get_or s 0 0) (letter_byte l)) (λ s t. eqb→eq (get_or s 0 0) (letter_byte l) t) ls

pub lines_other : (l : Letter) → is_c l ≡ false → (ls : List (List ℕ)) → lines_with l (map padded_line ls) ≡ lines_with l ls
lines_other l e ls =
    lines-padded l ls
    ∙ map-own padded_line (lines_with l ls) (all_map (λ s. get_or s 0 0 ≡ letter_byte l) (λ s. padded_line s ≡ s) (pad-other l e) (lines_with l ls) (lines-begin l ls))

lines-length : (l : Letter) (ls : List (List ℕ)) → length (lines_with l (map padded_line ls)) ≡ length (lines_with l ls)
lines-length l ls = ap length (lines-padded l ls) ∙ length-map (lines_with l ls) padded_line

-- ---- refusals of a line: 4, 3, 5

rules-kept : (t : List ℕ) (l : Letter) → get_or t 0 0 ≡ letter_byte l → keeps_rules l (padded_line t) ≡ rules_by (is_n l) (columns_before l) t
unfolding keeps_rules
rules-kept t =
    c-or-other (λ l. get_or t 0 0 ≡ letter_byte l → keeps_rules l (padded_line t) ≡ rules_by (is_n l) (columns_before l) t)
    (λ h. ap (rules_by false (columns letter_c)) (pad-c t h) ∙ rules-c t)
    (λ l e h. ap₂ (λ (b : Bool) (s : List ℕ). rules_by (is_n l) (columns_if b l) s) (sym e) (pad-other l e t h))

earlier-kept : (before : List (List ℕ)) (l : Letter) → is_earlier (map padded_line before) l ≡ is_earlier before l
unfolding is_earlier
earlier-kept [] l = refl
earlier-kept (b ∷ bs) l = ap (λ (o : Option Letter). earlier_than o l) (letter-padded b)

module _ (was now : Lent) (many : NoFewer was now) where
  -- a row that had its place has it, and so have the bytes of a name
  row-place : (before : List (List ℕ)) (l : Letter) → T (leb (suc (length (lines_with l before)) * width_before l) (was.numbers l))
      → T (leb (suc (length (lines_with l (map padded_line before))) * width l) (now.numbers l))
  row-place before l u =
      let n = suc (length (lines_with l before)) in
      rw (lines-length l before)
      (le→leb (n * width l) (now.numbers l)
      ((le-div_iff_mul-le (width_some l)).0
      (le_trans ((le-div_iff_mul-le (width-before-some l)).1 (leb→le (n * width_before l) (was.numbers l) u)) (many.rows l))))

  bytes-place : (before : List (List ℕ)) (t : List ℕ) (b : Bool) → T (b || leb (name_bytes (t ∷ before)) was.bytes) → T (b || leb (name_bytes (padded_line t ∷ map padded_line before)) now.bytes)
  bytes-place before t true u = tt
  bytes-place before t false u =
      rw (ap (total (λ s. length (line_name s))) (lines_other letter_n refl (t ∷ before)))
      (le→leb (name_bytes (t ∷ before)) now.bytes (le_trans (leb→le (name_bytes (t ∷ before)) was.bytes u) many.bytes))

  place_kept : (before : List (List ℕ)) (t : List ℕ) (l : Letter) → T (has_place_before was before l t) → T (has_place now (map padded_line before) l (padded_line t))
  unfolding has_place has_place_before
  place_kept before t l u =
      let row = leb (suc (length (lines_with l before)) * width_before l) (was.numbers l) in
      let bytes = not (is_n l) || leb (name_bytes (t ∷ before)) was.bytes in
      and_both (leb (suc (length (lines_with l (map padded_line before))) * width l) (now.numbers l)) (not (is_n l) || leb (name_bytes (padded_line t ∷ map padded_line before)) now.bytes)
      (row-place before l (and_left row bytes u)) (bytes-place before t (not (is_n l)) (and_right row bytes u))

  -- no refusal where another test says the same, and a third holds where it held
  none_left : (a b c d : Bool) → (T c → T d) → T (is_nil {A = ℕ} (when a 3 ++ when (not b) 4 ++ when (not c) 5)) → T (is_nil {A = ℕ} (when a 3 ++ when (not b) 4 ++ when (not d) 5))
  none_left true b c d h u = absurd u
  none_left false false c d h u = absurd u
  none_left false true false d h u = absurd u
  none_left false true true true h u = tt
  none_left false true true false h u = absurd (h tt)

  known_kept : (before : List (List ℕ)) (t : List ℕ) (o : Option Letter) → letter_of t ≡ o → T (is_nil (known_before was before t o)) → T (is_nil (known_faults now (map padded_line before) (padded_line t) o))
  known_kept before t None e u = absurd u
  known_kept before t (Some l) e u =
      rw (earlier-kept before l, rules-kept t l (letter-byte t l e))
      (none_left (is_earlier before l) (rules_by (is_n l) (columns_before l) t) (has_place_before was before l t) (has_place now (map padded_line before) l (padded_line t)) (place_kept before t l) u)

  -- PADDED LINES ARE NOT REFUSED WHERE THEY WERE NOT, if no fewer rows are lent
  pub lines-kept : (before : List (List ℕ)) (k : ℕ) (ts : List (List ℕ)) → T (is_nil (lines_faults_before was before k (map ended ts)))
      → T (is_nil (faults_from now (map padded_line before) k (map ended (map padded_line ts))))
  unfolding faults_from line_faults lines_faults_before line_faults_before
  lines-kept before k [] u = tt
  lines-kept before k (t ∷ ts) u =
      let old = known_before was before t (letter_of t) in
      let here = map (λ n. refusal n (line k)) old in
      let later = lines_faults_before was (t ∷ before) (suc k) (map ended ts) in
      rw (letter-padded t)
      (nil-both (map (λ n. refusal n (line k)) (known_faults now (map padded_line before) (padded_line t) (letter_of t))) (faults_from now (map padded_line (t ∷ before)) (suc k) (map ended (map padded_line ts)))
      (mapped-nil (λ n. refusal n (line k)) (known_faults now (map padded_line before) (padded_line t) (letter_of t)) (known_kept before t (letter_of t) refl (nil-mapped (λ n. refusal n (line k)) old (nil-left here later u))))
      (lines-kept (t ∷ before) (suc k) ts (nil-right here later u)))

-- ---- lines that were not refused

-- if it is a C line, it keeps the rules of before
abbrev pub Fine : List ℕ → Type 0
Fine t = get_or t 0 0 ≡ letter_byte letter_c → T (rules_c t)

-- THE ROW OF SUCH A C LINE, padded, is that of before, in nine
pub row-padded : (t : List ℕ) → get_or t 0 0 ≡ letter_byte letter_c → Fine t → line_row letter_c (padded_line t) ≡ in_nine (row_before t)
row-padded t h fine = ap (line_row letter_c) (pad-c t h) ∙ row-c t (fine h)

module _ (lent : Lent) where
  line-fine : (before : List (List ℕ)) (t : List ℕ) → T (is_nil (known_before lent before t (letter_of t))) → Fine t
  line-fine before t u h =
      not-not (rules_c t)
      (nil-when (not (rules_c t)) 4
      (nil-right (when (is_earlier before letter_c) 3) (when (not (rules_c t)) 4)
      (nil-left (when (is_earlier before letter_c) 3 ++ when (not (rules_c t)) 4) (when (not (has_place_before lent before letter_c t)) 5)
      (subst (λ (o : Option Letter). T (is_nil (known_before lent before t o))) (byte-letter t letter_c h) u))))

  -- each has its LF, and the C lines keep the rules
  pub lines-fine : (before : List (List ℕ)) (k : ℕ) (ls : List Line) → T (is_nil (lines_faults_before lent before k ls)) → (ls ≡ map ended (map text_of ls)) × All Fine (map text_of ls)
  unfolding lines_faults_before line_faults_before
  lines-fine before k [] u = (refl, tt)
  lines-fine before k (unended t ∷ ls) u = absurd u
  lines-fine before k (ended t ∷ ls) u =
      let here = map (λ n. refusal n (line k)) (known_before lent before t (letter_of t)) in
      let later = lines_faults_before lent (t ∷ before) (suc k) ls in
      let rest = lines-fine (t ∷ before) (suc k) ls (nil-right here later u) in (
        ap (λ (r : List Line). ended t ∷ r) rest.0,
        (line-fine before t (nil-mapped (λ n. refusal n (line k)) (known_before lent before t (letter_of t)) (nil-left here later u)), rest.1),
      )
