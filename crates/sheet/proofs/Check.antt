-- The check: what each way through it says of the definition's faults, and what a line without fault is. Assumes nothing.
use mathlib.Core.Bool.{Bool, true, false, not, ◌&&◌, ◌||◌}
use mathlib.Core.List.{List, [], ◌∷◌, ◌++◌, map, reverse, reverse_aux}
use mathlib.Core.Path.{◌≡◌, refl, sym, ap, ap₂, subst, ◌∙◌}
use Prim.Native.Nat.{ℕ, suc, ◌+◌, ◌-◌, ◌*◌, ◌/◌, ◌≤◌, ◌<◌}
use native.Mathlib.Decide.{ℕ_discrete}
use native.Mathlib.Nat.{suc-mul, zero-mul}
use native.Mathlib.Omega.{arith}
use borrow.Author.Tests.{eqb-true, leb-true, eq-eqb, ne_eqb, le-ltb, lt-ltb}
use lib.Dec.{eqb, leb, ltb, leb-suc-zero}
use lib.ListN.{length, get_or, set, take, drop, length-drop}
use lib.Seq.{get_or-set_same, get_or-set_other, take_all}
use Rattle.as5506.specs.Answers.{refusal, line, told, unless_faults}
use Rattle.as5506.specs.Columns.{rank, Column, columns, letter_count, line_bytes}
use Rattle.as5506.specs.Fields.{space, fields_fit}
use Rattle.as5506.specs.Lists.{when, first_of, all_of, total}
use Rattle.as5506.specs.Names.{name_byte, good_name}
use Rattle.as5506.specs.Sheet.{Line, ended, unended, text_of, letter_of, lines_of, lines_with, line_name, keeps_rules, Lent, name_bytes, has_place, earlier_than, is_earlier, known_faults, line_faults, faults_from, sheet_faults, tables_read, read_sheet}
use Rattle.as5506.specs.Tables.{Letter, letter_n, letter_c, letter_f, letter_x, letter_p, letter_i, letter_t, letter_q, letter_u, letter_e, letter_r, letter_m, width, count}
use Rattle.sheet.proofs.Letters.{rank_below, rank-at, letter-is, letter-below, widths, width-at, same-letter, width-bytes, letter-byte, other_byte}
use Rattle.sheet.proofs.Rows.{own_line, other-line, names-length, whole-rows, lines-turned, names-turned}
use Rattle.sheet.specs.Read.{counts_of, sheet_read}
use Rattle.sheet.specs.Steps.{letter_at, FormOf, place_of, lent_by, has_room, Small, Counted, answer_from}
use Rattle.sheet.specs.declared.Form.{Form}
use Rattle.sheet.specs.declared.Sizes.{Sizes}
use Rattle.sheet.specs.declared.Seen.{Seen}
use Rattle.as5506.specs.declared.Refusal.{Refusal as Told}
use Rattle.std.specs.Prelude.{Ok, Err, Option, Some, None}
use Rattle.std.proofs.lemmas.Option.{none-some, same_Some}
use Rattle.std.proofs.lemmas.Bool.{and_parts}
use Rattle.fields.specs.Fields.{columns_of}
use Rattle.fields.proofs.Laws.{plain-fits}

-- ---- no. 4

module _ (s : List ℕ) where
  pub name_short : length s < 2 → keeps_rules letter_n s ≡ false
  unfolding keeps_rules
  name_short h = go s h
    where
      go : (s : List ℕ) → length s < 2 → (eqb (get_or s 1 0) space && good_name (line_name s)) ≡ false
      go [] h = refl
      go (a ∷ []) h = refl
      go (a ∷ b ∷ s) h = absurd (omega arith)

  pub name_spaced : 2 ≤ length s → get_or s 1 0 ≡ 32 → keeps_rules letter_n s ≡ good_name (take (length s - 2) (drop 2 s))
  unfolding keeps_rules
  name_spaced h e = rw (eq-eqb (get_or s 1 0) space e, take_all (length s - 2) (drop 2 s) (omega (arith, length-drop 2 s)))

  pub name_unspaced : (get_or s 1 0 ≡ 32 → ⊥) → keeps_rules letter_n s ≡ false
  unfolding keeps_rules
  name_unspaced z = rw (ne_eqb (get_or s 1 0) space z)

  module _ (l : Letter) (z : rank l ≡ 0 → ⊥) where
    pub row-rules : keeps_rules l s ≡ (eqb (length s) (1 + line_bytes (columns l)) && fields_fit (columns l) (drop 1 s))
    unfolding keeps_rules
    row-rules = rw (ne_eqb (rank l) 0 z)

    -- a row that keeps the rules is as long as they say
    pub row-size : keeps_rules l s ≡ true → length s ≡ 1 + line_bytes (columns l)
    row-size e = eqb-true (length s) (1 + line_bytes (columns l)) (and_parts (eqb (length s) (1 + line_bytes (columns l))) (fields_fit (columns l) (drop 1 s)) (sym row-rules ∙ e)).0

  -- a name that keeps the rules has 1 to 63 bytes
  pub name-size : keeps_rules letter_n s ≡ true → (3 ≤ length s) × (length s ≤ 65)
  unfolding keeps_rules good_name
  name-size e =
      let g = (and_parts (eqb (get_or s 1 0) space) (good_name (line_name s)) e).1 in
      let a = and_parts (leb 1 (length (line_name s))) (leb (length (line_name s)) 63 && all_of name_byte (line_name s)) g in
      let b = and_parts (leb (length (line_name s)) 63) (all_of name_byte (line_name s)) a.1 in
      let d = length-drop 2 s in
      (omega (arith, leb-true 1 (length (line_name s)) a.0), omega (arith, leb-true (length (line_name s)) 63 b.0))

-- a line that keeps the rules is longer than its row
pub row-shorter : (s : List ℕ) (l : Letter) → keeps_rules l s ≡ true → width l < length s
row-shorter s l e =
    elim (ℕ_discrete (rank l) 0) [
      | yes z ↦ subst (λ (m : Letter). width m < length s) (sym (same-letter l letter_n z))
          (let n = name-size s (subst (λ (m : Letter). keeps_rules m s ≡ true) (same-letter l letter_n z) e) in omega arith)
      | no z ↦ omega (arith, row-size s l z e, width-bytes l z)
    ]

-- a line of a letter at k other than N, whose lines have the form f
module _ (s : List ℕ) (k : ℕ) (f : Form) (p : 0 < k) (h : k < letter_count) (form : FormOf k f) where
  by-form : keeps_rules (letter_at k) s ≡ (eqb (length s) (1 + f.columns) && fields_fit (columns_of f.marks.now) (drop 1 s))
  by-form =
      row-rules s (letter_at k) (λ z. omega (arith, z, rank-at k h)) ∙ ap₂ (λ (n : ℕ) (b : Bool). eqb (length s) (1 + n) && b) (sym form.bytes)
      (sym (ap (λ (cs : List Column). fields_fit cs (drop 1 s)) form.marks ∙ plain-fits (columns (letter_at k)) (drop 1 s)))

  pub row_fields : length s ≡ 1 + f.columns → (b : Bool) → b ≡ fields_fit (columns_of f.marks.now) (take (length s - 1) (drop 1 s)) → b ≡ keeps_rules (letter_at k) s
  row_fields e b fit =
      fit ∙ ap (fields_fit (columns_of f.marks.now)) (take_all (length s - 1) (drop 1 s) (omega (arith, length-drop 1 s)))
      ∙ sym (by-form ∙ rw (eq-eqb (length s) (1 + f.columns) e))

  pub row_length : (length s ≡ 1 + f.columns → ⊥) → false ≡ keeps_rules (letter_at k) s
  row_length n = sym (by-form ∙ rw (ne_eqb (length s) (1 + f.columns) n))

pub ruleset row_laws = (row_fields, row_length)

pub ruleset name_laws = (name_short, name_spaced, name_unspaced)

-- ---- no. 5

-- the room that is left once a line has been seen tells whether it has a place
pub place_is : (seen : Seen) (before : List (List ℕ)) (s : List ℕ) (room : Sizes) (l : Letter) (k : ℕ) → rank l ≡ k → letter_of s ≡ Some l → Counted seen (s ∷ before)
    → has_place (lent_by room) before l s ≡ has_room k seen.used room
unfolding has_place
place_is seen before s room l k at known counted =
    ap₂ (λ (a b : ℕ). leb a (get_or room.numbers b 0) && (not (eqb b 0) || leb (name_bytes (s ∷ before)) room.bytes))
    (ap (λ (ls : List (List ℕ)). length ls * width l) (sym (own_line l s before (letter-byte s l known))) ∙ sym (counted.numbers l) ∙ ap (λ (j : ℕ). get_or seen.used.numbers j 0) at) at
    ∙ ap (λ (b : ℕ). leb (get_or seen.used.numbers k 0) (get_or room.numbers k 0) && (not (eqb k 0) || leb b room.bytes)) (sym counted.bytes)

-- ---- the number of a line's refusal

pub no_2 : (lent : Lent) (before : List (List ℕ)) (s : List ℕ) → place_of (letter_of s) ≡ None → first_of (line_faults lent before (ended s)) ≡ Some 2
unfolding line_faults
no_2 lent before s h = go (letter_of s) h
  where
    go : (o : Option Letter) → place_of o ≡ None → first_of (known_faults lent before s o) ≡ Some 2
    go None h = refl
    go (Some l) h = absurd (none-some (rank l) (sym h))

module _ (lent : Lent) (before : List (List ℕ)) (s : List ℕ) (l : Letter) (known : letter_of s ≡ Some l) where
  pub no_3 : is_earlier before l ≡ true → first_of (line_faults lent before (ended s)) ≡ Some 3
  unfolding line_faults
  no_3 a = rw (known, a)

  pub no_4 : is_earlier before l ≡ false → keeps_rules l s ≡ false → first_of (line_faults lent before (ended s)) ≡ Some 4
  unfolding line_faults
  no_4 a b = rw (known, a, b)

  pub no_5 : is_earlier before l ≡ false → keeps_rules l s ≡ true → has_place lent before l s ≡ false → first_of (line_faults lent before (ended s)) ≡ Some 5
  unfolding line_faults
  no_5 a b c = rw (known, a, b, c)

  pub no_0 : is_earlier before l ≡ false → keeps_rules l s ≡ true → has_place lent before l s ≡ true → line_faults lent before (ended s) ≡ []
  unfolding line_faults
  no_0 a b c = rw (known, a, b, c)

-- as it is told
pub first_told : (f : ℕ → Told) (ns : List ℕ) (n : ℕ) (r : Told) → first_of ns ≡ Some n → r ≡ f n → first_of (map f ns) ≡ Some r
first_told f [] n r e h = absurd (none-some n e)
first_told f (m ∷ ns) n r e h = ap Some (ap f (same_Some m n e) ∙ sym h)

-- what the code tells of a line, f n where its first fault is number n
module _ (f : ℕ → Told) (room : Sizes) (before : List (List ℕ)) (s : List ℕ) (place : Option ℕ) (at : place ≡ place_of (letter_of s)) where
  abbrev Tells : Told → Type 0
  Tells r = first_of (map f (line_faults (lent_by room) before (ended s))) ≡ Some r

  tells : (n : ℕ) (r : Told) → first_of (line_faults (lent_by room) before (ended s)) ≡ Some n → r ≡ f n → Tells r
  tells n r = first_told f (line_faults (lent_by room) before (ended s)) n r

  pub told_2 : place ≡ None → (r : Told) → r ≡ f 2 → Tells r
  told_2 e r = tells 2 r (no_2 (lent_by room) before s (sym at ∙ e))

  module _ (seen : Seen) (counted : Counted seen before) (j : ℕ) (is : place ≡ Some j) where
    known_here : letter_of s ≡ Some (letter_at j)
    known_here = letter-is s j (sym is ∙ at)

    at_j : rank (letter_at j) ≡ j
    at_j = rank-at j (letter-below s j (sym is ∙ at))

    pub told_3 : j < seen.last → (r : Told) → r ≡ f 3 → Tells r
    told_3 h r = tells 3 r (no_3 (lent_by room) before s (letter_at j) known_here (counted.last (letter_at j) ∙ lt-ltb (rank (letter_at j)) seen.last (omega (arith, at_j, h))))

    module _ (h : seen.last ≤ j) (kept : Bool) (rules : kept ≡ keeps_rules (letter_at j) s) where
      in_place : is_earlier before (letter_at j) ≡ false
      in_place = counted.last (letter_at j) ∙ le-ltb (rank (letter_at j)) seen.last (omega (arith, at_j, h))

      pub told_4 : kept ≡ false → (r : Told) → r ≡ f 4 → Tells r
      told_4 e r = tells 4 r (no_4 (lent_by room) before s (letter_at j) known_here in_place (sym rules ∙ e))

      module _ (so : kept ≡ true) (seen' : Seen) (more : Counted seen' (s ∷ before)) (fits : Bool) (room_is : fits ≡ has_room j seen'.used room) where
        has : has_place (lent_by room) before (letter_at j) s ≡ fits
        has = place_is seen' before s room (letter_at j) j at_j known_here more ∙ sym room_is

        pub told_5 : fits ≡ false → (r : Told) → r ≡ f 5 → Tells r
        told_5 e r = tells 5 r (no_5 (lent_by room) before s (letter_at j) known_here in_place (sym rules ∙ so) (has ∙ e))

        pub told_none : fits ≡ true → line_faults (lent_by room) before (ended s) ≡ []
        told_none e = no_0 (lent_by room) before s (letter_at j) known_here in_place (sym rules ∙ so) (has ∙ e)

pub ruleset told_laws = (told_3, told_4, told_5, told_none)

-- what a line without fault is
pub record Good (lent : Lent) (before : List (List ℕ)) (s : List ℕ) : Type 0 where
  pub letter : Letter
  pub known : letter_of s ≡ Some letter
  pub order : is_earlier before letter ≡ false
  pub rules : keeps_rules letter s ≡ true
  pub place : has_place lent before letter s ≡ true

pub good : (lent : Lent) (before : List (List ℕ)) (s : List ℕ) → line_faults lent before (ended s) ≡ [] → Good lent before s
unfolding line_faults
good lent before s e = go (letter_of s) refl e
  where
    nil : {A : Type 0} (n : ℕ) (ns : List ℕ) → n ∷ ns ≡ [] → A
    nil n ns e = absurd (let z : length (n ∷ ns) ≡ 0 = ap length e in omega arith)

    three : (l : Letter) (a b c : Bool) → letter_of s ≡ Some l → is_earlier before l ≡ a → keeps_rules l s ≡ b → has_place lent before l s ≡ c
        → ◌≡◌ {A = List ℕ} (when a 3 ++ when (not b) 4 ++ when (not c) 5) [] → Good lent before s
    three l true b c k p q r e = nil _ _ e
    three l false false c k p q r e = nil _ _ e
    three l false true false k p q r e = nil _ _ e
    three l false true true k p q r e = record { letter = l; known = k; order = p; rules = q; place = r }

    go : (o : Option Letter) → letter_of s ≡ o → known_faults lent before s o ≡ [] → Good lent before s
    go None k e = nil _ _ e
    go (Some l) k e = three l (is_earlier before l) (keeps_rules l s) (has_place lent before l s) k refl refl refl e

-- it leaves no more numbers in a table than it has bytes
pub numbers-small : (lent : Lent) (before : List (List ℕ)) (s : List ℕ) → Good lent before s → (l : Letter)
    → length (lines_with l (s ∷ before)) * width l ≤ length (lines_with l before) * width l + length s
numbers-small lent before s g l =
    elim (ℕ_discrete (rank l) (rank g.letter)) [
      | yes e ↦ (let same : g.letter ≡ l = same-letter g.letter l (sym e) in
          rw (own_line l s before (letter-byte s l (g.known ∙ ap Some same)))
          (omega (arith, suc-mul (length (lines_with l before)) (width l), row-shorter s l (ap (λ (m : Letter). keeps_rules m s) (sym same) ∙ g.rules))))
      | no z ↦ rw (other-line l s before (other_byte s g.letter l g.known z)) (omega arith)
    ]

-- ---- a letter earlier in order than the line before's

pub earlier-none : (l : Letter) → is_earlier [] l ≡ ltb (rank l) 0
unfolding is_earlier
earlier-none l = sym (leb-suc-zero (rank l))

pub earlier-than : (before : List (List ℕ)) (s : List ℕ) (l : Letter) → letter_of s ≡ Some l → (m : Letter) → is_earlier (s ∷ before) m ≡ ltb (rank m) (rank l)
unfolding is_earlier
earlier-than before s l known m = ap (λ (o : Option Letter). earlier_than o m) known

-- ---- what has been seen

pub counted_none : (seen : Seen) → seen.last ≡ 0 → seen.used.bytes ≡ 0 → ((l : Letter) → get_or seen.used.numbers (rank l) 0 ≡ 0) → Counted seen []
unfolding lines_with
counted_none seen last bytes numbers =
    record {
      last = λ l. earlier-none l ∙ ap (ltb (rank l)) (sym last);
      bytes = bytes;
      numbers = λ l. numbers l ∙ sym (zero-mul (width l));
    }

module _ (seen : Seen) (before : List (List ℕ)) (counted : Counted seen before) (s : List ℕ) (l : Letter) (known : letter_of s ≡ Some l) where
  own-numbers : length seen.used.numbers ≡ letter_count
      → get_or (set seen.used.numbers (rank l) (get_or seen.used.numbers (rank l) 0 + width l)) (rank l) 0 ≡ length (lines_with l (s ∷ before)) * width l
  own-numbers size =
      get_or-set_same seen.used.numbers (rank l) (get_or seen.used.numbers (rank l) 0 + width l) 0 (omega (arith, rank_below l))
      ∙ ap (λ (n : ℕ). n + width l) (counted.numbers l)
      ∙ sym (ap (λ (ls : List (List ℕ)). length ls * width l) (own_line l s before (letter-byte s l known)) ∙ suc-mul (length (lines_with l before)) (width l))

  numbers_more : length seen.used.numbers ≡ letter_count → (m : Letter)
      → get_or (set seen.used.numbers (rank l) (get_or seen.used.numbers (rank l) 0 + width l)) (rank m) 0 ≡ length (lines_with m (s ∷ before)) * width m
  numbers_more size m =
      elim (ℕ_discrete (rank m) (rank l)) [
        | yes e ↦ subst (λ (m : Letter). get_or (set seen.used.numbers (rank l) (get_or seen.used.numbers (rank l) 0 + width l)) (rank m) 0 ≡ length (lines_with m (s ∷ before)) * width m)
            (same-letter l m (sym e)) (own-numbers size)
        | no z ↦ get_or-set_other seen.used.numbers (rank l) (rank m) (get_or seen.used.numbers (rank l) 0 + width l) 0 z
            ∙ counted.numbers m ∙ sym (ap (λ (ls : List (List ℕ)). length ls * width m) (other-line m s before (other_byte s l m known z)))
      ]

  -- with one more line
  pub counted-more : (r : Seen) (k : ℕ) → k ≡ rank l → length seen.used.numbers ≡ letter_count → r.last ≡ k
      → r.used.bytes ≡ name_bytes (s ∷ before) → r.used.numbers ≡ set seen.used.numbers k (get_or seen.used.numbers k 0 + width l) → Counted r (s ∷ before)
  counted-more r k at size last bytes numbers =
      record {
        last = λ m. earlier-than before s l known m ∙ ap (ltb (rank m)) (sym (last ∙ at));
        bytes = bytes;
        numbers = λ m. ap (λ (ns : List ℕ). get_or ns (rank m) 0) (numbers ∙ ap (λ (j : ℕ). set seen.used.numbers j (get_or seen.used.numbers j 0 + width l)) at) ∙ numbers_more size m;
      }

-- ---- the bytes of a line's name

module _ (s : List ℕ) (before : List (List ℕ)) where
  pub names-own : letter_of s ≡ Some letter_n → name_bytes (s ∷ before) ≡ name_bytes before + (length s - 2)
  names-own k = ap (total (λ s. length (line_name s))) (own_line letter_n s before (letter-byte s letter_n k)) ∙ omega (arith, length-drop 2 s)

  pub names-other : (l : Letter) → letter_of s ≡ Some l → (rank l ≡ 0 → ⊥) → name_bytes (s ∷ before) ≡ name_bytes before
  names-other l k z = ap (total (λ s. length (line_name s))) (other-line letter_n s before (other_byte s l letter_n k (λ e. z (sym e))))

  pub names-few : (l : Letter) → letter_of s ≡ Some l → name_bytes (s ∷ before) ≤ name_bytes before + length s
  names-few l k =
      elim (ℕ_discrete (rank l) 0) [
        | yes z ↦ omega (arith, names-own (k ∙ ap Some (same-letter l letter_n z)))
        | no z ↦ omega (arith, names-other l k z)
      ]

-- one more line of the letter at k, whose place the code has
module _ (seen : Seen) (before : List (List ℕ)) (s : List ℕ) (k : ℕ) (h : k < letter_count) (place : Some k ≡ place_of (letter_of s)) (size : length seen.used.numbers ≡ letter_count) (counted : Counted seen before) where
  abbrev with_one : ℕ → Seen
  with_one bytes = record { last = k; used = record { bytes = bytes; numbers = set seen.used.numbers k (get_or seen.used.numbers k 0 + get_or widths k 0) } }

  more : (bytes : ℕ) → bytes ≡ name_bytes (s ∷ before) → Counted (with_one bytes) (s ∷ before)
  more bytes e =
      counted-more seen before counted s (letter_at k) (letter-is s k place) (with_one bytes) k (sym (rank-at k h)) size refl e
      (ap (λ (w : ℕ). set seen.used.numbers k (get_or seen.used.numbers k 0 + w)) (width-at k h))

  pub count_name : k ≡ 0 → (n : ℕ) → n ≡ length s - 2 → Counted (with_one (seen.used.bytes + n)) (s ∷ before)
  count_name z n e = more (seen.used.bytes + n) (omega (arith, counted.bytes, e, names-own s before (letter-is s k place ∙ ap (λ (j : ℕ). Some (letter_at j)) z)))

  pub count_row : (k ≡ 0 → ⊥) → Counted (with_one seen.used.bytes) (s ∷ before)
  count_row z = more seen.used.bytes (counted.bytes ∙ sym (names-other s before (letter_at k) (letter-is s k place) (λ e. z (sym (rank-at k h) ∙ e))))

pub ruleset count_laws = (count_name, count_row)

-- a sheet's lines use no more than its bytes
pub seen_small : (seen : Seen) (before : List (List ℕ)) (n : ℕ) → n ≤ 16384 → Counted seen before
    → name_bytes before ≤ n → ((l : Letter) → length (lines_with l before) * width l ≤ n) → Small seen.used
seen_small seen before n h counted names few = (
  omega (arith, counted.bytes, names, h),
  λ k below. omega (arith, few (letter_at k), h, counted.numbers (letter_at k), ap (λ (j : ℕ). get_or seen.used.numbers j 0) (rank-at k below)),
)

-- ---- the rows of each letter, from what has been seen

module _ (seen : Seen) (before : List (List ℕ)) (counted : Counted seen before) where
  rows_seen : (l : Letter) → get_or seen.used.numbers (rank l) 0 / width l ≡ count (tables_read (reverse before)) l
  rows_seen l = ap (λ (n : ℕ). n / width l) (counted.numbers l ∙ sym (whole-rows (reverse before) l ∙ ap (λ (n : ℕ). n * width l) (lines-turned l before)))

  bytes-seen : seen.used.bytes ≡ length (tables_read (reverse before)).bytes
  unfolding tables_read
  bytes-seen = counted.bytes ∙ sym (names-length (lines_with letter_n (reverse before)) ∙ names-turned before)

  -- the rows of a letter, by the numbers that its lines take
  abbrev rows_of : Letter → ℕ
  rows_of l = get_or seen.used.numbers (rank l) 0 / width l

  pub counted_rows : counts_of (tables_read (reverse before))
      ≡ record {
        bytes = seen.used.bytes;
        n = rows_of letter_n;
        c = rows_of letter_c;
        f = rows_of letter_f;
        x = rows_of letter_x;
        p = rows_of letter_p;
        i = rows_of letter_i;
        t = rows_of letter_t;
        q = rows_of letter_q;
        u = rows_of letter_u;
        e = rows_of letter_e;
        r = rows_of letter_r;
        m = rows_of letter_m;
      }
  counted_rows = sym (λ j. record {
    bytes = bytes-seen j;
    n = rows_seen letter_n j;
    c = rows_seen letter_c j;
    f = rows_seen letter_f j;
    x = rows_seen letter_x j;
    p = rows_seen letter_p j;
    i = rows_seen letter_i j;
    t = rows_seen letter_t j;
    q = rows_seen letter_q j;
    u = rows_seen letter_u j;
    e = rows_seen letter_e j;
    r = rows_seen letter_r j;
    m = rows_seen letter_m j;
  })

-- ---- the answer from a line on

module _ (lent : Lent) (before : List (List ℕ)) (k : ℕ) where
  pub answer-end : answer_from lent before k [] ≡ Ok (counts_of (tables_read (reverse before)))
  unfolding answer_from faults_from
  answer-end = refl

  pub answer-unended : (s : List ℕ) (ls : List Line) → answer_from lent before k (unended s ∷ ls) ≡ Err (told (refusal 2 (line k)))
  unfolding answer_from faults_from line_faults
  answer-unended s ls = refl

  pub answer-bad : (s : List ℕ) (ls : List Line) (r : Told) → first_of (map (λ n. told (refusal n (line k))) (line_faults lent before (ended s))) ≡ Some r
      → answer_from lent before k (ended s ∷ ls) ≡ Err r
  unfolding answer_from faults_from
  answer-bad s ls r e = go (line_faults lent before (ended s)) e
    where
      go : (fs : List ℕ) → first_of (map (λ n. told (refusal n (line k))) fs) ≡ Some r
          → sheet_read (unless_faults (map (λ n. refusal n (line k)) fs ++ faults_from lent (s ∷ before) (suc k) ls) (tables_read (reverse_aux before (s ∷ map text_of ls)))) ≡ Err r
      go [] e = absurd (none-some r e)
      go (f ∷ fs) e = ap Err (same_Some _ r e)

  pub answer-good : (s : List ℕ) (ls : List Line) → line_faults lent before (ended s) ≡ [] → answer_from lent before k (ended s ∷ ls) ≡ answer_from lent (s ∷ before) (suc k) ls
  unfolding answer_from faults_from
  answer-good s ls e = rw e

-- ---- no. 1

pub answer_long : (lent : Lent) (s : List ℕ) → 16384 < length s → sheet_read (read_sheet lent s) ≡ Err (told (refusal 1 (line 0)))
unfolding read_sheet sheet_faults
answer_long lent s h = rw (lt-ltb 16384 (length s) h)

pub answer_short : (lent : Lent) (s : List ℕ) → length s ≤ 16384 → answer_from lent [] 1 (lines_of s) ≡ sheet_read (read_sheet lent s)
unfolding read_sheet sheet_faults answer_from
answer_short lent s h = rw (le-ltb 16384 (length s) h)

pub ruleset length_laws = (answer_long, answer_short)
