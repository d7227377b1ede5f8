-- Laws of the definition's fields, one for each way through the code. Assumes nothing.
use mathlib.Core.Bool.{Bool, true, false, ◌&&◌, and-false, and-true}
use mathlib.Core.List.{List, [], ◌∷◌, map}
use mathlib.Core.Path.{◌≡◌, refl, ap, ◌∙◌}
use Prim.Native.Nat.{ℕ, suc, ◌+◌, ◌-◌, ◌*◌, ◌≤◌, ◌<◌}
use native.Mathlib.Numerals.{add-one}
use native.Mathlib.Omega.{arith}
use borrow.Author.Tests.{le-leb, eq-eqb, ne_eqb, lt-ltb, le-ltb}
use lib.Dec.{eqb, leb, ltb}
use lib.ListN.{length, take, drop, get_or, drop_of_length-le}
use lib.Seq.{sets, drop-cons}
use Rattle.std.specs.Bool.{then_some}
use Rattle.std.specs.Prelude.{None, Some}
use Rattle.std.proofs.lemmas.List.{take_all}
use Rattle.as5506.specs.Columns.{Column, needed, optional, long, anything, field_bytes, field_cells, line_bytes, row_cells}
use Rattle.as5506.specs.Fields.{unspaced, digit, decimal_from, is_decimal, is_number, Field, value, dash, bad, field_by, field_of, fits, numbers_of, fields_fit, field_numbers}
use Rattle.as5506.specs.Lists.{all_of, same_bytes, bytes_of}
use Rattle.as5506.specs.Tables.{two_to32}
use Rattle.as5506.proofs.Fields.{Below, small-field, field-cells}
use Rattle.lent.proofs.Sets.{sets-append}
use Rattle.fields.specs.Fields.{Short, spelt, column, columns_of, is_short, plain}
use Rattle.fields.specs.declared.Mark.{Mark}
use Rattle.fields.specs.declared.Mark.TheVariants.{Needed, Optional, Long}

-- ---- spaces in front

pub unspaced_space : (f : List ℕ) → 1 ≤ length f → get_or f 0 0 ≡ 32 → unspaced (take (length f - 1) (drop 1 f)) ≡ unspaced f
unfolding unspaced
unspaced_space [] h e = absurd (omega arith)
unspaced_space (b ∷ f) h e = let n : length (b ∷ f) - 1 ≡ length f = omega arith in rw (n, take_all (length f) f (omega arith), eq-eqb b 32 e)

pub unspaced_other : (f : List ℕ) → (get_or f 0 0 ≡ 32 → ⊥) → unspaced f ≡ f
unfolding unspaced
unspaced_other [] z = refl
unspaced_other (b ∷ f) z = rw (ne_eqb b 32 z)

pub unspaced_none : (f : List ℕ) → length f < 1 → unspaced f ≡ f
unfolding unspaced
unspaced_none [] h = refl
unspaced_none (b ∷ f) h = absurd (omega arith)

pub ruleset space_laws = (unspaced_space, unspaced_other, unspaced_none)

-- ---- digits

-- digits never make a number smaller
decimal-grows : (v : ℕ) (s : List ℕ) → v ≤ decimal_from v s
unfolding decimal_from
decimal-grows v [] = omega arith
decimal-grows v (b ∷ bs) = omega (arith, decimal-grows (v * 10 + (b - 48)) bs)

module _ (s : List ℕ) (v i : ℕ) where
  -- the byte at i, and the number that it continues v to
  abbrev next : ℕ
  next = v * 10 + (get_or s i 0 - 48)

  digits_step : i < length s
      → spelt v (drop i s) ≡ then_some ((digit (get_or s i 0) && all_of digit (drop (i + 1) s)) && ltb (decimal_from next (drop (i + 1) s)) (two_to32 * two_to32)) (decimal_from next (drop (i + 1) s))
  unfolding decimal_from
  digits_step h = rw (add-one, drop-cons s i 0 h)

  -- no digit
  pub digits_bad : i < length s → digit (get_or s i 0) ≡ false → spelt v (drop i s) ≡ None
  digits_bad h e = digits_step h ∙ rw e

  -- a digit that makes the number too large
  pub digits_large : i < length s → 18446744073709551615 < next → spelt v (drop i s) ≡ None
  digits_large h l =
      let large : ltb (decimal_from next (drop (i + 1) s)) (two_to32 * two_to32) ≡ false = le-ltb (decimal_from next (drop (i + 1) s)) (two_to32 * two_to32) (omega (arith, l, decimal-grows next (drop (i + 1) s))) in
      digits_step h ∙ rw (large, and-false (digit (get_or s i 0) && all_of digit (drop (i + 1) s)))

  -- one more digit of a number
  pub digits_next : i < length s → digit (get_or s i 0) ≡ true → (n : ℕ) → n ≡ next → spelt v (drop i s) ≡ spelt n (drop (i + 1) s)
  digits_next h e n g = digits_step h ∙ rw (e, g)

  pub digits_end : length s ≤ i → v < two_to32 * two_to32 → spelt v (drop i s) ≡ Some v
  unfolding decimal_from
  digits_end h l = rw (drop_of_length-le s h, lt-ltb v (two_to32 * two_to32) l)

pub ruleset digit_laws = (digits_bad, digits_large, digits_next, digits_end)

-- ---- a number without leading zeros

pub number_none : (s : List ℕ) → length s < 1 → then_some (is_number s) (decimal_from 0 s) ≡ None
unfolding is_number is_decimal
number_none [] h = refl
number_none (b ∷ s) h = absurd (omega arith)

-- where a 0 stands in front of more
pub number_zero : (s : List ℕ) → 2 ≤ length s → get_or s 0 0 ≡ 48 → then_some (is_number s) (decimal_from 0 s) ≡ None
unfolding is_number is_decimal
number_zero [] h e = absurd (omega arith)
number_zero (b ∷ []) h e = absurd (omega arith)
number_zero (b ∷ d ∷ s) h e =
    rw (eq-eqb b 48 e, le-leb 2 (suc (suc (length s))) (omega arith), and-false (digit b && (digit d && all_of digit s)), and-false (leb 1 (suc (suc (length s)))))

-- where none does
pub number_plain : (s : List ℕ) → 1 ≤ length s → (2 ≤ length s → get_or s 0 0 ≡ 48 → ⊥) → then_some (is_number s) (decimal_from 0 s) ≡ spelt 0 s
unfolding is_number is_decimal
number_plain [] h z = absurd (omega arith)
number_plain (b ∷ []) h z = rw (and-false (eqb b 48), and-true (digit b && true))
number_plain (b ∷ d ∷ s) h z = rw (ne_eqb b 48 (z (omega arith)), le-leb 1 (suc (suc (length s))) (omega arith), and-true (digit b && (digit d && all_of digit s)))

pub ruleset number_laws = (number_none, number_zero, number_plain)

-- ---- a field

dash-alone : (u : List ℕ) → length u ≡ 1 → get_or u 0 0 ≡ 45 → same_bytes u (bytes_of "-") ≡ true
dash-alone [] h d = absurd (omega arith)
dash-alone (b ∷ []) h d = rw (eq-eqb b 45 d)
dash-alone (b ∷ c ∷ u) h d = absurd (omega arith)

dash-not : (u : List ℕ) → (length u ≡ 1 → get_or u 0 0 ≡ 45 → ⊥) → same_bytes u (bytes_of "-") ≡ false
dash-not [] z = refl
dash-not (b ∷ []) z = rw (ne_eqb b 45 (z refl))
dash-not (b ∷ c ∷ u) z = and-false (eqb b 45)

pub field_dash : (s : List ℕ) → length (unspaced s) ≡ 1 → get_or (unspaced s) 0 0 ≡ 45 → field_of s ≡ dash
unfolding field_of
field_dash s h d = rw (dash-alone (unspaced s) h d)

pub field_other : (s : List ℕ) → (length (unspaced s) ≡ 1 → get_or (unspaced s) 0 0 ≡ 45 → ⊥) → field_of s ≡ field_by false (is_number (unspaced s)) (unspaced s)
unfolding field_of
field_other s z = rw (dash-not (unspaced s) z)

pub ruleset field_laws = (field_dash, field_other)

below-short : (f : Field) → Below 1000000 f → Short f
below-short (value v) h = omega (arith, h)
below-short dash h = tt
below-short bad h = tt

-- a field that is not long holds a number of 32 bits
pub field_short : (mark : Mark) (s : List ℕ) → length s ≡ field_bytes (column mark) → is_short mark ≡ true → Short (field_of s)
field_short Needed s e h = below-short (field_of s) (small-field s (omega (arith, e)))
field_short Optional s e h = below-short (field_of s) (small-field s (omega (arith, e)))
field_short Long s e h = absurd (let z : ◌≡◌ {A = Bool} false true = h in cc)

-- ---- the fields of a line, from one on

module _ (marks : List Mark) (i : ℕ) (h : i < length marks) where
  abbrev here : Column
  here = column (get_or marks i Needed)

  abbrev behind : List Column
  behind = columns_of (drop (i + 1) marks)

  columns-next : columns_of (drop i marks) ≡ here ∷ behind
  columns-next = rw (add-one, drop-cons marks i Needed h)

  -- the bytes and the numbers that they take
  pub bytes_next : line_bytes (columns_of (drop i marks)) ≡ field_bytes here + line_bytes behind
  bytes_next = ap line_bytes columns-next

  pub cells_next : row_cells (columns_of (drop i marks)) ≡ field_cells here + row_cells behind
  cells_next = ap row_cells columns-next

  pub fits_next : (s : List ℕ) → fields_fit (columns_of (drop i marks)) s ≡ (fits here (field_of (take (field_bytes here) s)) && fields_fit behind (drop (field_bytes here) s))
  unfolding fields_fit
  fits_next s = ap (λ (cs : List Column). fields_fit cs s) columns-next

  -- the numbers of one more field, written to the table t at k
  pub numbers_next : (s t : List ℕ) (k : ℕ)
      → sets t k (field_numbers (columns_of (drop i marks)) s)
      ≡ sets (sets t k (numbers_of here (field_of (take (field_bytes here) s)))) (k + field_cells here) (field_numbers behind (drop (field_bytes here) s))
  unfolding field_numbers
  numbers_next s t k =
      let first = numbers_of here (field_of (take (field_bytes here) s)) in
      ap (λ (cs : List Column). sets t k (field_numbers cs s)) columns-next
      ∙ sets-append first (field_numbers behind (drop (field_bytes here) s)) t k
      ∙ ap (λ (j : ℕ). sets (sets t k first) (k + j) (field_numbers behind (drop (field_bytes here) s))) (field-cells here (field_of (take (field_bytes here) s)))

module _ (marks : List Mark) (i : ℕ) (h : length marks ≤ i) (s : List ℕ) where
  pub fits_end : fields_fit (columns_of (drop i marks)) s ≡ true
  unfolding fields_fit
  fits_end = rw (drop_of_length-le marks h)

  pub numbers_end : field_numbers (columns_of (drop i marks)) s ≡ []
  unfolding field_numbers
  numbers_end = rw (drop_of_length-le marks h)

pub ruleset fit_laws = (bytes_next, fits_next, fits_end)

pub ruleset put_laws = (bytes_next, cells_next, numbers_next, numbers_end)

-- ---- of columns only the form matters

pub plain-fits : (cs : List Column) (s : List ℕ) → fields_fit (map plain cs) s ≡ fields_fit cs s
unfolding fields_fit
plain-fits [] s = refl
plain-fits (needed b w ∷ cs) s = go (field_of (take b s)) (plain-fits cs (drop b s))
  where
    go : (f : Field) {x y : Bool} → x ≡ y → (fits (needed b anything) f && x) ≡ (fits (needed b w) f && y)
    go (value v) e = e
    go dash e = refl
    go bad e = refl
plain-fits (optional b w ∷ cs) s = go (field_of (take b s)) (plain-fits cs (drop b s))
  where
    go : (f : Field) {x y : Bool} → x ≡ y → (fits (optional b anything) f && x) ≡ (fits (optional b w) f && y)
    go (value v) e = e
    go dash e = e
    go bad e = refl
plain-fits (long b ∷ cs) s = ap (λ (x : Bool). fits (long b) (field_of (take b s)) && x) (plain-fits cs (drop b s))

pub plain-numbers : (cs : List Column) (s : List ℕ) → field_numbers (map plain cs) s ≡ field_numbers cs s
unfolding field_numbers
plain-numbers [] s = refl
plain-numbers (needed b w ∷ cs) s = rw (plain-numbers cs (drop b s))
plain-numbers (optional b w ∷ cs) s = rw (plain-numbers cs (drop b s))
plain-numbers (long b ∷ cs) s = rw (plain-numbers cs (drop b s))

pub plain-bytes : (cs : List Column) → line_bytes (map plain cs) ≡ line_bytes cs
plain-bytes [] = refl
plain-bytes (needed b w ∷ cs) = ap (λ (n : ℕ). b + n) (plain-bytes cs)
plain-bytes (optional b w ∷ cs) = ap (λ (n : ℕ). b + n) (plain-bytes cs)
plain-bytes (long b ∷ cs) = ap (λ (n : ℕ). b + n) (plain-bytes cs)

pub plain-cells : (cs : List Column) → row_cells (map plain cs) ≡ row_cells cs
plain-cells [] = refl
plain-cells (needed b w ∷ cs) = ap (λ (n : ℕ). 1 + n) (plain-cells cs)
plain-cells (optional b w ∷ cs) = ap (λ (n : ℕ). 1 + n) (plain-cells cs)
plain-cells (long b ∷ cs) = ap (λ (n : ℕ). 3 + n) (plain-cells cs)
