-- The lines of a letter and their rows: one line more, all lines in the other order, and how many numbers they are. Assumes nothing.
use mathlib.Core.Bool.{Bool, true, false}
use mathlib.Core.List.{List, [], ◌∷◌, map, reverse, reverse_aux}
use mathlib.Core.Path.{◌≡◌, refl, sym, ap, ap₂, ◌∙◌}
use Prim.Native.Nat.{ℕ, ◌+◌, ◌*◌, ◌/◌, ◌<◌}
use native.Mathlib.Nat.{add-mul, zero-mul, zero-add, add-zero, mul-div_cancel}
use native.Mathlib.Omega.{arith}
use lib.Dec.{eqb}
use lib.ListN.{length, get_or, drop, length-append}
use Rattle.as5506.specs.Columns.{rank, letter_byte, columns, row_cells}
use Rattle.as5506.specs.Lists.{put_if, total, each}
use Rattle.as5506.specs.Sheet.{lines_with, line_name, line_row, name_bytes, placed, rows_read, tables_read}
use Rattle.as5506.specs.Tables.{Letter, letter_n, letter_c, letter_f, letter_x, letter_p, letter_i, letter_t, letter_q, letter_u, letter_e, letter_r, letter_m, table, width, count}
use Rattle.as5506.proofs.Fields.{numbers-length}
use Rattle.as5506.proofs.Letters.{each-letter, width_some}

-- ---- one line more

pub none-with : (l : Letter) → lines_with l [] ≡ []
unfolding lines_with
none-with l = refl

pub names-none : name_bytes [] ≡ 0
unfolding lines_with
names-none = refl

pub own_line : (l : Letter) (s : List ℕ) (ls : List (List ℕ)) → eqb (get_or s 0 0) (letter_byte l) ≡ true → lines_with l (s ∷ ls) ≡ s ∷ lines_with l ls
unfolding lines_with
own_line l s ls e = rw e

pub other-line : (l : Letter) (s : List ℕ) (ls : List (List ℕ)) → eqb (get_or s 0 0) (letter_byte l) ≡ false → lines_with l (s ∷ ls) ≡ lines_with l ls
unfolding lines_with
other-line l s ls e = rw e

-- ---- how many numbers

rows-length : (l : Letter) (ls : List (List ℕ)) → length (each (line_row l) ls) ≡ length ls * row_cells (columns l)
rows-length l [] = sym (zero-mul (row_cells (columns l)))
rows-length l (s ∷ ls) =
    length-append (line_row l s) (each (line_row l) ls)
    ∙ ap₂ ◌+◌ (numbers-length (columns l) (drop 1 s)) (rows-length l ls)
    ∙ omega (arith, add-mul 1 (length ls) (row_cells (columns l)))

placed-length : (from : ℕ) (ls : List (List ℕ)) → length (placed from (map line_name ls)) ≡ length ls * 2
unfolding placed
placed-length from [] = refl
placed-length from (s ∷ ls) = omega (arith, placed-length (from + length (line_name s)) ls)

pub names-length : (ls : List (List ℕ)) → length (each line_name ls) ≡ total (λ s. length (line_name s)) ls
names-length [] = refl
names-length (s ∷ ls) = length-append (line_name s) (each line_name ls) ∙ ap (λ (n : ℕ). length (line_name s) + n) (names-length ls)

-- A TABLE THAT IS READ HAS A WHOLE ROW FOR EACH LINE OF ITS LETTER
pub whole-rows : (ls : List (List ℕ)) (l : Letter) → length (table (tables_read ls) l) ≡ length (lines_with l ls) * width l
unfolding tables_read rows_read
whole-rows ls =
    each-letter (λ l. length (table (tables_read ls) l) ≡ length (lines_with l ls) * width l)
    (placed-length 0 (lines_with letter_n ls))
    (rows-length letter_c (lines_with letter_c ls))
    (rows-length letter_f (lines_with letter_f ls))
    (rows-length letter_x (lines_with letter_x ls))
    (rows-length letter_p (lines_with letter_p ls))
    (rows-length letter_i (lines_with letter_i ls))
    (rows-length letter_t (lines_with letter_t ls))
    (rows-length letter_q (lines_with letter_q ls))
    (rows-length letter_u (lines_with letter_u ls))
    (rows-length letter_e (lines_with letter_e ls))
    (rows-length letter_r (lines_with letter_r ls))
    (rows-length letter_m (lines_with letter_m ls))

-- of a letter other than N it has the rows of its lines
pub rows-table : (ls : List (List ℕ)) (l : Letter) → 0 < rank l → table (tables_read ls) l ≡ rows_read l ls
unfolding tables_read
rows-table ls =
    each-letter (λ l. 0 < rank l → table (tables_read ls) l ≡ rows_read l ls)
    (λ h. absurd (omega arith)) (λ h. refl) (λ h. refl) (λ h. refl) (λ h. refl) (λ h. refl) (λ h. refl) (λ h. refl) (λ h. refl) (λ h. refl) (λ h. refl) (λ h. refl)

-- THE ROWS OF A TABLE THAT IS READ ARE THE LINES OF ITS LETTER
pub rows-counted : (ls : List (List ℕ)) (l : Letter) → count (tables_read ls) l ≡ length (lines_with l ls)
rows-counted ls l = ap (λ (n : ℕ). n / width l) (whole-rows ls l) ∙ mul-div_cancel (length (lines_with l ls)) (width_some l)

-- ---- the lines in the other order

length-put : {A : Type 0} (b : Bool) (x : A) (xs : List A) → length (put_if b x xs) ≡ length (put_if b x []) + length xs
length-put true x xs = omega arith
length-put false x xs = sym (zero-add (length xs))

pub lines_split : (l : Letter) (s : List ℕ) (ls : List (List ℕ)) → length (lines_with l (s ∷ ls)) ≡ length (lines_with l (s ∷ [])) + length (lines_with l ls)
unfolding lines_with
lines_split l s ls = length-put (eqb (get_or s 0 0) (letter_byte l)) s (lines_with l ls)

length-turned : (l : Letter) (a b : List (List ℕ)) → length (lines_with l (reverse_aux a b)) ≡ length (lines_with l a) + length (lines_with l b)
unfolding lines_with
length-turned l [] b = sym (zero-add (length (lines_with l b)))
length-turned l (s ∷ a) b =
    omega (arith, length-turned l a (s ∷ b), lines_split l s a, lines_split l s b)

pub lines-turned : (l : Letter) (ls : List (List ℕ)) → length (lines_with l (reverse ls)) ≡ length (lines_with l ls)
unfolding lines_with
lines-turned l ls = length-turned l ls [] ∙ add-zero (length (lines_with l ls))

total-put : {A : Type 0} (w : A → ℕ) (b : Bool) (x : A) (xs : List A) → total w (put_if b x xs) ≡ total w (put_if b x []) + total w xs
total-put w true x xs = omega arith
total-put w false x xs = sym (zero-add (total w xs))

pub names-split : (s : List ℕ) (ls : List (List ℕ)) → name_bytes (s ∷ ls) ≡ name_bytes (s ∷ []) + name_bytes ls
unfolding lines_with
names-split s ls = total-put (λ s. length (line_name s)) (eqb (get_or s 0 0) (letter_byte letter_n)) s (lines_with letter_n ls)

total-turned : (a b : List (List ℕ)) → name_bytes (reverse_aux a b) ≡ name_bytes a + name_bytes b
unfolding lines_with
total-turned [] b = sym (zero-add (name_bytes b))
total-turned (s ∷ a) b =
    omega (arith, total-turned a (s ∷ b), names-split s a, names-split s b)

pub names-turned : (ls : List (List ℕ)) → name_bytes (reverse ls) ≡ name_bytes ls
unfolding lines_with
names-turned ls = total-turned ls [] ∙ add-zero (name_bytes ls)
