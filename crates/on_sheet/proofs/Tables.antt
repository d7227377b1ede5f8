-- The slices of a sheet that was read: what is lent, what is handed on, and what a task gives for it. Assumes nothing.
use mathlib.Core.Path.{◌≡◌, refl, sym, ap, subst, ◌∙◌}
use mathlib.Core.List.{List}
use Prim.Native.Nat.{ℕ, ◌*◌, ◌≤◌}
use lib.ListN.{length, take, length-replicate}
use Rattle.as5506.specs.Lists.{zeros}
use Rattle.as5506.specs.Tables.{Tables, tables_of, Letter, letter_n, letter_c, letter_f, letter_x, letter_p, letter_i, letter_t, letter_q, letter_u, letter_e, letter_r, letter_m, table, width, count}
use Rattle.as5506.specs.Sheet.{Lent, lent_of, read_sheet}
use Rattle.as5506.specs.Program.{lent, of_reading}
use Rattle.as5506.specs.declared.Refusal.{Refusal as Told}
use Rattle.sheet.specs.declared.Counts.{Counts}
use Rattle.std.specs.Prelude.{Result, Ok, Err}
use Rattle.as5506.proofs.Answers.{handed-err}
use Rattle.as5506.proofs.Letters.{each-letter}
use Rattle.sheet.specs.Read.{counts_of, sheet_read, ReadInto}
use Rattle.sheet.proofs.Model.{Model, handed}
use Rattle.text.specs.Printing.{refusal_of}
use Rattle.text.proofs.Printed.{refusal-printed}
use Rattle.on_sheet.specs.declared.Task.{Task}
use Rattle.on_sheet.specs.Tasks.{task_text, on_sheet}

-- ---- tables, letter by letter

abbrev pub tables_by : List ℕ → (Letter → List ℕ) → Tables
tables_by bytes t =
    tables_of bytes (t letter_n) (t letter_c) (t letter_f) (t letter_x) (t letter_p) (t letter_i) (t letter_t) (t letter_q) (t letter_u) (t letter_e) (t letter_r) (t letter_m)

table-by : (bytes : List ℕ) (t : Letter → List ℕ) (l : Letter) → table (tables_by bytes t) l ≡ t l
table-by bytes t = each-letter (λ l. table (tables_by bytes t) l ≡ t l) refl refl refl refl refl refl refl refl refl refl refl refl

-- the rows of each letter
abbrev pub counted : Counts → Letter → ℕ
counted k letter_n = k.n
counted k letter_c = k.c
counted k letter_f = k.f
counted k letter_x = k.x
counted k letter_p = k.p
counted k letter_i = k.i
counted k letter_t = k.t
counted k letter_q = k.q
counted k letter_u = k.u
counted k letter_e = k.e
counted k letter_r = k.r
counted k letter_m = k.m

counts-are : (m : Tables) (l : Letter) → counted (counts_of m) l ≡ count m l
counts-are m = each-letter (λ l. counted (counts_of m) l ≡ count m l) refl refl refl refl refl refl refl refl refl refl refl refl

-- ---- what is lent, as it is before the call

abbrev pub no_tables : Tables
no_tables = tables_by (zeros lent.bytes) (λ l. zeros (lent.numbers l))

numbers-lent : (l : Letter) → length (table no_tables l) ≡ lent.numbers l
numbers-lent l = ap length (table-by (zeros lent.bytes) (λ l. zeros (lent.numbers l)) l) ∙ length-replicate {A = ℕ} (lent.numbers l) 0

lent_is : lent_of no_tables ≡ lent
lent_is = λ j. record { bytes = length-replicate {A = ℕ} lent.bytes 0 j; numbers = λ l. numbers-lent l j }

-- ---- what is handed on: of each slice as much as was read

abbrev pub taken : Counts → Tables → Tables
taken k a = tables_by (take k.bytes a.bytes) (λ l. take (counted k l * width l) (table a l))

module _ (s : List ℕ) (z : Result Counts Told) (after : Tables) (h : ReadInto no_tables s z after) (k : Counts) (e : z ≡ Ok k) where
  read-so : ReadInto no_tables s (Ok k) after
  read-so = subst (λ (z : Result Counts Told). ReadInto no_tables s z after) e h

  is-model : Model no_tables s k after
  is-model = handed no_tables s k after read-so

  counts_of_lem : (l : Letter) → counted k l ≡ count is-model.model l
  counts_of_lem l = ap (λ (c : Counts). counted c l) is-model.counted ∙ counts-are is-model.model l

  pub rows-within : (l : Letter) → counted k l * width l ≤ length (table after l)
  rows-within l = rw (counts_of_lem l) (is-model.within l)

  pub bytes-within : k.bytes ≤ length after.bytes
  bytes-within = is-model.bytes-within

  rows_are : (l : Letter) → take (counted k l * width l) (table after l) ≡ table is-model.model l
  rows_are l = ap (λ (n : ℕ). take (n * width l) (table after l)) (counts_of_lem l) ∙ is-model.rows l

  taken_is : taken k after ≡ is-model.model
  taken_is = λ j. tables_by (is-model.bytes j) (λ l. rows_are l j)

  -- what a task gives for the tables that are handed on is what it gives for the sheet
  pub text-read : (task : Task) (n : ℕ) → task_text task n (taken k after) ≡ on_sheet task n s
  unfolding on_sheet of_reading
  text-read task n = ap (task_text task n) taken_is ∙ ap (of_reading (task_text task n)) (sym is-model.read ∙ ap (λ (l : Lent). read_sheet l s) lent_is)

-- ---- a refusal of the reader

pub text-refused : (s : List ℕ) (z : Result Counts Told) (after : Tables) → ReadInto no_tables s z after → (task : Task) (n : ℕ) (t : Told) → z ≡ Err t
    → refusal_of t ≡ on_sheet task n s
unfolding on_sheet of_reading
text-refused s z after h task n t e =
    let x = handed-err counts_of z (read_sheet lent s) (h.answer ∙ ap (λ (l : Lent). sheet_read (read_sheet l s)) lent_is) t e in
    ap refusal_of x.2 ∙ sym (refusal-printed x.0) ∙ sym (ap (of_reading (task_text task n)) x.1)
