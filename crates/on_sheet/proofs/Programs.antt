-- What a program writes: it is decided by what it reads of its input, though that is 16,385 bytes at most; and each program is that of its task.
-- Assumes nothing.
use mathlib.Core.Path.{◌≡◌, refl, sym, ap, ◌∙◌}
use mathlib.Core.List.{List}
use Prim.Native.Nat.{ℕ, ◌≤◌, ◌<◌}
use native.Mathlib.Omega.{arith}
use native.Mathlib.Decide.{dec_le}
use borrow.Author.Tests.{lt-ltb}
use lib.ListN.{length, take}
use Rattle.std.specs.Prelude.{Option}
use lib.Seq.{length-take-le, take_all}
use Rattle.as5506.specs.Lists.{padded}
use Rattle.as5506.specs.Tables.{Tables}
use Rattle.as5506.specs.Answers.{refusal, nowhere, Answer, refused}
use Rattle.as5506.specs.Tracing.{limit_or}
use Rattle.as5506.specs.Sheet.{Lent, sheet_faults, read_sheet}
use Rattle.as5506.specs.Program.{lent, text_lent, of_reading, what_fits, conlist_within, conlist, conlist_ignoring_case, modes, mode}
use Rattle.shown.specs.Shown.{Shown}
use Rattle.shown.proofs.Fits.{shown-within}
use Rattle.name.specs.declared.Reading.TheVariants.{Ported, CaseIgnored}
use Rattle.name.specs.Reading.{comparison}
use Rattle.on_sheet.specs.declared.Task.{Task}
use Rattle.on_sheet.specs.declared.Task.TheVariants.{Conlist, Modes, Mode}
use Rattle.on_sheet.specs.Tasks.{task_text, on_sheet, program, Writes}

-- ---- one byte more than a sheet may have

-- a sheet over 16,384 bytes is refused, whatever it holds
too_long : (l : Lent) (s : List ℕ) → 16384 < length s → read_sheet l s ≡ refused (refusal 1 nowhere)
unfolding read_sheet sheet_faults
too_long l s h = rw (lt-ltb 16384 (length s) h)

read-enough : (l : Lent) (s : List ℕ) → read_sheet l (take 16385 s) ≡ read_sheet l s
read-enough l s = go (dec_le (length s) 16385)
  where
    go : Dec (length s ≤ 16385) → read_sheet l (take 16385 s) ≡ read_sheet l s
    go (yes h) = ap (read_sheet l) (take_all 16385 s h)
    go (no h) =
        let n : length (take 16385 s) ≡ 16385 = length-take-le 16385 s (omega (arith, h)) in
        too_long l (take 16385 s) (omega (arith, n)) ∙ sym (too_long l s (omega (arith, h)))

-- THE FIRST 16,385 BYTES DECIDE what a program writes
pub enough : (task : Task) (n : ℕ) (s : List ℕ) → program task n (take 16385 s) ≡ program task n s
unfolding program on_sheet
enough task n s = ap (λ (a : Answer Tables). what_fits n (of_reading (task_text task n) a)) (read-enough lent s)

-- ---- each program is that of its task, with 8,192 bytes of text

pub list-is : (k n : ℕ) (s : List ℕ) → what_fits n (on_sheet (Conlist Ported k) n s) ≡ conlist_within k n s
unfolding on_sheet conlist_within comparison
list-is k n s = refl

-- CONLIST is the program of its task
pub conlist-is : (limit : Option ℕ) (k : ℕ) → k ≡ limit_or limit → (s : List ℕ) → program (Conlist Ported k) text_lent s ≡ conlist limit s
unfolding program on_sheet conlist_within conlist comparison
conlist-is limit k e s = rw e

ignoring-is : (limit : Option ℕ) (k : ℕ) → k ≡ limit_or limit → (s : List ℕ) → program (Conlist CaseIgnored k) text_lent s ≡ conlist_ignoring_case limit s
unfolding program on_sheet conlist_ignoring_case comparison
ignoring-is limit k e s = rw e

modes-is : (s : List ℕ) → program Modes text_lent s ≡ modes s
unfolding program on_sheet modes
modes-is s = refl

mode-is : (k : ℕ) (s : List ℕ) → program (Mode k) text_lent s ≡ mode k s
unfolding program on_sheet mode
mode-is k s = refl

-- ---- what is written

-- the text of a sheet in an output of n bytes: the sheet is the first `got` of an array of 16,385 bytes
pub writes : (task : Task) (n : ℕ) (read : List ℕ) (got : ℕ) (sheet text : List ℕ) (z : ℕ) (text' : List ℕ) → length read ≡ 16385 → sheet ≡ take got read
    → length text ≡ n → length text' ≡ length text → Shown (on_sheet task (length text) sheet) text z text' → Writes (program task n) read got z text'
unfolding program
writes task n read got sheet text z text' r w e k h =
    record {
      within = omega (arith, shown-within _ text z text' h, k);
      used = λ s q. h.used ∙ ap length (whole s q);
      output = λ s q. h.written ∙ (λ i. padded (sym k i) (whole s q i));
    }
  where
    whole : (s : List ℕ) → take (length read) s ≡ take got read → what_fits (length text) (on_sheet task (length text) sheet) ≡ what_fits n (on_sheet task n s)
    whole s q = (λ i. what_fits (e i) (on_sheet task (e i) (w i))) ∙ ap (program task n) (sym q ∙ ap (λ (k : ℕ). take k s) r) ∙ enough task n s

-- the same by another name
writes_as : (f g : List ℕ → List ℕ) → ((s : List ℕ) → f s ≡ g s) → (read : List ℕ) (got z : ℕ) (text' : List ℕ) → Writes f read got z text' → Writes g read got z text'
writes_as f g e read got z text' w =
    record {
      within = w.within;
      used = λ s q. w.used s q ∙ ap length (e s);
      output = λ s q. w.output s q ∙ ap (padded (length text')) (e s);
    }

-- WHAT EACH PROGRAM WRITES, from what its task leaves in the output
module _ (read : List ℕ) (got : ℕ) (sheet text : List ℕ) (z : ℕ) (text' : List ℕ)
    (r : length read ≡ 16385) (w : sheet ≡ take got read) (e : length text ≡ text_lent) (k : length text' ≡ length text) where
  pub conlist_writes : (limit : Option ℕ) (n : ℕ) → n ≡ limit_or limit → Shown (on_sheet (Conlist Ported n) (length text) sheet) text z text' → Writes (conlist limit) read got z text'
  conlist_writes limit n f h =
      writes_as (program (Conlist Ported n) text_lent) (conlist limit) (conlist-is limit n f) read got z text' (writes (Conlist Ported n) text_lent read got sheet text z text' r w e k h)

  pub ignoring_writes : (limit : Option ℕ) (n : ℕ) → n ≡ limit_or limit → Shown (on_sheet (Conlist CaseIgnored n) (length text) sheet) text z text'
      → Writes (conlist_ignoring_case limit) read got z text'
  ignoring_writes limit n f h =
      writes_as (program (Conlist CaseIgnored n) text_lent) (conlist_ignoring_case limit) (ignoring-is limit n f) read got z text' (writes (Conlist CaseIgnored n) text_lent read got sheet text z text' r w e k h)

  pub modes_writes : Shown (on_sheet Modes (length text) sheet) text z text' → Writes modes read got z text'
  modes_writes h = writes_as (program Modes text_lent) modes modes-is read got z text' (writes Modes text_lent read got sheet text z text' r w e k h)

  pub mode_writes : (n : ℕ) → Shown (on_sheet (Mode n) (length text) sheet) text z text' → Writes (mode n) read got z text'
  mode_writes n h = writes_as (program (Mode n) text_lent) (mode n) (mode-is n) read got z text' (writes (Mode n) text_lent read got sheet text z text' r w e k h)
