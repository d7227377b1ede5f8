-- What the private functions say: belongs to the code, and defines nothing of the sheet anew. Assumes nothing.
use Rattle.std.specs.Prelude.{Bool, true, false, not, cond, ◌&&◌, ◌||◌, ◌≡◌, ℕ, suc, ◌*◌, ◌≤◌, ◌<◌, eqb, leb, ltb, length, get_or, Result, MatchResult, Option, Some, None, option_map}
use mathlib.Core.List.{List, [], ◌∷◌, map, reverse_aux}
use Rattle.as5506.specs.Answers.{refusal, line, told, unless_faults}
use Rattle.as5506.specs.Columns.{order, rank, columns, line_bytes, letter_count}
use Rattle.as5506.specs.Lists.{first_of, zeros}
use Rattle.as5506.specs.Sheet.{Line, ended, unended, text_of, letter_of, lines_of, lines_with, keeps_rules, Lent, is_earlier, name_bytes, line_faults, faults_from, tables_read}
use Rattle.as5506.specs.Tables.{Tables, Letter, letter_n, table, width}
use Rattle.as5506.specs.declared.Refusal.{Refusal as Told}
use Rattle.sheet.specs.Read.{sheet_read}
use Rattle.sheet.specs.declared.Counts.{Counts}
use Rattle.sheet.specs.declared.Fault.{Fault}
use Rattle.sheet.specs.declared.Fault.TheVariants.{TooLong, NoLetter, OutOfOrder, BadLine, NoRoom}
use Rattle.fields.specs.Fields.{columns_of, plain}
use Rattle.sheet.specs.declared.Form.{Form}
use Rattle.sheet.specs.declared.Sizes.{Sizes}
use Rattle.sheet.specs.declared.Seen.{Seen}

-- ---- letters by their place in the order

abbrev pub letter_at : ℕ → Letter
letter_at k = get_or order k letter_n

-- the form of the lines of the letter at k
pub record FormOf (k : ℕ) (f : Form) : Type 0 where
  pub marks : columns_of f.marks.now ≡ map plain (columns (letter_at k))
  pub bytes : f.columns ≡ line_bytes (columns (letter_at k))

abbrev pub place_of : Option Letter → Option ℕ
place_of o = option_map rank o

-- letter_count where there is none
abbrev pub rank_of : Option Letter → ℕ
rank_of None = letter_count
rank_of (Some l) = rank l

-- the index of the first b, the length where there is none
unfoldable pub index_of : ℕ → List ℕ → ℕ
index_of b [] = 0
index_of b (x ∷ s) = cond (eqb x b) 0 (suc (index_of b s))

-- ---- what is lent, and what is used of it

abbrev pub lent_by : Sizes → Lent
lent_by room = record { bytes = room.bytes; numbers = λ l. get_or room.numbers (rank l) 0 }

-- what lines use fits the room, as far as a last line of the letter k may change it
abbrev pub has_room : ℕ → Sizes → Sizes → Bool
has_room k used room = leb (get_or used.numbers k 0) (get_or room.numbers k 0) && (not (eqb k 0) || leb used.bytes room.bytes)

-- no more than the bytes of a sheet
abbrev pub Small : Sizes → Type 0
Small used = (used.bytes ≤ 16384) × ((k : ℕ) → k < letter_count → get_or used.numbers k 0 ≤ 16384)

-- what the code has seen: the lines `before`, the nearest first
pub record Counted (seen : Seen) (before : List (List ℕ)) : Type 0 where
  pub last : (l : Letter) → is_earlier before l ≡ ltb (rank l) seen.last
  pub bytes : seen.used.bytes ≡ name_bytes before
  pub numbers : (l : Letter) → get_or seen.used.numbers (rank l) 0 ≡ length (lines_with l before) * width l

-- ---- faults

-- the number of what is wrong: 1 "over 16,384 bytes", 2 "letter unknown, or last line without LF", 3 "letter earlier in order than the line before's",
-- 4 "length, field or name against the sheet's rules", 5 "that letter's lent table, or at `N` the byte table, has no place"
abbrev pub fault_number : Fault → ℕ
fault_number TooLong = 1
fault_number NoLetter = 2
fault_number OutOfOrder = 3
fault_number BadLine = 4
fault_number NoRoom = 5

-- line k without a fault is seen, of another the first fault is told
abbrev pub Checked : Lent → List (List ℕ) → ℕ → List ℕ → Seen → Result (Unit {0}) Told → Type 0
Checked lent before k s seen z =
    MatchResult z (λ u. (line_faults lent before (ended s) ≡ []) × Counted seen (s ∷ before))
    (λ r. first_of (map (λ n. told (refusal n (line k))) (line_faults lent before (ended s))) ≡ Some r)

-- the answer from line k on, behind the lines `before` (the nearest first, so all lines in order are `reverse_aux before ..`)
unfoldable pub answer_from : Lent → List (List ℕ) → ℕ → List Line → Result Counts Told
answer_from lent before k ls = sheet_read (unless_faults (faults_from lent before k ls) (tables_read (reverse_aux before (map text_of ls))))

-- ---- writing

-- a line that has its LF, a known letter, and keeps that letter's rules
abbrev pub keeps_letter : List ℕ → Option Letter → Bool
keeps_letter s None = false
keeps_letter s (Some l) = keeps_rules l s

abbrev pub well_formed : Line → Bool
well_formed (unended s) = false
well_formed (ended s) = keeps_letter s (letter_of s)

-- the texts of a sheet's lines
abbrev pub texts : List ℕ → List (List ℕ)
texts s = map text_of (lines_of s)

-- a line's letter by its place in the order
abbrev pub line_rank : Line → ℕ
line_rank l = rank_of (letter_of (text_of l))

-- whether lines are well formed and their letters stand in order, none of them before k
abbrev pub in_order : ℕ → List Line → Bool
in_order k [] = true
in_order k (l ∷ ls) = well_formed l && leb k (line_rank l) && in_order (line_rank l) ls

-- the rest of the sheet s holds all its lines of the letters from k on, in order, and no others
pub record Left (s : List ℕ) (k : ℕ) (rest : List ℕ) : Type 0 where
  pub order : in_order k (lines_of rest) ≡ true
  pub lines : (l : Letter) → k ≤ rank l → lines_with l (texts rest) ≡ lines_with l (texts s)

-- every lent slice is zeros
pub record Cleared (before after : Tables) : Type 0 where
  pub bytes : after.bytes ≡ zeros (length before.bytes)
  pub tables : (l : Letter) → table after l ≡ zeros (length (table before l))
