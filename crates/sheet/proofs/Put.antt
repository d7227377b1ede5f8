-- Writing the tables: what a line writes, and the pass over the lines of a letter. Assumes nothing.
use mathlib.Core.Bool.{true}
use mathlib.Core.List.{List, [], ◌∷◌, ◌++◌, map}
use mathlib.Core.Path.{◌≡◌, refl, sym, ap, subst, ◌∙◌}
use Prim.Native.Nat.{ℕ, ◌+◌, ◌-◌, ◌≤◌, ◌<◌}
use native.Mathlib.Omega.{arith}
use borrow.Author.Rules.{rules}
use lib.ListN.{length, take, drop, get_or, length-append, length-drop}
use lib.Seq.{sets, length-sets, take_all, drop-drop}
use Rattle.std.specs.Prelude.{Option as Found, Some, None, MatchOption}
use Rattle.std.specs.Option.{IsSome}
use Rattle.as5506.specs.Columns.{rank, letter_byte, Column, columns, letter_count, line_bytes, row_cells}
use Rattle.as5506.specs.Fields.{field_numbers}
use Rattle.as5506.specs.Lists.{each}
use Rattle.as5506.specs.Sheet.{text_of, lines_of, lines_with, line_name, line_row, placed, rows_read}
use Rattle.as5506.specs.Tables.{Letter, letter_n}
use Rattle.as5506.proofs.Fields.{numbers-length}
use Rattle.fields.specs.Fields.{columns_of}
use Rattle.fields.proofs.Laws.{plain-bytes, plain-numbers, plain-cells}
use Rattle.lent.proofs.Sets.{sets-append}
use Rattle.sheet.proofs.Check.{name-size}
use Rattle.sheet.proofs.Letters.{letters, widths, rank-at, code-byte, cell-count, letter-byte, other_byte}
use Rattle.sheet.proofs.Lines.{stop_of}
use Rattle.sheet.proofs.Order.{Turn, turn, row-turn, none-later, passed}
use Rattle.sheet.proofs.Rows.{own_line, other-line}
use Rattle.sheet.specs.Steps.{letter_at, FormOf, texts, in_order, Left}
use Rattle.sheet.specs.declared.Form.{Form}

-- ---- the pass of the letter l over the sheet s₀ stands before its rest s: of later letters all lines are left

pub record Going (l : Letter) (s₀ s : List ℕ) : Type 0 where
  pub order : in_order (rank l) (lines_of s) ≡ true
  pub later : (m : Letter) → rank l < rank m → lines_with m (texts s) ≡ lines_with m (texts s₀)

-- what a pass leaves of what the passes before it left
pub left_on : (s r t : List ℕ) (k : ℕ) → Left s k r → Left r (k + 1) t → Left s (k + 1) t
left_on s r t k a b = record { order = b.order; lines = λ l h. b.lines l h ∙ a.lines l (omega arith) }

-- the rows of a letter are those of the whole sheet
pub rows-left : (s r : List ℕ) (l : Letter) → Left s (rank l) r → rows_read l (texts r) ≡ rows_read l (texts s)
unfolding rows_read
rows-left s r l k = ap (each (line_row l)) (k.lines l (omega arith))

-- so they fit where those do, and are written as those
module _ (s r : List ℕ) (l : Letter) (k : Left s (rank l) r) where
  pub left-fits : (n : ℕ) → length (rows_read l (texts s)) ≤ n → length (rows_read l (texts r)) ≤ n
  left-fits n h = rw (rows-left s r l k) h

  pub left-written : (t t' : List ℕ) → t' ≡ sets t 0 (rows_read l (texts r)) → t' ≡ sets t 0 (rows_read l (texts s))
  left-written t t' e = e ∙ ap (sets t 0) (rows-left s r l k)

module _ (l : Letter) (s₀ s : List ℕ) (g : Going l s₀ s) (b : get_or s 0 0 ≡ letter_byte l → ⊥) where
  -- the end: no line of the letter l begins
  pub going-end : Left s₀ (rank l + 1) s
  going-end = record { order = passed l s b g.order; lines = λ m h. g.later m (omega (arith, h)) }

  pub none-left : lines_with l (texts s) ≡ []
  none-left = none-later l (rank l + 1) (lines_of s) (omega arith) going-end.order

-- ---- a turn

module _ (l : Letter) (s : List ℕ) (stop : ℕ) (turn : Turn l s stop) where
  abbrev line : List ℕ
  line = take stop s

  abbrev rest : List ℕ
  rest = drop (stop + 1) s

  texts-are : texts s ≡ line ∷ texts rest
  texts-are = ap (map text_of) turn.lines_are

  -- of the letter l it takes the first line away
  lines_left : lines_with l (texts s) ≡ line ∷ lines_with l (texts rest)
  lines_left = ap (lines_with l) texts-are ∙ own_line l line (texts rest) (letter-byte line l turn.known)

  -- of a later letter none
  still-left : (m : Letter) → rank l < rank m → lines_with m (texts s) ≡ lines_with m (texts rest)
  still-left m h = ap (lines_with m) texts-are ∙ other-line m line (texts rest) (other_byte line l m turn.known (λ z. omega (arith, h)))

  pub going-turn : (s₀ : List ℕ) → Going l s₀ s → Going l s₀ rest
  going-turn s₀ g = record { order = turn.rest; later = λ m h. sym (still-left m h) ∙ g.later m h }

  -- for the rows of a letter
  pub rows_split : rows_read l (texts s) ≡ line_row l line ++ rows_read l (texts rest)
  unfolding rows_read
  rows_split = ap (each (line_row l)) lines_left

  pub rest-shorter : length rest + stop + 1 ≡ length s
  rest-shorter = omega (arith, length-drop (stop + 1) s, turn.inside)

module _ (s : List ℕ) (stop : ℕ) (turn : Turn letter_n s stop) where
  -- a name has 1 to 63 bytes behind the letter and a space
  pub name-room : (3 ≤ stop) × (stop ≤ 65)
  name-room = let n = name-size (take stop s) turn.rules in (omega (arith, n.0, turn.size), omega (arith, n.1, turn.size))

  pub name-bytes : length (drop 2 (take stop s)) ≡ stop - 2
  name-bytes = omega (arith, length-drop 2 (take stop s), turn.size)

  -- for the names
  pub names_split : each line_name (lines_with letter_n (texts s)) ≡ drop 2 (take stop s) ++ each line_name (lines_with letter_n (texts (drop (stop + 1) s)))
  names_split = ap (each line_name) (lines_left letter_n s stop turn)

  -- for the rows of names
  pub placed_split : (used : ℕ) → placed used (map line_name (lines_with letter_n (texts s)))
      ≡ (used ∷ (stop - 2) ∷ []) ++ placed (used + (stop - 2)) (map line_name (lines_with letter_n (texts (drop (stop + 1) s))))
  unfolding placed
  placed_split used = ap (λ (ls : List (List ℕ)). placed used (map line_name ls)) (lines_left letter_n s stop turn) ∙ rw name-bytes

pub none-placed : (used : ℕ) → placed used [] ≡ []
unfolding placed
none-placed used = refl

none-rows : (l : Letter) (s : List ℕ) → lines_with l (texts s) ≡ [] → rows_read l (texts s) ≡ []
unfolding rows_read
none-rows l s e = ap (each (line_row l)) e

-- ---- writing: of `all` the part W is left, which goes to the table t from index `at` on; t₀ is the table at the start

pub record Writing (t₀ t W all : List ℕ) (at : ℕ) : Type 0 where
  pub room : at + length W ≤ length t
  pub left : sets t at W ≡ sets t₀ 0 all

module _ (t₀ t W all : List ℕ) (at : ℕ) (w : Writing t₀ t W all at) where
  module _ (A R : List ℕ) (split : W ≡ A ++ R) where
    -- a block A has its place
    pub writing-room : at + length A ≤ length t
    writing-room = omega (arith, w.room, ap length split ∙ length-append A R)

    -- it is written, and R is left
    pub writing-turn : (t' : List ℕ) (at' : ℕ) → t' ≡ sets t at A → at' ≡ at + length A → Writing t₀ t' R all at'
    writing-turn t' at' wrote next =
        record {
          room = omega (arith, next, ap length split ∙ length-append A R, w.room, ap length wrote ∙ length-sets t at A);
          left = rw (wrote, next) (sym (sets-append A R t at)) ∙ ap (sets t at) (sym split) ∙ w.left;
        }

  pub writing-end : W ≡ [] → t ≡ sets t₀ 0 all
  writing-end e = sym (ap (sets t at) e) ∙ w.left

-- ---- a turn of the code, and its end: b is the byte that the rest s begins with, `line` and `behind` are what the code takes s to

module _ (s₀ s : List ℕ) (going : Going letter_n s₀ s) (b : ℕ) (first : b ≡ get_or s 0 0) where
  module _ (same : b ≡ 78) where
    name-line : Turn letter_n s (stop_of s)
    name-line = turn letter_n s (sym first ∙ same) going.order

    pub name_found : {A : Type 0} (r : Found A) (P : A → Type 0) → MatchOption r (stop_of s ≡ length s) P → IsSome r
    name_found None P h = absurd (omega (arith, h, name-line.inside))
    name_found (Some x) P h = search rules

    module _ (line behind : List ℕ) (front : line ≡ take (stop_of s) s) (rear : behind ≡ drop (stop_of s + 1) s) where
      abbrev name : List ℕ
      name = take (length line - 2) (drop 2 line)

      pub line_some : 2 ≤ length line
      line_some = omega (arith, ap length front, name-line.size, (name-room s (stop_of s) name-line).0)

      name-is : name ≡ drop 2 (take (stop_of s) s)
      name-is = take_all (length line - 2) (drop 2 line) (omega (arith, length-drop 2 line)) ∙ ap (drop 2) front

      name-size-is : length name ≡ stop_of s - 2
      name-size-is = ap length name-is ∙ name-bytes s (stop_of s) name-line

      pub names_going : Going letter_n s₀ behind
      names_going = rw rear (going-turn letter_n s (stop_of s) name-line s₀ going)

      pub names_turn : (t₀ t t' all : List ℕ) (at : ℕ) → Writing t₀ t (each line_name (lines_with letter_n (texts s))) all at → t' ≡ sets t at name
          → Writing t₀ t' (each line_name (lines_with letter_n (texts behind))) all (at + length name)
      names_turn t₀ t t' all at w wrote =
          rw rear
          (writing-turn t₀ t _ all at w (drop 2 (take (stop_of s) s)) (each line_name (lines_with letter_n (texts (drop (stop_of s + 1) s)))) (names_split s (stop_of s) name-line) t' (at + length name)
          (wrote ∙ ap (sets t at) name-is) (ap (λ (n : List ℕ). at + length n) name-is))

      pub placed_turn : (t₀ t t' all : List ℕ) (at used : ℕ) → Writing t₀ t (placed used (map line_name (lines_with letter_n (texts s)))) all at → t' ≡ sets t at (used ∷ length name ∷ [])
          → Writing t₀ t' (placed (used + length name) (map line_name (lines_with letter_n (texts behind)))) all (at + 2)
      placed_turn t₀ t t' all at used w wrote =
          rw (rear, name-size-is)
          (writing-turn t₀ t _ all at w (used ∷ (stop_of s - 2) ∷ []) (placed (used + (stop_of s - 2)) (map line_name (lines_with letter_n (texts (drop (stop_of s + 1) s)))))
          (placed_split s (stop_of s) name-line used) t' (at + 2) (wrote ∙ ap (λ (n : ℕ). sets t at (used ∷ n ∷ [])) name-size-is) refl)

      pub names_fewer : (used n : ℕ) → used + length s ≤ n → used + length name + length behind ≤ n
      names_fewer used n h = omega (arith, h, name-size-is, ap length rear, rest-shorter letter_n s (stop_of s) name-line, (name-room s (stop_of s) name-line).0)

  module _ (other : b ≡ 78 → ⊥) where
    none-here : lines_with letter_n (texts s) ≡ []
    none-here = none-left letter_n s₀ s going (λ e. other (first ∙ e))

    pub names_passed : Left s₀ 1 s
    names_passed = going-end letter_n s₀ s going (λ e. other (first ∙ e))

    pub names_done : (t₀ t all : List ℕ) (at : ℕ) → Writing t₀ t (each line_name (lines_with letter_n (texts s))) all at → t ≡ sets t₀ 0 all
    names_done t₀ t all at w = writing-end t₀ t _ all at w (rw none-here)

    pub placed_done : (t₀ t all : List ℕ) (at used : ℕ) → Writing t₀ t (placed used (map line_name (lines_with letter_n (texts s)))) all at → t ≡ sets t₀ 0 all
    placed_done t₀ t all at used w = writing-end t₀ t _ all at w (rw none-here (none-placed used))

pub ruleset put_name_laws = (name_found, line_some, names_going, names_turn, placed_turn, names_fewer, names_passed, names_done, placed_done)

-- the same of a letter at k other than N, whose lines have the form f: b is the byte that the rest s begins with
module _ (s₀ s : List ℕ) (k : ℕ) (h : k < letter_count) (going : Going (letter_at k) s₀ s) (b : ℕ) (first : b ≡ get_or s 0 0) where
  module _ (p : 0 < k) (f : Form) (form : FormOf k f) (same : b ≡ get_or letters k 0) where
    abbrev l : Letter
    l = letter_at k

    abbrev cs : List Column
    cs = columns_of f.marks.now

    row-line : Turn l s (1 + line_bytes (columns l))
    row-line = row-turn l s (λ z. omega (arith, z, rank-at k h, p)) (sym first ∙ same ∙ code-byte k h) going.order

    pub row_inside : 1 + f.columns ≤ length s
    row_inside = omega (arith, row-line.inside, form.bytes)

    module _ (line back : List ℕ) (front : line ≡ take (1 + f.columns) s) (rear : back ≡ drop (1 + f.columns) s) where
      abbrev fields : List ℕ
      fields = take (length line - 1) (drop 1 line)

      abbrev behind : List ℕ
      behind = take (length back - 1) (drop 1 back)

      fields_are : fields ≡ drop 1 (take (1 + line_bytes (columns l)) s)
      fields_are = take_all (length line - 1) (drop 1 line) (omega (arith, length-drop 1 line)) ∙ ap (drop 1) front ∙ ap (λ (n : ℕ). drop 1 (take (1 + n) s)) form.bytes

      pub fields_size : length fields ≡ line_bytes cs
      fields_size = omega (arith, ap length fields_are, length-drop 1 (take (1 + line_bytes (columns l)) s), row-line.size, ap line_bytes form.marks, plain-bytes (columns l))

      -- behind it stands its LF
      pub back_some : 1 ≤ length back
      back_some = omega (arith, ap length rear, length-drop (1 + f.columns) s, form.bytes, row-line.inside)

      behind-is : behind ≡ drop (1 + line_bytes (columns l) + 1) s
      behind-is = take_all (length back - 1) (drop 1 back) (omega (arith, length-drop 1 back)) ∙ ap (drop 1) rear ∙ drop-drop 1 (1 + f.columns) s ∙ ap (λ (n : ℕ). drop (1 + n + 1) s) form.bytes

      row-is : field_numbers cs fields ≡ line_row l (take (1 + line_bytes (columns l)) s)
      row-is = ap (λ (cs : List Column). field_numbers cs fields) form.marks ∙ plain-numbers (columns l) fields ∙ ap (field_numbers (columns l)) fields_are

      row-width : length (line_row l (take (1 + line_bytes (columns l)) s)) ≡ get_or widths k 0
      row-width = numbers-length (columns l) _ ∙ cell-count k p h

      module _ (t₀ t all : List ℕ) (at : ℕ) (w : Writing t₀ t (rows_read l (texts s)) all at) where
        pub rows_room : at + row_cells cs ≤ length t
        rows_room =
            omega (
              arith,
              numbers-length (columns l) (drop 1 (take (1 + line_bytes (columns l)) s)),
              ap row_cells form.marks,
              plain-cells (columns l),
              writing-room t₀ t _ all at w (line_row l (take (1 + line_bytes (columns l)) s)) _ (rows_split l s (1 + line_bytes (columns l)) row-line),
            )

        pub rows_turn : (t' : List ℕ) → t' ≡ sets t at (field_numbers cs fields) → Writing t₀ t' (rows_read l (texts behind)) all (at + get_or widths k 0)
        rows_turn t' wrote =
            rw behind-is
            (writing-turn t₀ t _ all at w (line_row l (take (1 + line_bytes (columns l)) s)) _ (rows_split l s (1 + line_bytes (columns l)) row-line) t' _ (wrote ∙ ap (sets t at) row-is)
            (ap (λ (n : ℕ). at + n) (sym row-width)))

      pub rows_going : Going l s₀ behind
      rows_going = rw behind-is (going-turn l s (1 + line_bytes (columns l)) row-line s₀ going)

  module _ (other : b ≡ get_or letters k 0 → ⊥) where
    not-here : get_or s 0 0 ≡ letter_byte (letter_at k) → ⊥
    not-here e = other (first ∙ e ∙ sym (code-byte k h))

    pub rows_passed : Left s₀ (k + 1) s
    rows_passed = subst (λ (j : ℕ). Left s₀ (j + 1) s) (rank-at k h) (going-end (letter_at k) s₀ s going not-here)

    pub rows_done : (t₀ t all : List ℕ) (at : ℕ) → Writing t₀ t (rows_read (letter_at k) (texts s)) all at → t ≡ sets t₀ 0 all
    rows_done t₀ t all at w = writing-end t₀ t _ all at w (none-rows (letter_at k) s (none-left (letter_at k) s₀ s going not-here))

pub ruleset put_row_laws = (row_inside, fields_size, back_some, rows_room, rows_turn, rows_going, rows_passed, rows_done)
