-- Lines in order: the first one, and where the lines of a letter end. Assumes nothing.
use mathlib.Core.Bool.{true, ◌&&◌, false≢true}
use mathlib.Core.List.{List, [], ◌∷◌, map}
use mathlib.Core.Path.{◌≡◌, refl, sym, ap, subst, ◌∙◌}
use Prim.Native.Nat.{ℕ, ◌+◌, ◌≤◌, ◌<◌}
use native.Mathlib.Decide.{dec_le, ℕ_discrete}
use native.Mathlib.Omega.{arith}
use borrow.Author.Tests.{eqb-true, leb-true, le-leb}
use lib.Dec.{leb}
use lib.ListN.{length, take, drop, get_or}
use lib.Seq.{get_or-take, length-take-le}
use Rattle.std.specs.Prelude.{Option, Some, None}
use Rattle.std.proofs.lemmas.Option.{none-some}
use Rattle.as5506.specs.Columns.{rank, letter_byte, columns, line_bytes}
use Rattle.as5506.specs.Sheet.{Line, ended, unended, text_of, letter_of, lines_of, lines_with, keeps_rules, line_feed}
use Rattle.as5506.specs.Tables.{Letter}
use Rattle.std.proofs.lemmas.Bool.{and_parts}
use Rattle.sheet.proofs.Check.{row-size}
use Rattle.sheet.proofs.Letters.{same-letter, letter-byte, byte-within, same_byte, other_byte}
use Rattle.sheet.proofs.Lines.{index-within, stop_of, no_lines, last_line, next-line}
use Rattle.sheet.proofs.Rows.{none-with, other-line}
use Rattle.sheet.specs.Steps.{rank_of, keeps_letter, in_order}

-- ---- the first of lines in order, none of a letter before k

record First (k : ℕ) (s : List ℕ) (ls : List Line) : Type 0 where
  letter : Letter
  known : letter_of s ≡ Some letter
  rules : keeps_rules letter s ≡ true
  order : k ≤ rank letter
  rest : in_order (rank letter) ls ≡ true

first_of : (k : ℕ) (s : List ℕ) (ls : List Line) → in_order k (ended s ∷ ls) ≡ true → First k s ls
first_of k s ls e = go (letter_of s) refl e
  where
    go : (o : Option Letter) → letter_of s ≡ o → (keeps_letter s o && leb k (rank_of o) && in_order (rank_of o) ls) ≡ true → First k s ls
    go None q e = absurd (false≢true e)
    go (Some l) q e =
        let a = and_parts (keeps_rules l s && leb k (rank l)) (in_order (rank l) ls) e in
        let b = and_parts (keeps_rules l s) (leb k (rank l)) a.0 in
        record { letter = l; known = q; rules = b.0; order = leb-true k (rank l) b.1; rest = a.1 }

pub first-in : (k : ℕ) (s : List ℕ) (ls : List Line) (l : Letter) → letter_of s ≡ Some l → keeps_rules l s ≡ true → k ≤ rank l → in_order (rank l) ls ≡ true → in_order k (ended s ∷ ls) ≡ true
first-in k s ls l known rules order rest = rw (known, rules, le-leb k (rank l) order) rest

-- among lines of later letters there is none of the letter l
pub none-later : (l : Letter) (k : ℕ) (ls : List Line) → rank l < k → in_order k ls ≡ true → lines_with l (map text_of ls) ≡ []
none-later l k [] h e = none-with l
none-later l k (unended s ∷ ls) h e = absurd (false≢true e)
none-later l k (ended s ∷ ls) h e =
    let f = first_of k s ls e in
    other-line l s (map text_of ls) (other_byte s f.letter l f.known (λ z. omega (arith, h, f.order)))
    ∙ none-later l (rank f.letter) ls (omega (arith, h, f.order)) f.rest

-- ---- the first line of s, whose LF stands at `stop`

-- it is of the letter l, and lines in order follow
pub record Turn (l : Letter) (s : List ℕ) (stop : ℕ) : Type 0 where
  pub inside : stop < length s
  pub lines_are : lines_of s ≡ ended (take stop s) ∷ lines_of (drop (stop + 1) s)
  pub size : length (take stop s) ≡ stop
  pub known : letter_of (take stop s) ≡ Some l
  pub rules : keeps_rules l (take stop s) ≡ true
  pub begins : get_or s 0 0 ≡ letter_byte l
  pub rest : in_order (rank l) (lines_of (drop (stop + 1) s)) ≡ true

-- the same of some letter from k on
record Met (k : ℕ) (s : List ℕ) : Type 0 where
  letter : Letter
  order : k ≤ rank letter
  turn : Turn letter s (stop_of s)

known_some : (t : List ℕ) (l : Letter) → letter_of t ≡ Some l → 0 < length t
unfolding letter_of
known_some [] l e = absurd (none-some l e)
known_some (b ∷ t) l e = omega arith

-- its first byte is the letter's
begins-with : (l : Letter) (s : List ℕ) (n : ℕ) → length (take n s) ≡ n → letter_of (take n s) ≡ Some l → get_or s 0 0 ≡ letter_byte l
begins-with l s n size known =
    let some_bytes = known_some (take n s) l known in
    sym (get_or-take n s 0 0 (omega arith)) ∙ eqb-true (get_or (take n s) 0 0) (letter_byte l) (letter-byte (take n s) l known)

met : (k : ℕ) (s : List ℕ) → 0 < length s → in_order k (lines_of s) ≡ true → Met k s
met k s h w =
    elim (dec_le (length s) (stop_of s)) [
      | yes n ↦ absurd (false≢true (rw (last_line s h (omega (arith, index-within s line_feed))) at w))
      | no n ↦ going (omega arith)
    ]
  where
    going : stop_of s < length s → Met k s
    going n =
        let e = next-line s n in
        let f = first_of k (take (stop_of s) s) (lines_of (drop (stop_of s + 1) s)) (rw e at w) in
        let z = length-take-le (stop_of s) s (omega arith) in
        record {
          letter = f.letter;
          order = f.order;
          turn = record { inside = n; lines_are = e; size = z; known = f.known; rules = f.rules; begins = begins-with f.letter s (stop_of s) z f.known; rest = f.rest };
        }

module _ (l : Letter) (s : List ℕ) where
  -- where the letter's byte stands, a line of the letter begins
  pub turn : get_or s 0 0 ≡ letter_byte l → in_order (rank l) (lines_of s) ≡ true → Turn l s (stop_of s)
  turn b w =
      let m = met (rank l) s (byte-within s 0 l b) w in
      subst (λ (x : Letter). Turn x s (stop_of s)) (same_byte m.letter l (sym m.turn.begins ∙ b)) m.turn

  -- of a letter other than N such a line takes the columns of its fields: behind them stands its LF
  pub row-turn : (rank l ≡ 0 → ⊥) → get_or s 0 0 ≡ letter_byte l → in_order (rank l) (lines_of s) ≡ true → Turn l s (1 + line_bytes (columns l))
  row-turn z b w =
      let t = turn b w in
      subst (λ (j : ℕ). Turn l s j) (sym t.size ∙ row-size (take (stop_of s) s) l z t.rules) t

  -- where no line of the letter l begins, the lines of later letters do
  pub passed : (get_or s 0 0 ≡ letter_byte l → ⊥) → in_order (rank l) (lines_of s) ≡ true → in_order (rank l + 1) (lines_of s) ≡ true
  passed b w =
      elim (dec_le (length s) 0) [
        | yes n ↦ rw (no_lines s (omega arith)) refl
        | no n ↦ going (met (rank l) s (omega arith) w)
      ]
    where
      other : (m : Letter) → get_or s 0 0 ≡ letter_byte m → rank l ≤ rank m → rank l + 1 ≤ rank m
      other m e h =
          elim (ℕ_discrete (rank l) (rank m)) [
            | yes same ↦ absurd (b (e ∙ ap letter_byte (same-letter m l (sym same))))
            | no z ↦ omega arith
          ]

      going : Met (rank l) s → in_order (rank l + 1) (lines_of s) ≡ true
      going m =
          let t = m.turn in
          ap (in_order (rank l + 1)) t.lines_are
          ∙ first-in (rank l + 1) (take (stop_of s) s) (lines_of (drop (stop_of s + 1) s)) m.letter t.known t.rules (other m.letter t.begins m.order) t.rest
