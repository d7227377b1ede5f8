-- Letters, their places in the order, and tables with an entry for each. Assumes nothing.
use mathlib.Core.Bool.{Bool, true, false, cond}
use mathlib.Core.List.{List, [], ◌∷◌, map}
use mathlib.Core.Path.{◌≡◌, refl, sym, ap, ◌∙◌}
use Prim.Native.Nat.{ℕ, suc, ◌+◌, ◌≤◌, ◌<◌}
use native.Mathlib.Decide.{dec_le}
use native.Mathlib.Omega.{arith}
use borrow.Author.Tests.{eqb-true, eq-eqb}
use lib.Dec.{eqb}
use lib.ListN.{length, get_or, drop, get_or-eq_default}
use Rattle.as5506.specs.Columns.{order, rank, letter_byte, columns, letter_count, line_bytes, row_cells}
use Rattle.as5506.specs.Lists.{span, put_if, keep, first_of}
use Rattle.as5506.specs.Sheet.{letter_of}
use Rattle.as5506.specs.Tables.{Letter, letter_n, width}
use Rattle.as5506.proofs.Letters.{each-letter, row-cells as width-cells, letter-byte as begins-with, byte-letter as begun-by, byte-some}
use Rattle.std.specs.Prelude.{Option, Some, None, MatchOption}
use Rattle.std.proofs.lemmas.List.{get_or-map}
use Rattle.std.proofs.lemmas.Option.{none-some, same_Some}
use Rattle.as5506.proofs.Laws.{up_to-entry}
use Rattle.sheet.proofs.Lines.{index_found, index_none}
use Rattle.sheet.specs.Steps.{letter_at, place_of, rank_of, index_of}

-- ---- by rank

pub letter_at_lem : (l : Letter) → letter_at (rank l) ≡ l
letter_at_lem = each-letter (λ l. letter_at (rank l) ≡ l) refl refl refl refl refl refl refl refl refl refl refl refl

pub same-letter : (a b : Letter) → rank a ≡ rank b → a ≡ b
same-letter a b e = sym (letter_at_lem a) ∙ ap letter_at e ∙ letter_at_lem b

pub rank_below : (l : Letter) → rank l < letter_count
rank_below = each-letter (λ l. rank l < letter_count) (omega arith) (omega arith) (omega arith) (omega arith) (omega arith) (omega arith) (omega arith) (omega arith) (omega arith) (omega arith) (omega arith) (omega arith)

entry : (f : Letter → ℕ) (k : ℕ) → k < letter_count → get_or (map f order) k 0 ≡ f (letter_at k)
entry f k h = get_or-map f order k letter_n 0 h

pub rank-at : (k : ℕ) → k < letter_count → rank (letter_at k) ≡ k
rank-at k h = sym (entry rank k h) ∙ up_to-entry letter_count k 0 h

-- as5506::WIDTHS and LETTERS
abbrev pub widths : List ℕ
widths = map width order

abbrev pub letters : List ℕ
letters = map letter_byte order

module _ (k : ℕ) (h : k < letter_count) where
  pub width-at : get_or widths k 0 ≡ width (letter_at k)
  width-at = entry width k h

  pub code-byte : get_or letters k 0 ≡ letter_byte (letter_at k)
  code-byte = entry letter_byte k h

pub width_small : (l : Letter) → width l < 10
width_small = each-letter (λ l. width l < 10) (omega arith) (omega arith) (omega arith) (omega arith) (omega arith) (omega arith) (omega arith) (omega arith) (omega arith) (omega arith) (omega arith) (omega arith)

-- a line of a letter other than N has more bytes than its row has numbers
pub width-bytes : (l : Letter) → (rank l ≡ 0 → ⊥) → width l ≤ line_bytes (columns l)
width-bytes =
    each-letter (λ l. (rank l ≡ 0 → ⊥) → width l ≤ line_bytes (columns l))
    (λ z. absurd (z refl)) (λ z. omega arith) (λ z. omega arith) (λ z. omega arith) (λ z. omega arith) (λ z. omega arith) (λ z. omega arith) (λ z. omega arith) (λ z. omega arith) (λ z. omega arith) (λ z. omega arith) (λ z. omega arith)

pub bytes-few : (l : Letter) → line_bytes (columns l) < 100
bytes-few = each-letter (λ l. line_bytes (columns l) < 100) (omega arith) (omega arith) (omega arith) (omega arith) (omega arith) (omega arith) (omega arith) (omega arith) (omega arith) (omega arith) (omega arith) (omega arith)

-- of every letter but N the row has the numbers of its fields
pub cell-count : (k : ℕ) → 0 < k → k < letter_count → row_cells (columns (letter_at k)) ≡ get_or widths k 0
cell-count k p h = sym (width-at k h ∙ width-cells (letter_at k) (λ z. omega (arith, z, rank-at k h)))

-- ---- a line's letter

-- the first of letters of ranks i, i + 1, .. to 11
first_by : (b : ℕ) (ls : List Letter) (i : ℕ) → map rank ls ≡ span i (length ls) → i + length ls ≡ letter_count
    → rank_of (first_of (keep (λ l. eqb (letter_byte l) b) ls)) ≡ i + index_of b (map letter_byte ls)
unfolding index_of
first_by b [] i e n = omega arith
first_by b (l ∷ ls) i e n = go (eqb (letter_byte l) b) (first_by b ls (suc i) (ap (drop 1) e) (omega arith))
  where
    go : (t : Bool) → rank_of (first_of (keep (λ l. eqb (letter_byte l) b) ls)) ≡ suc i + index_of b (map letter_byte ls)
        → rank_of (first_of (put_if t l (keep (λ l. eqb (letter_byte l) b) ls))) ≡ i + cond t 0 (suc (index_of b (map letter_byte ls)))
    go true h = ap (λ (x : List ℕ). get_or x 0 0) e ∙ omega arith
    go false h = h ∙ omega arith

-- the place of its first byte among the letters is its rank
pub letter-rank : (s : List ℕ) → index_of (get_or s 0 0) letters ≡ rank_of (letter_of s)
unfolding letter_of index_of
letter-rank [] = refl
letter-rank (b ∷ s) = sym (first_by b order 0 refl refl ∙ omega arith)

-- the code's letter: the place of the first byte among the letters
pub letter_found : (s : List ℕ) (b : ℕ) (r : Option ℕ) → b ≡ get_or s 0 0
    → MatchOption r ((k : ℕ) → k < 12 → get_or letters k 0 ≡ b → ⊥) (λ i. (i < 12) × (get_or letters i 0 ≡ b) × ((k : ℕ) → k < i → get_or letters k 0 ≡ b → ⊥))
    → r ≡ place_of (letter_of s)
letter_found s b None e z = go (letter_of s) (sym (letter-rank s) ∙ ap (λ (b : ℕ). index_of b letters) (sym e) ∙ index_none letters b z)
  where
    go : (o : Option Letter) → rank_of o ≡ 12 → None ≡ place_of o
    go None h = refl
    go (Some l) h = absurd (omega (arith, h, rank_below l))
letter_found s b (Some k) e z = go (letter_of s) (sym (letter-rank s) ∙ ap (λ (b : ℕ). index_of b letters) (sym e) ∙ sym (index_found letters b k z.0 z.1 z.2))
  where
    go : (o : Option Letter) → rank_of o ≡ k → Some k ≡ place_of o
    go None q = absurd (omega (arith, z.0, q))
    go (Some l) q = ap Some (sym q)

-- a line of a known letter begins with that letter's byte
pub letter-byte : (s : List ℕ) (l : Letter) → letter_of s ≡ Some l → eqb (get_or s 0 0) (letter_byte l) ≡ true
letter-byte s l e = eq-eqb (get_or s 0 0) (letter_byte l) (begins-with s l e)

-- a letter stands within the sheet
pub byte-within : (s : List ℕ) (i : ℕ) (l : Letter) → get_or s i 0 ≡ letter_byte l → i < length s
byte-within s i l e =
    elim (dec_le (length s) i) [
      | yes n ↦ absurd (omega (arith, get_or-eq_default s 0 n, e, byte-some l))
      | no n ↦ omega arith
    ]

-- and a line that begins with it is of that letter
pub byte-letter : (s : List ℕ) (l : Letter) → eqb (get_or s 0 0) (letter_byte l) ≡ true → letter_of s ≡ Some l
byte-letter s l e = begun-by s l (eqb-true (get_or s 0 0) (letter_byte l) e)

pub same_byte : (a b : Letter) → letter_byte a ≡ letter_byte b → a ≡ b
same_byte a b e = same_Some a b (sym (begun-by (letter_byte a ∷ []) a refl) ∙ begun-by (letter_byte a ∷ []) b e)

known_at : (o : Option Letter) (k : ℕ) → Some k ≡ place_of o → o ≡ Some (letter_at k)
known_at None k e = absurd (none-some k (sym e))
known_at (Some l) k e = ap Some (sym (letter_at_lem l) ∙ ap letter_at (sym (same_Some k (rank l) e)))

-- the letter of a line whose place the code has
pub letter-is : (s : List ℕ) (k : ℕ) → Some k ≡ place_of (letter_of s) → letter_of s ≡ Some (letter_at k)
letter-is s = known_at (letter_of s)

pub letter-below : (s : List ℕ) (k : ℕ) → Some k ≡ place_of (letter_of s) → k < letter_count
letter-below s k e = rw (same_Some k _ (e ∙ ap place_of (letter-is s k e))) (rank_below (letter_at k))

-- a line of one letter is of no other
pub other_byte : (s : List ℕ) (a b : Letter) → letter_of s ≡ Some a → (rank b ≡ rank a → ⊥) → eqb (get_or s 0 0) (letter_byte b) ≡ false
other_byte s a b e z = go (eqb (get_or s 0 0) (letter_byte b)) refl
  where
    go : (t : Bool) → eqb (get_or s 0 0) (letter_byte b) ≡ t → t ≡ false
    go false q = refl
    go true q = absurd (z (let h : b ≡ a = cc (byte-letter s b q) in ap rank h))
