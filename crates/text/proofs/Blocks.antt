-- Laws of a row's text: its block, with the three names that stand with it or in the tables. Assumes nothing.
use mathlib.Core.Path.{◌≡◌, refl, sym, ap, ap₂, ◌∙◌}
use mathlib.Core.List.{List, [], ◌∷◌, ◌++◌, append_assoc}
use Prim.Native.Nat.{ℕ, ◌+◌, ◌≤◌, ◌<◌}
use native.Mathlib.Numerals.{add-one}
use native.Mathlib.Omega.{arith}
use lib.ListN.{length, get_or, take, drop, drop_of_length-le}
use lib.Seq.{drop-cons}
use Rattle.as5506.specs.Lists.{each, bytes_of}
use Rattle.as5506.specs.Tables.{Tables, name_of}
use Rattle.as5506.specs.Layout.{row_back, group_back, names_behind}
use Rattle.as5506.specs.Text.{column, number_line, text_line, row_text}
use Rattle.text.specs.Printing.{row_named, group_rows}

-- ---- group rows

-- a row, with whose names the names begin, and those after it
pub group-next : (rows : List (List ℕ)) (names behind : List ℕ) (i : ℕ) → i < length rows → behind ≡ names_behind (get_or rows i []) names
    → each row_text (group_rows (drop i rows) names)
    ≡ row_text (group_back (get_or rows i []) names) ++ each row_text (group_rows (drop (i + 1) rows) behind)
unfolding group_rows
group-next rows names behind i h e = rw (e, add-one i, drop-cons rows i [])

pub group-done : (rows : List (List ℕ)) (names : List ℕ) (i : ℕ) → length rows ≤ i → each row_text (group_rows (drop i rows) names) ≡ []
unfolding group_rows
group-done rows names i h = rw (drop_of_length-le rows h)

module _ (b names second third : List ℕ) (e : second ≡ drop (get_or b 4 0) names) (f : third ≡ drop (get_or b 5 0) second) where
  -- a group row by its names
  pub group-named : (name source destination : List ℕ) → name ≡ take (get_or b 4 0) names → source ≡ take (get_or b 5 0) second
      → destination ≡ take (get_or b 6 0) third → row_text (group_back b names) ≡ row_text (row_named b name source destination)
  unfolding group_back row_named
  group-named name source destination p q r = rw (p, q, r, f, e)

-- a traced row by its names
pub traced-named : (m : Tables) (b name source destination : List ℕ) → name ≡ name_of m (get_or b 4 0) → source ≡ name_of m (get_or b 5 0)
    → destination ≡ name_of m (get_or b 6 0) → row_text (row_back m b) ≡ row_text (row_named b name source destination)
unfolding row_back row_named
traced-named m b name source destination p q r = rw (p, q, r)

-- ---- a row's lines

pub first-four : (b : List ℕ) → 4 ≤ length b → take 4 b ≡ get_or b 0 0 ∷ get_or b 1 0 ∷ get_or b 2 0 ∷ get_or b 3 0 ∷ []
first-four [] h = absurd (omega arith)
first-four (p ∷ []) h = absurd (omega arith)
first-four (p ∷ q ∷ []) h = absurd (omega arith)
first-four (p ∷ q ∷ r ∷ []) h = absurd (omega arith)
first-four (p ∷ q ∷ r ∷ s ∷ b) h = refl

columns-split : (mark path : List ℕ) (a b c d l : ℕ) → mark ++ each column (a ∷ b ∷ c ∷ d ∷ l ∷ path)
    ≡ mark ++ each column (a ∷ b ∷ c ∷ d ∷ []) ++ column l ++ each column path
columns-split mark path a b c d l = simp append_assoc

-- the pieces that a row is printed in
pub row-pieces : (b path name source destination : List ℕ) → 4 ≤ length b → path ≡ take (get_or b 7 0) (drop 8 b)
    → row_text (row_named b name source destination)
    ≡ bytes_of "S" ++ each column (take 4 b) ++ column (length path) ++ each column path ++ bytes_of "\n" ++ (bytes_of "= " ++ name ++ bytes_of "\n")
    ++ (bytes_of "< " ++ source ++ bytes_of "\n") ++ (bytes_of "> " ++ destination ++ bytes_of "\n")
unfolding row_text row_named number_line text_line
row-pieces b path name source destination h e =
    ap (λ (t : List ℕ). t ++ bytes_of "\n" ++ (bytes_of "= " ++ name ++ bytes_of "\n") ++ (bytes_of "< " ++ source ++ bytes_of "\n") ++ (bytes_of "> " ++ destination ++ bytes_of "\n"))
    (columns-split (bytes_of "S") (take (get_or b 7 0) (drop 8 b)) (get_or b 0 0) (get_or b 1 0) (get_or b 2 0) (get_or b 3 0) (length (take (get_or b 7 0) (drop 8 b)))
    ∙ ap₂ (λ (f p : List ℕ). bytes_of "S" ++ each column f ++ column (length p) ++ each column p) (sym (first-four b h)) (sym e))
