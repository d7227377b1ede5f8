-- What composing the names of matches leaves in the outputs of rows and of names. Assumes nothing.
use Rattle.std.specs.Prelude.{Bool, true, false, ◌≡◌, List, [], ◌∷◌, ℕ, ◌-◌, leb, length, Option, Some, None}
use Rattle.std.proofs.lemmas.List.Edits.{sets}
use Rattle.as5506.specs.Lists.{each}
use Rattle.as5506.specs.Tables.{Tables}
use Rattle.as5506.specs.Layout.{group_block}
use Rattle.lent.specs.Append.{filled, append_all, together}
use Rattle.group_names.specs.Pairs.{Pair, pair_rows, rows_of_pairs}
use Rattle.group_names.specs.Pieces.{pair_pieces, pair_back}

-- the numbers of a match when its names are tried, by how much of their output is used then: those of its row, or as they were where it is full
unfoldable pub row_by : Option ℕ → Tables → List ℕ → List ℕ
row_by None m row = row
row_by (Some k) m row = each group_block (pair_rows m (pair_back row))

-- by whether the names of the first match find room
unfoldable pub named_by : Bool → Pair → List Pair → List Pair
named_by true p ps = p ∷ ps
named_by false p ps = []

-- of these matches those from the front whose names all find room in so many bytes
unfoldable pub named : Tables → ℕ → List Pair → List Pair
named m room [] = []
named m room (p ∷ ps) =
    named_by (leb (length (together (pair_pieces m p))) room) p (named m (room - length (together (pair_pieces m p))) ps)

-- the names of the matches ps, one behind the other: z tells how much of the output they take, none where not all find room; it then has
-- those pieces of names that do. Matches whose names all find room are rows now; behind them the output of rows is as it was.
pub record Composed (m : Tables) (ps : List Pair) (rows names : List ℕ) (z : Option ℕ) (rows' names' : List ℕ) : Type 0 where
  pub in-names : filled names' z ≡ append_all (each (pair_pieces m) ps) (filled names (Some 0))
  pub in_rows : rows' ≡ sets rows 0 (each group_block (rows_of_pairs m (named m (length names) ps)))
