-- The list as it is printed from what the listings' outputs hold. Assumes nothing.
use Rattle.std.specs.Prelude.{List, [], ◌∷◌, ◌++◌, ℕ, length, get_or, take, drop}
use Rattle.as5506.specs.Lists.{each, bytes_of}
use Rattle.as5506.specs.Tables.{Tables}
use Rattle.as5506.specs.Fields.{space}
use Rattle.as5506.specs.Sheet.{line_feed}
use Rattle.as5506.specs.Rows.{Row, Diag}
use Rattle.as5506.specs.Layout.{row_back, group_back, names_behind, diag_back}
use Rattle.as5506.specs.Text.{column, number_line, row_text, diag_text}
use Rattle.as5506.specs.declared.Refusal.{Refusal}

-- the row of a block of numbers, with its names
unfoldable pub row_named : List ℕ → List ℕ → List ℕ → List ℕ → Row
row_named b name src_name dst_name =
    record {
      conn = get_or b 0 0;
      kind = get_or b 1 0;
      src = get_or b 2 0;
      dst = get_or b 3 0;
      path = take (get_or b 7 0) (drop 8 b);
      name = name;
      src_name = src_name;
      dst_name = dst_name;
    }

-- the rows of blocks of group rows, whose names stand one behind the other
unfoldable pub group_rows : List (List ℕ) → List ℕ → List Row
group_rows [] names = []
group_rows (b ∷ bs) names = group_back b names ∷ group_rows bs (names_behind b names)

-- the text of a traced row, and of a diagnostic, by its block of numbers
unfoldable pub traced_text : Tables → List ℕ → List ℕ
traced_text m b = row_text (row_back m b)

unfoldable pub diagnostic_text : Tables → List ℕ → List ℕ
diagnostic_text m b = diag_text m (diag_back b)

-- the list of the rows and diagnostics of both listings
unfoldable pub list_of : Tables → List Row → List Row → List Diag → List Diag → List ℕ
list_of m traced group diags group_diags =
    each row_text traced ++ each row_text group ++ each (diag_text m) diags ++ each (diag_text m) group_diags
    ++ number_line (bytes_of "Z") (length traced ∷ length group ∷ [])

-- the line of a refusal, as it is handed over
unfoldable pub refusal_of : Refusal → List ℕ
refusal_of r = bytes_of "R" ++ column r.number ++ column r.place ++ (space ∷ r.letter ∷ line_feed ∷ [])
