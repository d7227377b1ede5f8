-- The list of what both listings gave. Assumes nothing.
use Rattle.std.specs.Prelude.{List, ℕ, map}
use Rattle.as5506.specs.Tables.{Tables}
use Rattle.as5506.specs.Layout.{row_back, diag_back}
use Rattle.text.specs.Printing.{group_rows, list_of}
use Rattle.text.specs.declared.list.Listings.{Listings}

-- as it is printed: the rows and diagnostics that the blocks are
abbrev pub listings_text : Tables → Listings → List ℕ
listings_text m l =
    list_of m (map (row_back m) l.traced.now) (group_rows l.group.now l.names.now) (map diag_back l.diagnostics.now) (map diag_back l.group_diagnostics.now)
