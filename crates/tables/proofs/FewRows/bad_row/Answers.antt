-- `tables::FewRows::bad_row` meets its contract: one field more. Assumes nothing.
use Rattle.std.proofs.Common.{arith, sym, ap, ◌∙◌, ◌≡◌, ◌+◌, ◌<◌, ◌≤◌, ◌&&◌, ℕ, Bool, true, false, not, List, ◌∷◌, map, drop, length, get_or, add-one, drop-cons}
use lib.ListN.{drop_of_length-le}
use Rattle.lent.specs.Model.{model}
use Rattle.as5506.specs.Tables.{Tables, Letter}
use Rattle.as5506.specs.Columns.{field_cells, Column as TheColumn}
use Rattle.as5506.specs.Refusals.{allows, allows_from, bad_row}
use Rattle.tables.specs.declared.fields.Column.{Column}
use Rattle.tables.specs.Letter.{letter_of}
use Rattle.tables.specs.Column.{column_of}
use Rattle.tables.proofs.FewRows.bad_row.Goals as goal

module _ (m : Tables) (l : Letter) (i j : ℕ) where
  first : (x : TheColumn) (xs : List TheColumn) (b : Bool) → allows m l i j x ≡ b → allows_from m l i j (x ∷ xs) ≡ b && allows_from m l i (j + field_cells x) xs
  unfolding allows_from
  first x xs b e = rw e

  none-left : (cs : List Column) (k : ℕ) → length cs ≤ k → true ≡ allows_from m l i j (map column_of (drop k cs))
  unfolding allows_from
  none-left cs k h = rw (drop_of_length-le cs h)

  module _ (cs : List Column) (k : ℕ) (d : Column) (h : k < length cs) where
    some-left : map column_of (drop k cs) ≡ column_of (get_or cs k d) ∷ map column_of (drop (k + 1) cs)
    some-left = rw (add-one, drop-cons cs k d h)

    next : (b : Bool) → allows m l i j (column_of (get_or cs k d)) ≡ b → allows_from m l i j (map column_of (drop k cs)) ≡ b && allows_from m l i (j + field_cells (column_of (get_or cs k d))) (map column_of (drop (k + 1) cs))
    next b e = ap (allows_from m l i j) some-left ∙ first (column_of (get_or cs k d)) (map column_of (drop (k + 1) cs)) b e

pub returns-then-not-allows : goal.returns-then-not-allows
unfolding bad_row
returns-then-not-allows c =
    ap not (sym (next _ _ _ _ c.columns_of-column-items.result.now c.loop-column.column-index _ c.loop-column-test.true false (sym c.allows.ensures ∙ c.if-not-allows.true)) ∙ c.loop-column.invariant.1)

pub loop-column-preserved : goal.loop-column-preserved
loop-column-preserved c = (
  omega (arith, c.loop-column.invariant.0, c.cells_of-j.ensures.few),
  ap (λ (n : ℕ). allows_from (model c.args.self.now.m.now) (letter_of c.args.letter) c.args.row.i (c.loop-column.j + n) (map column_of (drop (c.loop-column.column-index + 1) c.columns_of-column-items.result.now))) c.cells_of-j.ensures.cells
      ∙ sym (next _ _ _ _ c.columns_of-column-items.result.now c.loop-column.column-index _ c.loop-column-test.true true (sym c.allows.ensures ∙ c.if-not-allows.false))
      ∙ c.loop-column.invariant.1,
)

pub returns : goal.returns
unfolding bad_row
returns c = ap not (none-left _ _ _ _ c.columns_of-column-items.result.now c.loop-column.column-index c.loop-column-test.false ∙ c.loop-column.invariant.1)
