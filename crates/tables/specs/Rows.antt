-- What a check asks of closures that are called with rows. Assumes nothing.
use Rattle.std.specs.Prelude.{◌≡◌, ℕ, Bool}
use Rattle.as5506.specs.Refusals.{Key, same_key}
use Rattle.tables.specs.declared.RowNumber.{RowNumber}

-- what a call at a row gives is a test of the row
pub record Tests (post : RowNumber → Bool → Type 0) (test : ℕ → Bool) : Type 0 where
  pub tests : (row : RowNumber) (r : Bool) → post row r → r ≡ test row.i

-- what a call at two rows gives is whether their keys are the same
pub record Compares (post : RowNumber → RowNumber → Bool → Type 0) (key_of : ℕ → Key) : Type 0 where
  pub compares : (a b : RowNumber) (r : Bool) → post a b r → r ≡ same_key (key_of a.i) (key_of b.i)
