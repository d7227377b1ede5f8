-- How many combinations of modes there are, where each component has the modes `modes`. Assumes nothing.
use Rattle.std.specs.Prelude.{cond, Bool, true, false, ◌≡◌, List, ℕ, ◌+◌, ◌*◌, ◌≤◌, eqb, ltb, length}
use Rattle.as5506.specs.Lists.{up_to}
use Rattle.as5506.specs.Modes.{selection_limit, is_cut, combinations}
use Rattle.as5506.specs.Digits.{counted}
use Rattle.operation_modes.specs.declared.combine.Combined.{Combined}
use Rattle.operation_modes.specs.Linked.{modal_of}

-- one component more, with so many modes: one without modes changes nothing
abbrev pub next_by : Bool → Combined → ℕ → Combined
next_by true so size = record { product = so.product; end = so.end + 1; chosen = so.chosen }
next_by false so size = record { product = so.product * size; end = so.end + 1; chosen = so.chosen + 1 }

abbrev pub with_next : Combined → ℕ → Combined
with_next so size = next_by (eqb size 0) so size

-- the components of n that count are those below `end`, and of these the combinations are counted
pub record Counts (modes : ℕ → List ℕ) (n : ℕ) (z : Combined) : Type 0 where
  pub within : z.end ≤ n
  pub exact : z.product ≤ selection_limit → z.end ≡ n
  pub all : counted selection_limit 1 (modal_of modes (up_to n)) ≡ modal_of modes (up_to z.end)
  pub product_is : z.product ≡ combinations (modal_of modes (up_to z.end))
  pub chosen_is : z.chosen ≡ length (modal_of modes (up_to z.end))
  pub over : ltb selection_limit z.product ≡ is_cut selection_limit (modal_of modes (up_to n))

-- how many selections there are, of what is combined
abbrev pub number_of : Combined → ℕ
number_of z = cond (ltb selection_limit z.product) selection_limit (cond (eqb z.chosen 0) 0 z.product)
