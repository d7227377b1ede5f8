-- A row that is found by its key is a row of its table, and of the package that was asked for. Assumes nothing.
use mathlib.Core.Bool.{Bool, ◌&&◌}
use mathlib.Core.Path.{◌≡◌}
use mathlib.Core.List.{List}
use Prim.Native.Nat.{ℕ, ◌<◌}
use lib.Dec.{eqb, eqb→eq}
use Rattle.std.specs.Prelude.{Some}
use Rattle.as5506.specs.Lists.{up_to, keep, first_of, same_bytes}
use Rattle.as5506.specs.Tables.{Tables, Letter, letter_p, letter_t, letter_q, letter_u, count, at, rows_naming, p_name, t_package, t_name, q_package, q_type, q_impl, u_package, u_name}
use Rattle.as5506.specs.Names.{key}
use Rattle.as5506.specs.Resolve.{package_named, type_named, impl_named, group_named}
use Rattle.as5506.proofs.Laws.{All, all_keep, up_to-below, all_first, all-kept}

-- ---- rows by their keys

module _ (m : Tables) where
  pub package_row : (k : List ℕ) (g : ℕ) → Some g ≡ package_named m k → g < count m letter_p
  unfolding package_named
  package_row k g e = all_first (λ i. i < count m letter_p) (keep is (up_to (count m letter_p))) (all-kept (λ i. i < count m letter_p) is (up_to (count m letter_p)) (up_to-below (count m letter_p))) g e
    where
      is : ℕ → Bool
      is i = same_bytes (key m (p_name m i)) k

  -- row i of a table whose first field is the package, and it is g
  abbrev Of : Letter → ℕ → ℕ → Type 0
  Of l g i = (i < count m l) × (at m l i 0 ≡ g)

  rows_of : (l : Letter) (g : ℕ) → All (Of l g) (rows_naming m l (λ i. at m l i 0) g)
  unfolding rows_naming
  rows_of l g = all_keep (λ i. i < count m l) (Of l g) (λ i. eqb (at m l i 0) g) (λ i t h. (h, eqb→eq (at m l i 0) g t)) (up_to (count m l)) (up_to-below (count m l))

  row_of : (l : Letter) (g : ℕ) (p : ℕ → Bool) (i : ℕ) → Some i ≡ first_of (keep p (rows_naming m l (λ i. at m l i 0) g)) → Of l g i
  row_of l g p i e = all_first (Of l g) (keep p (rows_naming m l (λ i. at m l i 0) g)) (all-kept (Of l g) p (rows_naming m l (λ i. at m l i 0) g) (rows_of l g)) i e

  pub type_row : (g : ℕ) (k : List ℕ) (i : ℕ) → Some i ≡ type_named m g k → (i < count m letter_t) × (t_package m i ≡ g)
  unfolding type_named
  type_row g k i e = row_of letter_t g (λ i. same_bytes (key m (t_name m i)) k) i e

  pub impl_row : (g : ℕ) (k j : List ℕ) (i : ℕ) → Some i ≡ impl_named m g k j → (i < count m letter_q) × (q_package m i ≡ g)
  unfolding impl_named
  impl_row g k j i e = row_of letter_q g (λ i. same_bytes (key m (q_type m i)) k && same_bytes (key m (q_impl m i)) j) i e

  pub group_row : (g : ℕ) (k : List ℕ) (i : ℕ) → Some i ≡ group_named m g k → (i < count m letter_u) × (u_package m i ≡ g)
  unfolding group_named
  group_row g k i e = row_of letter_u g (λ i. same_bytes (key m (u_name m i)) k) i e
