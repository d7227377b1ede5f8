-- WHAT CALLERS GET: the component of an end is a row where the owner is one, for any other contents of the tables. Assumes nothing.
use mathlib.Core.Bool.{Bool, true, false}
use mathlib.Core.Path.{◌≡◌}
use mathlib.Core.List.{List}
use Prim.Native.Nat.{ℕ, ◌<◌}
use Rattle.std.specs.Prelude.{Some}
use Rattle.as5506.specs.Tables.{Tables, present, Side, name_of, children_of, c_count, x_owner, x_sub}
use Rattle.as5506.specs.Names.{Comparison}
use Rattle.as5506.specs.Tracing.{named}
use Rattle.as5506.specs.GroupList.{end_component_by, end_component}
use Rattle.as5506.proofs.Laws.{All, in_all, all_first, all-kept}
use Rattle.as5506.proofs.Children.{child-row, found-kept}

module _ (same : Comparison) (m : Tables) where
  abbrev Row : ℕ → Type 0
  Row i = i < c_count m

  named-rows : (s : Side) (x : ℕ) → All Row (named same m s x)
  unfolding named
  named-rows s x =
      let l : List ℕ = children_of m (x_owner m x) in
      found-kept same m (x_owner m x) (name_of m (x_sub m s x)) (All Row) (λ p. all-kept Row p l (in_all Row l (λ i h. (child-row m (x_owner m x) i h).0)))

  end-row-by : (b : Bool) (s : Side) (x i : ℕ) → x_owner m x < c_count m → Some i ≡ end_component_by same b m s x → i < c_count m
  unfolding end_component_by
  end-row-by true s x i h e = all_first Row (named same m s x) (named-rows s x) i e
  end-row-by false s x i h e = let o : i ≡ x_owner m x = cc in rw o h

  pub end_row : (s : Side) (x i : ℕ) → x_owner m x < c_count m → Some i ≡ end_component same m s x → i < c_count m
  unfolding end_component
  end_row s x i h e = end-row-by (present (x_sub m s x)) s x i h e
