-- What the ends of a connection say of it: its rows and its diagnostics by its shape and the children that it names. Assumes nothing.
use mathlib.Core.Bool.{true, false}
use mathlib.Core.Path.{◌≡◌, refl, ap, ◌∙◌}
use mathlib.Core.List.{List, map}
use Prim.Native.Nat.{ℕ}
use native.Mathlib.Omega.{arith}
use lib.ListN.{length}
use Rattle.as5506.specs.Lists.{each}
use Rattle.as5506.specs.Tables.{Tables, present, source, destination, c_parent, x_owner, x_sub, name_of}
use Rattle.as5506.specs.Tables.{Side as TheSide}
use Rattle.as5506.specs.Names.{Comparison}
use Rattle.as5506.specs.Tracing.{pair_rows, rows_at, diags_at, diags_by, pairs, pairs_by, shape, named, one_to_one, all_as, pair_across, pair_up, pair_down, faulty, across, neither}
use Rattle.as5506.proofs.Laws.{all-of, each_same, each-each, each_map}
use Rattle.as5506.proofs.Links.{length-found}
use Rattle.child_links.specs.Trees.{of_tree, same_in}
use Rattle.name.specs.declared.ConnectionPattern.{ConnectionPattern}
use Rattle.name.specs.declared.ConnectionPattern.TheVariants.{OneToOne, AllToAll}
use Rattle.name.specs.Pattern.{says_one_to_one}
use Rattle.columns.specs.declared.Side.{Side}
use Rattle.columns.specs.declared.Side.TheVariants.{Source, Destination}
use Rattle.columns.specs.Side.{side_of}
use Rattle.children.specs.declared.Children.{Children}
use Rattle.semantic.specs.declared.Connection.{Connection}
use Rattle.semantic.specs.declared.Start.TheVariants.{Owner}
use Rattle.semantic.specs.declared.Ends.TheVariants.{Faulty, Across, Edge, Nothing}
use Rattle.semantic.specs.Rows.{edge_of, pair_on, rows_beside, rows_all, rows_across, Along}
use Rattle.semantic.specs.Diagnostics.{diags_across, none_on}
use Rattle.semantic.specs.Ends.{Names, EndsOf}

-- ---- by the definition's lists of children

module _ (same : Comparison) (k : ℕ) (m : Tables) (x : ℕ) where
  all-pairs : (l r : List ℕ) → each (pair_rows same m k x) (all_as (pair_across m x) l r) ≡ rows_all same k m x l r
  unfolding pair_on
  all-pairs l r =
      each-each (pair_rows same m k x) (λ a. map (pair_across m x a) r) l
      ∙ each_same (λ a. each (pair_rows same m k x) (map (pair_across m x a) r)) (λ a. each (λ b. pair_rows same m k x (pair_across m x a b)) r) l
      (all-of _ (λ a. each_map (pair_rows same m k x) (pair_across m x a) r) l)

  across-rows : (p : ConnectionPattern) → says_one_to_one p ≡ one_to_one m (x_owner m x)
      → each (pair_rows same m k x) (pairs_by same m x across) ≡ rows_across same k m x p (named same m source x) (named same m destination x)
  unfolding pairs_by
  across-rows OneToOne e = rw (← e) refl
  across-rows AllToAll e = rw (← e) (all-pairs (named same m source x) (named same m destination x))

  across-diags : (p : ConnectionPattern) → says_one_to_one p ≡ one_to_one m (x_owner m x) → diags_by same m x across ≡ diags_across m x p (named same m source x) (named same m destination x)
  unfolding diags_by
  across-diags p e = rw e refl

  edge-rows : (s : TheSide) → present (c_parent m (x_owner m x)) ≡ false
      → each (pair_rows same m k x) (pairs_by same m x (edge_of s)) ≡ rows_beside same k m x s (Owner (x_owner m x)) (named same m s x)
  unfolding pairs_by pair_on
  edge-rows source e = rw e (each_map (pair_rows same m k x) (pair_up m x) (named same m source x))
  edge-rows destination e = rw e (each_map (pair_rows same m k x) (pair_down m x) (named same m destination x))

  edge-diags : (s : TheSide) → present (c_parent m (x_owner m x)) ≡ false → diags_by same m x (edge_of s) ≡ none_on m x s (named same m s x)
  unfolding diags_by
  edge-diags source e = rw e
  edge-diags destination e = rw e

-- ---- by its ends

module _ (x : Connection) where
  abbrev m : Tables
  m = of_tree x.tree.now

  abbrev same : Comparison
  same = same_in x.tree.now

  along : (s : TheSide) (c : Children) → Names x s c → Along m c
  unfolding named
  along s c n = record { tables = n.tables; few = omega (arith, ap length n.left, length-found m same (x_owner m x.row) (name_of m (x_sub m s x.row))) }

  pub ends_faulty : shape m x.row ≡ faulty → EndsOf x Faulty
  unfolding rows_at pairs pairs_by diags_at diags_by
  ends_faulty e = record { rows = rw e; diagnostics = rw e; along = tt }

  pub ends_neither : shape m x.row ≡ neither → EndsOf x Nothing
  unfolding rows_at pairs pairs_by diags_at diags_by
  ends_neither e = record { rows = rw e; diagnostics = rw e; along = tt }

  pub ends_across : shape m x.row ≡ across → (p : ConnectionPattern) → says_one_to_one p ≡ one_to_one m (x_owner m x.row)
      → (s d : Children) → Names x source s → Names x destination d → EndsOf x (Across p s d)
  unfolding rows_at pairs diags_at
  ends_across e p h s d n k =
      record {
        rows = rw (e, n.left, k.left) (across-rows same x.limit.steps m x.row p h);
        diagnostics = rw (e, n.left, k.left) (across-diags same x.limit.steps m x.row p h);
        along = record { sources = along source s n; destinations = along destination d k };
      }

  pub ends_edge : (s : Side) → shape m x.row ≡ edge_of (side_of s) → present (c_parent m (x_owner m x.row)) ≡ false
      → (c : Children) → Names x (side_of s) c → EndsOf x (Edge s c)
  unfolding rows_at pairs diags_at
  ends_edge s e h c n =
      record {
        rows = rw (e, n.left) (edge-rows same x.limit.steps m x.row (side_of s) h);
        diagnostics = rw (e, n.left) (edge-diags same x.limit.steps m x.row (side_of s) h);
        along = along (side_of s) c n;
      }

  pub ends_below : (s : Side) → shape m x.row ≡ edge_of (side_of s) → present (c_parent m (x_owner m x.row)) ≡ true → EndsOf x Nothing
  unfolding rows_at pairs pairs_by diags_at diags_by
  ends_below Source e h = record { rows = rw (e, h); diagnostics = rw (e, h); along = tt }
  ends_below Destination e h = record { rows = rw (e, h); diagnostics = rw (e, h); along = tt }
