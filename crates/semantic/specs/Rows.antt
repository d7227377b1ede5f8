-- The rows of some of the pairs of an X row under a limit of k steps, and of all of them by its ends. Assumes nothing.
use Rattle.std.specs.Prelude.{◌≡◌, ◌≤◌, List, [], ℕ, ◌<◌, length}
use Rattle.as5506.specs.Lists.{each}
use Rattle.as5506.specs.Tables.{Tables, source, destination, c_count, x_feat, x_owner}
use Rattle.as5506.specs.Tables.{Side as TheSide}
use Rattle.as5506.specs.Names.{Comparison}
use Rattle.as5506.specs.Tracing.{Start as TheStart, child, owner, Pair, Traced, pair_rows, pair_across, zip_as, upward, downward}
use Rattle.as5506.specs.Tracing.{Shape as TheShape}
use Rattle.name.specs.declared.ConnectionPattern.{ConnectionPattern}
use Rattle.name.specs.declared.ConnectionPattern.TheVariants.{OneToOne, AllToAll}
use Rattle.columns.specs.Side.{side_of}
use Rattle.children.specs.declared.Children.{Children}
use Rattle.children.specs.Found.{tables_of, children_left}
use Rattle.semantic.specs.declared.Start.{Start}
use Rattle.semantic.specs.declared.Start.TheVariants.{Child, Owner}
use Rattle.semantic.specs.declared.Ends.{Ends}
use Rattle.semantic.specs.declared.Ends.TheVariants.{Faulty, Across, Edge, Nothing}

-- the shape of an X row with a subcomponent on side s only
abbrev pub edge_of : TheSide → TheShape
edge_of source = upward
edge_of destination = downward

-- an end of X row x on side s
abbrev pub start_on : Tables → TheSide → ℕ → Start → TheStart
start_on m s x (Child i) = child i (x_feat m s x)
start_on m s x (Owner i) = owner i (x_feat m s x)

-- its component
abbrev pub component_of : Start → ℕ
component_of (Child i) = i
component_of (Owner i) = i

-- which is a row of C
abbrev pub Inside : Tables → Start → Type 0
Inside m a = component_of a < c_count m

-- the steps that are made from it under a limit of k: the owner "is not traced"
abbrev pub limit_of : ℕ → Start → ℕ
limit_of k (Child i) = k
limit_of k (Owner i) = 0

-- an iterator goes through these tables, and no more children are left to it than they have components
pub record Along (m : Tables) (c : Children) : Type 0 where
  pub tables : tables_of c ≡ m
  pub few : length (children_left c) ≤ c_count m

-- so do those of the ends of a connection
pub record BothAlong (m : Tables) (s d : Children) : Type 0 where
  pub sources : Along m s
  pub destinations : Along m d

abbrev pub EndsAlong : Tables → Ends → Type 0
EndsAlong m Faulty = Unit {0}
EndsAlong m (Across p s d) = BothAlong m s d
EndsAlong m (Edge s c) = Along m c
EndsAlong m Nothing = Unit {0}

-- the pair of an end on side s and one on the other
unfoldable pub pair_on : Tables → ℕ → TheSide → Start → Start → Pair
pair_on m x source a b = record { from = start_on m source x a; to = start_on m destination x b }
pair_on m x destination a b = record { from = start_on m source x b; to = start_on m destination x a }

-- the rows of the children l on side s, each with the end b on the other
abbrev pub rows_beside : Comparison → ℕ → Tables → ℕ → TheSide → Start → List ℕ → List Traced
rows_beside same k m x s b l = each (λ i. pair_rows same m k x (pair_on m x s (Child i) b)) l

-- the rows of the source children l, each with all destination children r
abbrev pub rows_all : Comparison → ℕ → Tables → ℕ → List ℕ → List ℕ → List Traced
rows_all same k m x l r = each (λ a. rows_beside same k m x destination (Child a) r) l

-- the rows of two lists of children, pair by pair
abbrev pub rows_zip : Comparison → ℕ → Tables → ℕ → List ℕ → List ℕ → List Traced
rows_zip same k m x l r = each (pair_rows same m k x) (zip_as (pair_across m x) l r)

-- the rows of two lists of children by a pattern
abbrev pub rows_across : Comparison → ℕ → Tables → ℕ → ConnectionPattern → List ℕ → List ℕ → List Traced
rows_across same k m x OneToOne l r = rows_zip same k m x l r
rows_across same k m x AllToAll l r = rows_all same k m x l r

-- the rows of X row x by its ends
abbrev pub rows_from : Comparison → ℕ → Tables → ℕ → Ends → List Traced
rows_from same k m x Faulty = []
rows_from same k m x (Across p s d) = rows_across same k m x p (children_left s) (children_left d)
rows_from same k m x (Edge s c) = rows_beside same k m x (side_of s) (Owner (x_owner m x)) (children_left c)
rows_from same k m x Nothing = []
