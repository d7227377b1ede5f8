-- Children, tracing, listing (instance.rs): one definition over the comparison of names (`same`), over the side and over the limit on steps. Assumes nothing.
use Rattle.std.specs.Prelude.{Bool, true, false, not, ◌&&◌, cond, List, [], ◌∷◌, ◌++◌, map, ℕ, zero, suc, eqb, length, Option, unwrap_or}
use Rattle.as5506.specs.Lists.{keep, when, is_nil, each, up_to, has}
use Rattle.as5506.specs.Tables.{Tables, present, Side, source, destination, other, name_of, c_count, c_name, c_parent, has_index, c_pattern, children_of, x_count, x_name, x_owner, x_kind, x_sub, x_feat, has_ends, connections_of}
use Rattle.as5506.specs.Names.{Comparison, same_folded, bracket, base_name, is_one_to_one}
use Rattle.as5506.specs.Rows.{Row, Diag, diag}

-- ---- `find_children_by_name`

-- the first child rule, of the whole name: "byte-equal names" in the ported entry, and in the second "the first child rule compares names folded"
unfoldable pub is_named : Comparison → Tables → List ℕ → ℕ → Bool
is_named same m w i = same (name_of m (c_name m i)) w

-- "children with an array index whose name up to the first `[` is equal folded"
unfoldable pub is_element : Tables → List ℕ → ℕ → Bool
is_element m w i = has_index m i && same_folded (base_name (name_of m (c_name m i))) w

-- "if none and the wanted name has no `[`": of the children of that whole name, and whether the wanted name has one
unfoldable pub or_elements : Bool → Tables → ℕ → List ℕ → List ℕ → List ℕ
or_elements b m c w (i ∷ is) = i ∷ is
or_elements true m c w [] = []
or_elements false m c w [] = keep (is_element m w) (children_of m c)

-- the children of component c that the name w finds
unfoldable pub found_children : Comparison → Tables → ℕ → List ℕ → List ℕ
found_children same m c w = or_elements (has bracket w) m c w (keep (is_named same m w) (children_of m c))

-- ---- steps

-- "It leads to (child, source feature)", over connection `conn`
pub record Step : Type 0 where
  pub conn : ℕ
  pub child : ℕ
  pub feat : ℕ

-- "a connection of that component with a source subcomponent, no destination subcomponent, its destination feature byte-equal"; "Towards the
-- destination, its mirror image"; "AS5506 names ignore case, tracing doesn't", but in the second entry "tracing compares features folded": connection x, from
-- the feature of name w towards side s
unfoldable pub leads : Comparison → Tables → Side → List ℕ → ℕ → Bool
leads same m s w x =
    present (x_sub m s x) && (not (present (x_sub m (other s) x)) && (present (x_feat m (other s) x) && same (name_of m (x_feat m (other s) x)) w))

abbrev pub step_to : Tables → Side → ℕ → ℕ → Step
step_to m s x i = record { conn = x; child = i; feat = x_feat m s x }

-- "and one found child": each found child is a step
unfoldable pub steps_over : Comparison → Tables → Side → ℕ → ℕ → List Step
steps_over same m s c x = map (step_to m s x) (found_children same m c (name_of m (x_sub m s x)))

-- "A step from (component, feature) towards" side s. "Connections, then children, in row order" (02 (i): children by place)
unfoldable pub steps : Comparison → Tables → Side → ℕ → ℕ → List Step
steps same m s c f = each (steps_over same m s c) (keep (leads same m s (name_of m f)) (connections_of m c))

-- ---- chains: where each ends, and the connections of its steps

pub record Chain : Type 0 where
  pub comp : ℕ
  pub feat : ℕ
  pub path : List ℕ

-- a chain of no step, at (c, f)
abbrev pub stop : ℕ → ℕ → Chain
stop c f = record { comp = c; feat = f; path = [] }

-- a chain with one more step in front, over connection x
abbrev pub push : ℕ → Chain → Chain
push x e = record { comp = e.comp; feat = e.feat; path = x ∷ e.path }

-- "A chain ends where no step exists": e where there are none, else what g gives for each
abbrev pub grow : Chain → (Step → List Chain) → List Step → List Chain
grow e g [] = e ∷ []
grow e g (st ∷ sts) = each g (st ∷ sts)

-- "or after 20 steps", or as many as the limit allows: the chains of at most k steps from (c, f), over any steps
unfoldable pub chains_by : (ℕ → ℕ → List Step) → ℕ → ℕ → ℕ → List Chain
chains_by next zero c f = stop c f ∷ []
chains_by next (suc k) c f = grow (stop c f) (λ st. map (push st.conn) (chains_by next k st.child st.feat)) (next c f)

-- the chains from (c, f) towards side s
unfoldable pub chains : Comparison → Tables → Side → ℕ → ℕ → ℕ → List Chain
chains same m s k c f = chains_by (steps same m s) k c f

-- ---- `compute_semantic_connections`: what an X row is

pub data Shape : Type 0 where
  faulty across upward downward neither : Shape

-- "An end without feature", "Both with subcomponent", "One with subcomponent" (the source, the destination), "Neither"
abbrev pub shape_by : Bool → Bool → Bool → Shape
shape_by false a b = faulty
shape_by true true true = across
shape_by true true false = upward
shape_by true false true = downward
shape_by true false false = neither

unfoldable pub shape : Tables → ℕ → Shape
shape m x = shape_by (has_ends m x) (present (x_sub m source x)) (present (x_sub m destination x))

-- the children that X row x names on side s
unfoldable pub named : Comparison → Tables → Side → ℕ → List ℕ
named same m s x = found_children same m (x_owner m x) (name_of m (x_sub m s x))

-- the pattern of a component's connections; "and missing, is all to all"
unfoldable pub one_to_one : Tables → ℕ → Bool
one_to_one m c = present (c_pattern m c) && is_one_to_one (name_of m (c_pattern m c))

-- ---- pairs: each end is a child at a feature, which is traced, or the owner, which "is not traced"

pub data Start : Type 0 where
  child owner : ℕ → ℕ → Start

pub record Pair : Type 0 where
  pub from : Start
  pub to : Start

-- the pairs up to the shorter list; and all pairs, the first list outermost
abbrev pub zip_as : (ℕ → ℕ → Pair) → List ℕ → List ℕ → List Pair
zip_as g [] bs = []
zip_as g (a ∷ l) [] = []
zip_as g (a ∷ l) (b ∷ r) = g a b ∷ zip_as g l r

abbrev pub all_as : (ℕ → ℕ → Pair) → List ℕ → List ℕ → List Pair
all_as g l r = each (λ a. map (g a) r) l

-- the pairs of X row x: two children; a child and the owner; the owner and a child
abbrev pub pair_across : Tables → ℕ → ℕ → ℕ → Pair
pair_across m x a b = record { from = child a (x_feat m source x); to = child b (x_feat m destination x) }

abbrev pub pair_up : Tables → ℕ → ℕ → Pair
pair_up m x a = record { from = child a (x_feat m source x); to = owner (x_owner m x) (x_feat m destination x) }

abbrev pub pair_down : Tables → ℕ → ℕ → Pair
pair_down m x b = record { from = owner (x_owner m x) (x_feat m source x); to = child b (x_feat m destination x) }

-- by the owner's pattern: "Pairs up to the shorter list, or all, source outermost"
abbrev pub pairs_across : Bool → (ℕ → ℕ → Pair) → List ℕ → List ℕ → List Pair
pairs_across true g l r = zip_as g l r
pairs_across false g l r = all_as g l r

-- "only if the owner has no parent": whether it has one
abbrev pub pairs_edge : Bool → (ℕ → Pair) → List ℕ → List Pair
pairs_edge true g l = []
pairs_edge false g l = map g l

-- the pairs by what the row is. "Neither: nothing"
unfoldable pub pairs_by : Comparison → Tables → ℕ → Shape → List Pair
pairs_by same m x faulty = []
pairs_by same m x across = pairs_across (one_to_one m (x_owner m x)) (pair_across m x) (named same m source x) (named same m destination x)
pairs_by same m x upward = pairs_edge (present (c_parent m (x_owner m x))) (pair_up m x) (named same m source x)
pairs_by same m x downward = pairs_edge (present (c_parent m (x_owner m x))) (pair_down m x) (named same m destination x)
pairs_by same m x neither = []

-- what the rules pair for X row x
unfoldable pub pairs : Comparison → Tables → ℕ → List Pair
pairs same m x = pairs_by same m x (shape m x)

-- ---- rows

-- a traced row as numbers: its names stand as name numbers
pub record Traced : Type 0 where
  pub conn : ℕ
  pub kind : ℕ
  pub src : ℕ
  pub dst : ℕ
  pub src_feat : ℕ
  pub dst_feat : ℕ
  pub path : List ℕ

-- "steps not yet in it": p, then those of the list that are not yet in it
unfoldable pub append_new : List ℕ → List ℕ → List ℕ
append_new p [] = p
append_new p (x ∷ xs) = append_new (cond (has x p) p (p ++ (x ∷ []))) xs

-- "path is this connection, source steps, then destination steps not yet in it"
unfoldable pub row_of : Tables → ℕ → Chain → Chain → Traced
row_of m x s d =
    record { conn = x; kind = x_kind m x; src = s.comp; dst = d.comp; src_feat = s.feat; dst_feat = d.feat; path = append_new (x ∷ s.path) d.path }

-- "the other end is the owner and is not traced"
abbrev pub reach : Comparison → Tables → Side → ℕ → Start → List Chain
reach same m s k (child c f) = chains same m s k c f
reach same m s k (owner c f) = stop c f ∷ []

-- "Per pair every source chain with every destination chain"
unfoldable pub pair_rows : Comparison → Tables → ℕ → ℕ → Pair → List Traced
pair_rows same m k x p = each (λ s. map (row_of m x s) (reach same m destination k p.to)) (reach same m source k p.from)

-- "`compute_semantic_connections`, per X row": the rows of X row x
unfoldable pub rows_at : Comparison → Tables → ℕ → ℕ → List Traced
rows_at same m k x = each (pair_rows same m k x) (pairs same m x)

-- the rows under a limit of k steps, as numbers
unfoldable pub traced : Comparison → ℕ → Tables → List Traced
traced same k m = each (rows_at same m k) (up_to (x_count m))

-- a row with its three names' bytes
unfoldable pub shown : Tables → Traced → Row
shown m r =
    record {
      conn = r.conn;
      kind = r.kind;
      src = r.src;
      dst = r.dst;
      path = r.path;
      name = name_of m (x_name m r.conn);
      src_name = name_of m r.src_feat;
      dst_name = name_of m r.dst_feat;
    }

-- THE ROWS under a limit of k steps
unfoldable pub rows : Comparison → ℕ → Tables → List Row
rows same k m = map (shown m) (traced same k m)

-- "A chain ends .. after 20 steps"; 02 (ix): "20 holds wherever none is named"
abbrev pub usual_limit : ℕ
usual_limit = 20

abbrev pub limit_or : Option ℕ → ℕ
limit_or limit = unwrap_or limit usual_limit

-- "The traced listing's limit becomes an argument, 0 to 64"
abbrev pub largest_limit : ℕ
largest_limit = 64

-- THE ROWS WITHOUT A LIMIT: "rows grow, so it ends". No chain of an accepted model has as many steps as there are components
-- (proofs: unlimited-is, unlimited-ends, unlimited-none)
unfoldable pub unlimited : Comparison → Tables → List Row
unlimited same m = rows same (c_count m) m

-- ---- diagnostics

-- "diagnostic 2 for no source child, 3 for no destination child"
abbrev pub no_child : ℕ → ℕ → ℕ → List ℕ → List Diag
no_child code x sub found = when (is_nil found) (diag code x sub 0)

-- "then 4 where the owner's pattern is one to one and the counts differ"
abbrev pub unequal : Bool → ℕ → ℕ → ℕ → List Diag
unequal one x a b = when (one && not (eqb a b)) (diag 4 x a b)

-- the diagnostics by what the row is
unfoldable pub diags_by : Comparison → Tables → ℕ → Shape → List Diag
diags_by same m x faulty = diag 1 x 0 0 ∷ []
diags_by same m x across =
    no_child 2 x (x_sub m source x) (named same m source x) ++ no_child 3 x (x_sub m destination x) (named same m destination x)
    ++ unequal (one_to_one m (x_owner m x)) x (length (named same m source x)) (length (named same m destination x))
diags_by same m x upward = cond (present (c_parent m (x_owner m x))) [] (no_child 2 x (x_sub m source x) (named same m source x))
diags_by same m x downward = cond (present (c_parent m (x_owner m x))) [] (no_child 3 x (x_sub m destination x) (named same m destination x))
diags_by same m x neither = []

unfoldable pub diags_at : Comparison → Tables → ℕ → List Diag
diags_at same m x = diags_by same m x (shape m x)

-- THE TRACED DIAGNOSTICS
unfoldable pub traced_diags : Comparison → Tables → List Diag
traced_diags same m = each (diags_at same m) (up_to (x_count m))
