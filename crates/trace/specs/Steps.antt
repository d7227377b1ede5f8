-- The steps that are left from an X row on, and behind a step: what the search for the next step keeps. Assumes nothing.
use Rattle.std.specs.Prelude.{Bool, ◌&&◌, ◌≡◌, List, [], ◌∷◌, ◌++◌, map, ℕ, ◌+◌, ◌-◌, ◌<◌, eqb, Option, Some, None}
use Rattle.std.specs.Option.{ForSome}
use Rattle.as5506.specs.Lists.{span, keep, each}
use Rattle.as5506.specs.Tables.{Tables, name_of, c_count, x_count, x_owner, x_sub}
use Rattle.as5506.specs.Tables.{Side as TheSide}
use Rattle.as5506.specs.Tracing.{Step as TheStep, Chain, leads, steps_over, found_children, chains, stop, push}
use Rattle.child_links.specs.Trees.{of_tree, same_in}
use Rattle.columns.specs.Side.{side_of}
use Rattle.children.specs.Found.{children_left, tables_of}
use Rattle.trace.specs.declared.step.Step.{Step}
use Rattle.trace.specs.declared.step.Steps.{Steps}

-- the model of the tables that steps go through
abbrev pub tables_in : Steps → Tables
tables_in q = of_tree q.tree.now

-- their side
abbrev pub side_in : Steps → TheSide
side_in q = side_of q.side

-- connection i is one of the component and leads from its feature towards the side
unfoldable pub is_step : Steps → ℕ → Bool
is_step q i = eqb (x_owner (tables_in q) i) q.component && leads (same_in q.tree.now) (tables_in q) (side_in q) (name_of (tables_in q) q.feature) i

-- the children that connection i names on the side
abbrev pub found_over : Steps → ℕ → List ℕ
found_over q i = found_children (same_in q.tree.now) (tables_in q) q.component (name_of (tables_in q) (x_sub (tables_in q) (side_in q) i))

-- the steps over the connections from i on: all of them from connection 0 on (proofs: steps-from-start)
unfoldable pub steps_from : Steps → ℕ → List TheStep
steps_from q i = each (steps_over (same_in q.tree.now) (tables_in q) (side_in q) q.component) (keep (is_step q) (span i (x_count (tables_in q) - i)))

-- over a step's connection to child i
abbrev pub step_with : Step → ℕ → TheStep
step_with st i = record { conn = st.row; child = i; feat = st.feature }

-- the steps behind one: over the same connection to the other children, then over those behind it
unfoldable pub steps_behind : Steps → Step → List TheStep
steps_behind q st = map (step_with st) (children_left st.others) ++ steps_from q (st.row + 1)

-- the steps that an answer stands for: none, or its own and those behind it
abbrev pub after_step : Steps → Option Step → List TheStep
after_step q None = []
after_step q (Some st) = step_with st st.child ∷ steps_behind q st

-- an answer's connection and child are rows, and its other children stand in the same tables
pub record StepWithin (q : Steps) (st : Step) : Type 0 where
  pub row : st.row < x_count (tables_in q)
  pub child : st.child < c_count (tables_in q)
  pub tables : tables_of st.others ≡ tables_in q

abbrev pub Within : Steps → Option Step → Type 0
Within q r = ForSome r (StepWithin q)

-- the chains from where the steps begin
abbrev pub chains_from : Steps → ℕ → List Chain
chains_from q k = chains (same_in q.tree.now) (tables_in q) (side_in q) k q.component q.feature

-- the chains that go on over a step, and then over at most k more
abbrev pub chains_over : Steps → ℕ → TheStep → List Chain
chains_over q k st = map (push st.conn) (chains (same_in q.tree.now) (tables_in q) (side_in q) k st.child st.feat)

-- how the chains of at most k steps begin: there is no step to make, or they go on over a first one and those behind it
abbrev pub Begins : Steps → ℕ → Option Step → Type 0
Begins q k None = chains_from q k ≡ stop q.component q.feature ∷ []
Begins q k (Some st) = (0 < k) × (chains_from q k ≡ each (chains_over q (k - 1)) (after_step q (Some st)))
