-- The X rows: the connection of each, and what all of them give, one after the other. Assumes nothing.
use mathlib.Core.Bool.{Bool, true, false}
use mathlib.Core.Path.{◌≡◌, refl, sym, ap, ap₂, ◌∙◌}
use mathlib.Core.List.{List, [], ◌∷◌, ◌++◌}
use Prim.Native.Nat.{ℕ, ◌<◌, ◌≤◌}
use native.Mathlib.Omega.{arith}
use lib.Dec.{T}
use Rattle.std.specs.Prelude.{Option, Some, None}
use Rattle.as5506.specs.Lists.{each, when}
use Rattle.as5506.specs.Tables.{Tables, letter_c, letter_u, letter_x, count, Side, source, destination, x_count, x_feat}
use Rattle.as5506.specs.Names.{Comparison}
use Rattle.as5506.specs.Groups.{Expansion}
use Rattle.as5506.specs.Refusals.{accepted}
use Rattle.as5506.specs.GroupList.{is_group_connection, end_component, GroupConnection, group_connection, endpoint}
use Rattle.tables.proofs.Facts.{facts}
use Rattle.endpoint.proofs.Answers.{end_row}
use Rattle.group_match.specs.Matching.{between, connection_at, connections_at}

pub few_groups : (m : Tables) → T (accepted m) → count m letter_u ≤ 4096
few_groups m ok = (facts m ok).few letter_u

module _ (same : Comparison) (m : Tables) (x : ℕ) where
  -- the rows of accepted tables are few
  module _ (ok : T (accepted m)) (h : x < x_count m) where
    pub end_below : (s : Side) (a : ℕ) → Some a ≡ end_component same m s x → a < 4096
    end_below s a e = omega (arith, end_row same m s x a ((facts m ok).x-owner x h) e, (facts m ok).few letter_c)

    pub row_below : x < 4096
    row_below = omega (arith, h, (facts m ok).few letter_x)

  -- ---- rows that give none; r is the code's test

  nothing-by : (b : Bool) → connection_at same m x ≡ [] → each (connection_at same m) (when b x) ≡ []
  nothing-by true e = ap (λ (l : List GroupConnection). l ++ []) e
  nothing-by false e = refl

  no-destination : (a : Option ℕ) → group_connection m x a None ≡ []
  unfolding group_connection
  no-destination None = refl
  no-destination (Some a) = refl

  pub row_other : (r : Bool) → r ≡ is_group_connection m x → r ≡ false → [] ≡ connections_at same m x
  unfolding connections_at
  row_other r e q = sym (ap (λ (b : Bool). each (connection_at same m) (when b x)) (sym e ∙ q))

  pub row_sourceless : None ≡ end_component same m source x → [] ≡ connections_at same m x
  unfolding connections_at connection_at group_connection
  row_sourceless e = sym (nothing-by (is_group_connection m x) (ap (λ (a : Option ℕ). group_connection m x a (end_component same m destination x)) (sym e)))

  pub row_destinationless : None ≡ end_component same m destination x → [] ≡ connections_at same m x
  unfolding connections_at connection_at
  row_destinationless e = sym (nothing-by (is_group_connection m x) (ap (group_connection m x (end_component same m source x)) (sym e) ∙ no-destination (end_component same m source x)))

  -- ---- a row that gives one, by its components and their groups

  pub row_found : (r : Bool) → r ≡ is_group_connection m x → r ≡ true → (a b : ℕ) → Some a ≡ end_component same m source x → Some b ≡ end_component same m destination x
      → (f g : ℕ) → f ≡ x_feat m source x → g ≡ x_feat m destination x → (s d : Option Expansion) → s ≡ endpoint m a f → d ≡ endpoint m b g → between x a b s d ∷ [] ≡ connections_at same m x
  unfolding connections_at connection_at group_connection
  row_found r e q a b ea eb f g ef eg s d es ed =
      ap₂ (λ (s d : Option Expansion). between x a b s d ∷ []) (es ∙ ap (endpoint m a) ef) (ed ∙ ap (endpoint m b) eg)
      ∙ sym (ap (λ (t : Bool). each (connection_at same m) (when t x)) (sym e ∙ q) ∙ ap₂ (λ (i j : Option ℕ). group_connection m x i j ++ []) (sym ea) (sym eb))

-- what `group_connection` goes by
pub ruleset row_steps = (few_groups, end_below, row_other, row_sourceless, row_destinationless, row_found)
