-- The features of an expansion: each is that of an E row, with a prefix of at most ten names. Assumes nothing.
use mathlib.Core.Bool.{Bool, true, false, not}
use mathlib.Core.List.{List, [], ◌∷◌, ◌++◌}
use Prim.Native.Nat.{ℕ, zero, suc, ◌+◌, ◌/◌, ◌≤◌, ◌<◌}
use native.Mathlib.Omega.{arith}
use lib.Dec.{eqb, ltb}
use lib.ListN.{length, get_or, length-append}
use Rattle.as5506.specs.Lists.{up_to}
use Rattle.as5506.specs.Tables.{present, width, letter_e, e_holder_kind, e_holder, e_name, rows_naming}
use Rattle.as5506.specs.Groups.{Feature, Expansion, depth_limit}
use Rattle.as5506.proofs.Laws.{All, all_append, up_to-below, all-kept}
use Rattle.links.specs.Links.{unfound}
use Rattle.links.specs.Walk.{declared_in, Groups, Visit, feature_at, row_by, walk, rows_in, extended_by, type_by, found_by, visit_link}

-- whatever the features of E rows have, with either flag and each prefix of at most ten names
module _ (g : Groups) (P : Feature → Type 0)
    (own : (i : ℕ) (inverse : Bool) (prefix : List ℕ) → i < length g.e / width letter_e → length prefix ≤ depth_limit → P (feature_at g.e inverse prefix i)) where
  abbrev Each : Expansion → Type 0
  Each x = All P x.features

  -- ---- one level, for deeper visits whose features have it

  module _ (visit : Visit) (left : ℕ) (deeper : (to : ℕ) (inverse : Bool) (prefix : List ℕ) → length prefix + left ≤ suc depth_limit → Each (visit to inverse prefix))
      (inverse : Bool) (prefix : List ℕ) (short : length prefix + suc left ≤ suc depth_limit) where
    row-each : (b : Bool) (i : ℕ) → i < length g.e / width letter_e → Each (row_by b g visit inverse prefix i)
    unfolding row_by
    row-each true i h =
        let name : List ℕ = e_name (declared_in g.e) i ∷ [] in
        deeper (get_or g.nested i 0) inverse (prefix ++ name) (omega (arith, length-append prefix name, short))
    row-each false i h = (own i inverse prefix h (omega (arith, short)), tt)

    walk-each : (rows : List ℕ) → All (λ i. i < length g.e / width letter_e) rows → Each (walk g visit inverse prefix rows)
    unfolding walk
    walk-each [] t = tt
    walk-each (i ∷ rows) t =
        all_append P (row_by (present (get_or g.nested i 0)) g visit inverse prefix i).features (walk g visit inverse prefix rows).features
        (row-each (present (get_or g.nested i 0)) i t.0) (walk-each rows t.1)

    rows-below : (u : ℕ) → All (λ i. i < length g.e / width letter_e) (rows_in g u)
    unfolding rows_naming
    rows-below u =
        let Row : ℕ → Type 0 = λ i. i < length g.e / width letter_e in
        all-kept Row (λ i. eqb (e_holder_kind (declared_in g.e) i) 1) (rows_naming (declared_in g.e) letter_e (e_holder (declared_in g.e)) u)
        (all-kept Row (λ i. eqb (e_holder (declared_in g.e) i) u) (up_to (length g.e / width letter_e)) (up_to-below (length g.e / width letter_e)))

    extended-each : (b : Bool) (u : ℕ) → Each (extended_by b g visit inverse prefix u)
    unfolding extended_by
    extended-each true u = deeper (get_or g.extends u 0) inverse prefix (omega (arith, short))
    extended-each false u = tt

    type-each : (b : Bool) (u : ℕ) → Each (type_by b g visit inverse prefix u)
    unfolding type_by
    type-each true u = deeper (get_or g.inverse u 0) (not inverse) prefix (omega (arith, short))
    type-each false u =
        let mine : Expansion = walk g visit inverse prefix (rows_in g u) in
        all_append P (extended_by (present (get_or g.extends u 0)) g visit inverse prefix u).features (mine.features ++ [])
        (extended-each (present (get_or g.extends u 0)) u) (all_append P mine.features [] (walk-each (rows_in g u) (rows-below u)) tt)

    found-each : (b : Bool) (u : ℕ) → Each (found_by b g visit inverse prefix u)
    unfolding found_by
    found-each true u = type-each (present (get_or g.inverse u 0)) u
    found-each false u = tt

  visit-each : (left to : ℕ) (inverse : Bool) (prefix : List ℕ) → length prefix + left ≤ suc depth_limit → Each (visit_link g left to inverse prefix)
  unfolding visit_link
  visit-each zero to inverse prefix h = tt
  visit-each (suc left) to inverse prefix h =
      all_append P (found_by (ltb to unfound) g (visit_link g left) inverse prefix to).features []
      (found-each (visit_link g left) left (visit-each left) inverse prefix h (ltb to unfound) to) tt

  -- a whole expansion
  pub expansion-each : (to : ℕ) (inverse : Bool) → Each (visit_link g (suc depth_limit) to inverse [])
  expansion-each to inverse = visit-each (suc depth_limit) to inverse [] (omega arith)

-- a prefix finds room in a block
pub expansion-short : (g : Groups) (to : ℕ) (inverse : Bool) → All (λ f. length f.prefix ≤ depth_limit) (visit_link g (suc depth_limit) to inverse []).features
expansion-short g to inverse = expansion-each g (λ f. length f.prefix ≤ depth_limit) (λ i v prefix h l. l) to inverse
