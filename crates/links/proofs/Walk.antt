-- WHAT CALLERS GET: an expansion over the tables of links is the definition's. Assumes nothing.
use mathlib.Core.Bool.{Bool, true, false, not}
use mathlib.Core.Path.{◌≡◌, refl, ap, ap₂, ◌∙◌}
use mathlib.Core.List.{List, [], ◌∷◌, ◌++◌}
use Prim.Native.Nat.{ℕ, zero, suc, ◌≤◌, ◌<◌}
use native.Mathlib.Omega.{arith}
use borrow.Author.Tests.{lt-ltb, eq-eqb, ne_eqb}
use lib.Dec.{eqb, ltb, eqb→eq}
use lib.ListN.{get_or}
use Rattle.as5506.specs.Lists.{up_to}
use Rattle.as5506.specs.Tables.{Tables, missing, present, letter_u, letter_e, count, Ref, p_name, u_package, u_extends, u_inverse_of, e_holder_kind, e_holder, e_name, e_classifier, rows_naming, declared_of}
use Rattle.as5506.specs.Resolve.{Resolved, component_type, component_impl, group_type, unresolved, resolve}
use Rattle.as5506.specs.Groups.{Expansion, joined, one_visit, is_nested, feature_by, features_walked, visit_within}
use Rattle.as5506.specs.Groups as groups
use Rattle.as5506.proofs.Laws.{All, all_map, all_keep, up_to-below, map_same}
use Rattle.resolver.proofs.Answers.{InTables, resolved-in}
use Rattle.links.specs.Links.{unfound, group_row, link_of, link_in, extends_link, inverse_link, nested_link, Linked}
use Rattle.links.specs.Walk.{Groups, groups_in, Visit, row_by, walk, rows_in, extended_by, type_by, found_by, visit_link}

module _ (m : Tables) (few : count m letter_u ≤ 4096) where
  -- ---- a link is missing where there is no reference, and there only

  row-present : (d : Resolved) → InTables m d → present (group_row d) ≡ true
  row-present (component_type i) h = refl
  row-present (component_impl i) h = refl
  row-present (group_type i) h = ap not (ne_eqb i missing (λ e. omega (arith, h.0)))
  row-present unresolved h = refl

  -- a link that is asked for is not missing
  pub link-there : (from : ℕ) (r : Ref) → present (link_of m from r) ≡ true
  unfolding link_of
  link-there from r = row-present (resolve m from r) (resolved-in m from r)

  link-present : (b : Bool) (u : ℕ) (r : Ref) → present (link_in b m u r) ≡ b
  link-present true u r = link-there (p_name m (u_package m u)) r
  link-present false u r = refl

  module _ (nested extends inverse : List ℕ) (k : Linked m nested extends inverse) where
    abbrev g : Groups
    g = groups_in m.e nested extends inverse

    -- ---- one level, for any deeper visits that agree

    module _ (v : Visit) (w : groups.Visit) (same : (from : ℕ) (r : Ref) (inv : Bool) (prefix : List ℕ) → v (link_of m from r) inv prefix ≡ w from r inv prefix) where
      -- a link that stands in a table
      same_at : (link from : ℕ) (r : Ref) (inv : Bool) (prefix : List ℕ) → link ≡ link_of m from r → v link inv prefix ≡ w from r inv prefix
      same_at link from r inv prefix e = ap (λ (l : ℕ). v l inv prefix) e ∙ same from r inv prefix

      module _ (inv : Bool) (prefix : List ℕ) (u : ℕ) where
        abbrev from : ℕ
        from = p_name m (u_package m u)

        row-by : (b : Bool) (i : ℕ) → get_or nested i 0 ≡ link_in b m u (e_classifier m i) → row_by b g v inv prefix i ≡ feature_by b m w from inv prefix i
        unfolding row_by feature_by
        row-by true i e = same_at (get_or nested i 0) from (e_classifier m i) inv (prefix ++ (e_name m i ∷ [])) e
        row-by false i e = refl

        -- an E row of group type u
        abbrev Own : ℕ → Type 0
        Own i = (i < count m letter_e) × (e_holder m i ≡ u) × (e_holder_kind m i ≡ 1)

        own-link : (i : ℕ) → Own i → get_or nested i 0 ≡ link_in (is_nested m i) m u (e_classifier m i)
        unfolding nested_link
        own-link i h = k.of-nested i h.0 ∙ rw (eq-eqb (e_holder_kind m i) 1 h.2, h.1)

        row_same : (i : ℕ) → Own i → row_by (present (get_or nested i 0)) g v inv prefix i ≡ feature_by (is_nested m i) m w from inv prefix i
        row_same i h =
            let e : get_or nested i 0 ≡ link_in (is_nested m i) m u (e_classifier m i) = own-link i h in
            ap (λ (b : Bool). row_by b g v inv prefix i) (ap present e ∙ link-present (is_nested m i) u (e_classifier m i)) ∙ row-by (is_nested m i) i e

        own-rows : All Own (declared_of m 1 u)
        unfolding rows_naming
        own-rows =
            all_keep (λ i. (i < count m letter_e) × (e_holder m i ≡ u)) Own (λ i. eqb (e_holder_kind m i) 1) (λ i t h. (h.0, h.1, eqb→eq (e_holder_kind m i) 1 t)) (rows_naming m letter_e (e_holder m) u)
            (all_keep (λ i. i < count m letter_e) (λ i. (i < count m letter_e) × (e_holder m i ≡ u)) (λ i. eqb (e_holder m i) u) (λ i t h. (h, eqb→eq (e_holder m i) u t)) (up_to (count m letter_e)) (up_to-below (count m letter_e)))

        walk_same : walk g v inv prefix (rows_in g u) ≡ features_walked m w from inv prefix u
        unfolding walk features_walked rows_naming
        walk_same =
            let f : ℕ → Expansion = λ i. row_by (present (get_or nested i 0)) g v inv prefix i in
            let f' : ℕ → Expansion = λ i. feature_by (is_nested m i) m w from inv prefix i in
            ap joined (map_same f f' (declared_of m 1 u) (all_map Own (λ i. f i ≡ f' i) row_same (declared_of m 1 u) own-rows))

        extended-by : (b : Bool) → get_or extends u 0 ≡ link_in b m u (u_extends m u) → extended_by b g v inv prefix u ≡ groups.extended_by b m w from inv prefix u
        unfolding extended_by groups.extended_by
        extended-by true e = same_at (get_or extends u 0) from (u_extends m u) inv prefix e
        extended-by false e = refl

        extended-same : u < count m letter_u → extended_by (present (get_or extends u 0)) g v inv prefix u ≡ groups.extended_by (present (u_extends m u).type) m w from inv prefix u
        unfolding extends_link
        extended-same h =
            let e : get_or extends u 0 ≡ extends_link m u = k.of-extends u h in
            ap (λ (b : Bool). extended_by b g v inv prefix u) (ap present e ∙ link-present (present (u_extends m u).type) u (u_extends m u)) ∙ extended-by (present (u_extends m u).type) e

        type-by : (b : Bool) → u < count m letter_u → get_or inverse u 0 ≡ link_in b m u (u_inverse_of m u) → type_by b g v inv prefix u ≡ groups.type_by b m w from inv prefix u
        unfolding type_by groups.type_by
        type-by true h e = same_at (get_or inverse u 0) from (u_inverse_of m u) (not inv) prefix e
        type-by false h e = ap₂ (λ (a b : Expansion). joined (a ∷ b ∷ [])) (extended-same h) walk_same

        type-same : u < count m letter_u → type_by (present (get_or inverse u 0)) g v inv prefix u ≡ groups.type_by (present (u_inverse_of m u).type) m w from inv prefix u
        unfolding inverse_link
        type-same h =
            let e : get_or inverse u 0 ≡ inverse_link m u = k.of-inverse u h in
            ap (λ (b : Bool). type_by b g v inv prefix u) (ap present e ∙ link-present (present (u_inverse_of m u).type) u (u_inverse_of m u)) ∙ type-by (present (u_inverse_of m u).type) h e

      found-same : (inv : Bool) (prefix : List ℕ) (d : Resolved) → InTables m d → found_by (ltb (group_row d) unfound) g v inv prefix (group_row d) ≡ groups.found_by m w inv prefix d
      unfolding found_by groups.found_by
      found-same inv prefix (component_type i) h = refl
      found-same inv prefix (component_impl i) h = refl
      found-same inv prefix (group_type u) h = rw (lt-ltb u unfound (omega (arith, h.0))) (type-same inv prefix u h.0)
      found-same inv prefix unresolved h = refl

-- the links of a model with at most 4,096 group types, that of a reference among them, give what the reference itself gives
pub linked : (m : Tables) (nested extends inverse : List ℕ) → Linked m nested extends inverse → count m letter_u ≤ 4096 → (left from : ℕ) (r : Ref) (inv : Bool) (prefix : List ℕ)
    → visit_link (groups_in m.e nested extends inverse) left (link_of m from r) inv prefix ≡ visit_within m left from r inv prefix
unfolding visit_link visit_within link_of
linked m nested extends inverse k few zero asking r inv prefix = refl
linked m nested extends inverse k few (suc left) asking r inv prefix =
    ap (λ (x : Expansion). joined (one_visit ∷ x ∷ []))
    (found-same m few nested extends inverse k (visit_link (groups_in m.e nested extends inverse) left) (visit_within m left) (linked m nested extends inverse k few left) inv prefix (resolve m asking r) (resolved-in m asking r))
