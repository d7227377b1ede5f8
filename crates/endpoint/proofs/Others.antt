-- WHAT CALLERS GET, for any tables: the group of an end asks for names, C, F and E alone, beside the tables that a reference is resolved by. Assumes nothing.
use mathlib.Core.Bool.{Bool, true, false}
use mathlib.Core.Path.{◌≡◌, refl, sym, ap, ap₂, ◌∙◌}
use mathlib.Core.List.{List, [], ◌∷◌, ◌++◌}
use Prim.Native.Nat.{ℕ, zero, suc}
use Rattle.std.specs.Prelude.{Option, Some, None, option_map}
use Rattle.as5506.specs.Tables.{Tables, missing, present, rows_naming, Ref, ref, c_package, c_type, p_name, u_package, u_extends, u_inverse_of, e_name, e_classifier, declared_of}
use Rattle.as5506.specs.Names.{key}
use Rattle.as5506.specs.Resolve.{Resolved, component_type, component_impl, group_type, unresolved, resolve}
use Rattle.as5506.specs.Groups.{Expansion, Visit, joined, one_visit, is_nested, feature_by, features_walked, extended_by, type_by, found_by, visit_within, depth_limit, expand_feature_group, expand}
use Rattle.as5506.specs.GroupList.{is_group_feature, type_of, declared_group, asking_package, classifier_by, declared_by, typed_by, endpoint_by, endpoint}
use Rattle.as5506.proofs.Laws.{all-of, map_same}
use Rattle.lent.specs.Model.{with_components}
use Rattle.resolver.proofs.Others.{resolve-same}
use Rattle.endpoint.specs.declared.Group.{Group}
use Rattle.endpoint.specs.Ends.{expanded}

module _ (m o : Tables) where
  -- a model that has the components, the packages and the types of m
  abbrev w : Tables
  w = with_components m o

  -- ---- an expansion

  -- visits that give the same
  module _ (v v' : Visit) (h : (from : ℕ) (r : Ref) (inverse : Bool) (prefix : List ℕ) → v from r inverse prefix ≡ v' from r inverse prefix) where
    feature-same : (b : Bool) (from : ℕ) (inverse : Bool) (prefix : List ℕ) (e : ℕ) → feature_by b w v from inverse prefix e ≡ feature_by b m v' from inverse prefix e
    unfolding feature_by
    feature-same true from inverse prefix e = h from (e_classifier m e) inverse (prefix ++ (e_name m e ∷ []))
    feature-same false from inverse prefix e = refl

    walked-same : (from : ℕ) (inverse : Bool) (prefix : List ℕ) (u : ℕ) → features_walked w v from inverse prefix u ≡ features_walked m v' from inverse prefix u
    unfolding features_walked rows_naming
    walked-same from inverse prefix u =
        let f : ℕ → Expansion = λ e. feature_by (is_nested w e) w v from inverse prefix e in
        let g : ℕ → Expansion = λ e. feature_by (is_nested m e) m v' from inverse prefix e in
        ap joined (map_same f g (declared_of m 1 u) (all-of (λ e. f e ≡ g e) (λ e. feature-same (is_nested m e) from inverse prefix e) (declared_of m 1 u)))

    extended-same : (b : Bool) (from : ℕ) (inverse : Bool) (prefix : List ℕ) (u : ℕ) → extended_by b w v from inverse prefix u ≡ extended_by b m v' from inverse prefix u
    unfolding extended_by
    extended-same true from inverse prefix u = h from (u_extends m u) inverse prefix
    extended-same false from inverse prefix u = refl

    type-same : (b : Bool) (from : ℕ) (inverse : Bool) (prefix : List ℕ) (u : ℕ) → type_by b w v from inverse prefix u ≡ type_by b m v' from inverse prefix u
    unfolding type_by
    type-same true from inverse prefix u = h from (u_inverse_of m u) _ prefix
    type-same false from inverse prefix u =
        ap₂ (λ (a b : Expansion). joined (a ∷ b ∷ [])) (extended-same (present (u_extends m u).type) from inverse prefix u) (walked-same from inverse prefix u)

    reached-same : (inverse : Bool) (prefix : List ℕ) (d : Resolved) → found_by w v inverse prefix d ≡ found_by m v' inverse prefix d
    unfolding found_by
    reached-same inverse prefix (component_type i) = refl
    reached-same inverse prefix (component_impl i) = refl
    reached-same inverse prefix (group_type u) = type-same (present (u_inverse_of m u).type) (p_name m (u_package m u)) inverse prefix u
    reached-same inverse prefix unresolved = refl

  visit-same : (left from : ℕ) (r : Ref) (inverse : Bool) (prefix : List ℕ) → visit_within w left from r inverse prefix ≡ visit_within m left from r inverse prefix
  unfolding visit_within
  visit-same zero from r inverse prefix = refl
  visit-same (suc left) from r inverse prefix =
      ap (λ (x : Expansion). joined (one_visit ∷ x ∷ []))
      (reached-same (visit_within w left) (visit_within m left) (visit-same left) inverse prefix (resolve w from r)
      ∙ ap (found_by m (visit_within m left) inverse prefix) (resolve-same m w from r))

  pub expand-same : (from name : ℕ) → expand w from name ≡ expand m from name
  unfolding expand expand_feature_group
  expand-same from name = visit-same (suc depth_limit) from (ref missing name missing) false []

  -- ---- the group of feature f of component c

  classifier-same : (b : Bool) (c : ℕ) (r : Ref) → classifier_by b w c r ≡ classifier_by b m c r
  unfolding classifier_by
  classifier-same true c r = ap (λ (x : Expansion). Some x) (expand-same (asking_package m c r) r.type)
  classifier-same false c r = refl

  declared-same : (c : ℕ) (z : Option ℕ) → declared_by w c z ≡ declared_by m c z
  unfolding declared_by
  declared-same c None = refl
  declared-same c (Some e) = classifier-same (present (e_classifier m e).type) c (e_classifier m e)

  typed-same : (c : ℕ) (k : List ℕ) (d : Resolved) → typed_by w c k d ≡ typed_by m c k d
  unfolding typed_by declared_group rows_naming key
  typed-same c k (component_type t) = declared-same c (declared_group m t k)
  typed-same c k (component_impl i) = refl
  typed-same c k (group_type i) = refl
  typed-same c k unresolved = refl

  endpoint-by-same : (b : Bool) (c : ℕ) (k : List ℕ) → endpoint_by b w c k ≡ endpoint_by b m c k
  unfolding endpoint_by type_of
  endpoint-by-same true c k = typed-same c k (type_of w c) ∙ ap (typed_by m c k) (resolve-same m w (c_package m c) (ref (c_package m c) (c_type m c) missing))
  endpoint-by-same false c k = refl

  pub endpoint-same : (c f : ℕ) → endpoint w c f ≡ endpoint m c f
  unfolding endpoint is_group_feature rows_naming key
  endpoint-same c f = endpoint-by-same (is_group_feature m c (key m f)) c (key m f)

  expanded-same : (z : Option Group) → option_map (expanded w) z ≡ option_map (expanded m) z
  expanded-same None = refl
  expanded-same (Some g) = ap (λ (x : Expansion). Some x) (expand-same g.package g.type_name)

  -- z is what a call gave
  pub endpoint_in_all : (c f : ℕ) (z : Option Group) → option_map (expanded m) z ≡ endpoint m c f → option_map (expanded w) z ≡ endpoint w c f
  endpoint_in_all c f z e = expanded-same z ∙ e ∙ sym (endpoint-same c f)
