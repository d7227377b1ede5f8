-- What each step of the code says of the definition's ends. Assumes nothing.
use mathlib.Core.Bool.{Bool, true, false, ◌&&◌, ◌||◌}
use mathlib.Core.Path.{◌≡◌, refl, sym, ap, ap₂, ◌∙◌}
use mathlib.Core.List.{List, [], ◌∷◌}
use Prim.Native.Nat.{ℕ, ◌≤◌, ◌<◌}
use lib.Dec.{eqb}
use Rattle.std.specs.Prelude.{Option, Some, None, is_some}
use Rattle.as5506.specs.Lists.{up_to, put_if, keep, first_of, any_of, same_bytes}
use Rattle.as5506.specs.Tables.{Tables, missing, letter_f, letter_e, count, Side, Ref, ref, name_of, rows_naming, x_owner, x_sub, c_package, c_type, f_name, f_owner, f_kind, features_of, e_name, e_kind, e_holder, e_holder_kind, e_classifier, present}
use Rattle.as5506.specs.Names.{Comparison, key}
use Rattle.as5506.specs.Resolve.{resolve}
use Rattle.as5506.specs.Groups.{Expansion, feature_kind_group, expand}
use Rattle.as5506.specs.Tracing.{found_children, named}
use Rattle.as5506.specs.GroupList.{is_group_feature, type_of, declared_group, classifier_by, declared_by, typed_by, endpoint_by, endpoint, end_component_by, end_component}
use Rattle.as5506.proofs.Laws.{missing-is, present-is}
use Rattle.as5506.proofs.Scans.{keep-both}
use Rattle.resolver.specs.declared.Classifier.{Classifier}
use Rattle.resolver.specs.declared.Classifier.TheVariants.{ComponentType, ComponentImpl, GroupType}
use Rattle.resolver.specs.Found.{found}
use Rattle.resolver.proofs.Answers.{meant, means}
use Rattle.as5506.proofs.Searches.{Searching, search_hit, search_end}
use Rattle.endpoint.specs.Ends.{is_group, is_declared}

module _ (m : Tables) where
  -- ---- the component of an end

  module _ (same : Comparison) (s : Side) (i p sub : ℕ) (e : p ≡ x_owner m i) (f : sub ≡ x_sub m s i) where
    pub end_owner : sub ≡ missing → Some p ≡ end_component same m s i
    unfolding end_component end_component_by
    end_owner h = rw (missing-is sub (x_sub m s i) f h) (ap Some e)

    -- l is what the name finds
    pub end_child : (l : List ℕ) (q : Option ℕ) → (sub ≡ missing → ⊥) → l ≡ found_children same m p (name_of m sub) → q ≡ first_of l → q ≡ end_component same m s i
    unfolding end_component end_component_by named
    end_child l q h a g =
        rw (present-is sub (x_sub m s i) f h) (g ∙ ap first_of (a ∙ ap₂ (λ (p sub : ℕ). found_children same m p (name_of m sub)) e f))

  -- ---- the group features of a component

  -- an entry passes exactly where there is a first that does
  any-first : (p : ℕ → Bool) (xs : List ℕ) → any_of p xs ≡ is_some (first_of (keep p xs))
  any-first p [] = refl
  any-first p (x ∷ xs) = by_first (p x) (any_of p xs) (keep p xs) (any-first p xs)
    where
      by_first : (b a : Bool) (l : List ℕ) → a ≡ is_some (first_of l) → b || a ≡ is_some (first_of (put_if b x l))
      by_first true a l e = refl
      by_first false a l e = e

  module _ (c : ℕ) (k : List ℕ) where
    feature-search : is_group_feature m c k ≡ is_some (first_of (keep (is_group m c k) (up_to (count m letter_f))))
    unfolding is_group_feature rows_naming is_group
    feature-search =
        let p : ℕ → Bool = λ f. eqb (f_kind m f) feature_kind_group && same_bytes (key m (f_name m f)) k in
        any-first p (features_of m c) ∙ ap (λ (l : List ℕ). is_some (first_of l)) (keep-both p (λ f. eqb (f_owner m f) c) (up_to (count m letter_f)))

    module _ (i : ℕ) (s : Searching (is_group m c k) (count m letter_f) i) where
      pub feature_hit : i < count m letter_f → is_group m c k i ≡ true → true ≡ is_group_feature m c k
      feature_hit h t = ap is_some (search_hit (is_group m c k) (count m letter_f) i s h t) ∙ sym feature-search

      pub feature_end : count m letter_f ≤ i → false ≡ is_group_feature m c k
      feature_end h = ap is_some (search_end (is_group m c k) (count m letter_f) i s h) ∙ sym feature-search

  -- ---- the groups that a component type declares

  module _ (t : ℕ) (k : List ℕ) (z : Option ℕ) where
    pub declared_found : z ≡ first_of (keep (is_declared m t k) (up_to (count m letter_e))) → z ≡ declared_group m t k
    unfolding declared_group rows_naming is_declared
    declared_found e =
        let p : ℕ → Bool = λ e. eqb (e_kind m e) feature_kind_group && same_bytes (key m (e_name m e)) k in
        let q : ℕ → Bool = λ e. eqb (e_holder_kind m e) 0 in
        let h : ℕ → Bool = λ e. eqb (e_holder m e) t in
        let rows : List ℕ = up_to (count m letter_e) in
        e ∙ ap first_of (sym (keep-both p q (keep h rows) ∙ keep-both (λ e. q e && p e) h rows))

  -- ---- the classifier of E row e, for component c

  module _ (c e : ℕ) (r : Ref) (a : r ≡ e_classifier m e) where
    pub no_classifier : r.type ≡ missing → None ≡ declared_by m c (Some e)
    unfolding declared_by classifier_by
    no_classifier h = rw (missing-is r.type (e_classifier m e).type (ap (λ (r : Ref). r.type) a) h)

    module _ (h : r.type ≡ missing → ⊥) where
      asked : (b : Bool) → classifier_by (present r.type) m c r ≡ declared_by m c (Some e)
      unfolding declared_by
      asked b = ap (λ (r : Ref). classifier_by (present r.type) m c r) a

      pub from_component : (g : ℕ) → r.pkg ≡ missing → g ≡ c_package m c → Some (expand m g r.type) ≡ declared_by m c (Some e)
      unfolding classifier_by
      from_component g k d = ap (λ (g : ℕ). Some (expand m g r.type)) d ∙ sym (rw (present-is r.type r.type refl h, missing-is r.pkg r.pkg refl k)) ∙ asked true

      pub from_classifier : (r.pkg ≡ missing → ⊥) → Some (expand m r.pkg r.type) ≡ declared_by m c (Some e)
      unfolding classifier_by
      from_classifier k = sym (rw (present-is r.type r.type refl h, present-is r.pkg r.pkg refl k)) ∙ asked true

  -- ---- the group of feature f of component c

  module _ (c f : ℕ) (b : Bool) (p : b ≡ is_group_feature m c (key m f)) where
    pub no_feature : b ≡ false → None ≡ endpoint m c f
    unfolding endpoint endpoint_by
    no_feature h = rw (← p, h)

    module _ (h : b ≡ true) (v w : ℕ) (d : v ≡ c_package m c) (t : w ≡ c_type m c) where
      -- z is what the resolver gave
      typed : (z : Option Classifier) → z ≡ found m (resolve m v (ref v w missing)) → typed_by m c (key m f) (meant z) ≡ endpoint m c f
      unfolding endpoint endpoint_by type_of
      typed z e = rw (← p, h) (ap (typed_by m c (key m f)) (sym (means m v (ref v w missing) z e) ∙ ap₂ (λ (v w : ℕ). resolve m v (ref v w missing)) d t))

      pub no_type : None ≡ found m (resolve m v (ref v w missing)) → None ≡ endpoint m c f
      unfolding typed_by
      no_type e = typed None e

      module _ (z : Classifier) (e : Some z ≡ found m (resolve m v (ref v w missing))) where
        pub no_impl : (g i : ℕ) → z ≡ ComponentImpl g i → None ≡ endpoint m c f
        unfolding typed_by
        no_impl g i q = typed (Some (ComponentImpl g i)) (ap (λ (z : Classifier). Some z) (sym q) ∙ e)

        pub no_group : (g i : ℕ) → z ≡ GroupType g i → None ≡ endpoint m c f
        unfolding typed_by
        no_group g i q = typed (Some (GroupType g i)) (ap (λ (z : Classifier). Some z) (sym q) ∙ e)

        module _ (g i : ℕ) (q : z ≡ ComponentType g i) where
          declared : declared_by m c (declared_group m i (key m f)) ≡ endpoint m c f
          unfolding typed_by
          declared = typed (Some (ComponentType g i)) (ap (λ (z : Classifier). Some z) (sym q) ∙ e)

          pub not_declared : None ≡ declared_group m i (key m f) → None ≡ endpoint m c f
          unfolding declared_by
          not_declared n = ap (declared_by m c) n ∙ declared

          pub by_classifier : (j : ℕ) (x : Option Expansion) → Some j ≡ declared_group m i (key m f) → x ≡ declared_by m c (Some j) → x ≡ endpoint m c f
          by_classifier j x s r = r ∙ ap (declared_by m c) s ∙ declared

-- what each function goes by
pub ruleset feature_steps = (feature_hit, feature_end)

pub ruleset classifier_steps = (no_classifier, from_component, from_classifier)

pub ruleset endpoint_steps = (no_feature, no_type, no_impl, no_group, not_declared, by_classifier)
