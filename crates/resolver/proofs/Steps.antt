-- What each step of the code says of the definition's resolution, for any tables. Assumes nothing.
use mathlib.Core.Bool.{Bool, true, false, ◌||◌, cond}
use mathlib.Core.Path.{◌≡◌, refl, sym, ap, ◌∙◌}
use mathlib.Core.List.{List, [], ◌∷◌, ◌++◌, map}
use Prim.Native.Nat.{ℕ, ◌+◌, ◌-◌, ◌≤◌, ◌<◌}
use native.Mathlib.Nat.{sub-zero}
use lib.Dec.{eqb}
use borrow.Author.Tests.{eq-eqb, ne_eqb}
use Rattle.std.specs.Prelude.{Option, Some, None, is_some}
use Rattle.as5506.specs.Lists.{span, keep, first_of}
use Rattle.as5506.specs.Tables.{Tables, missing, letter_i, count, rows_naming, Ref, ref, i_package, i_name, t_private, q_private, u_private, r_original_package, r_original_name, name_of}
use Rattle.as5506.specs.Names.{key, same_folded}
use Rattle.as5506.specs.Resolve.{Resolved, component_type, component_impl, group_type, unresolved, package_named, type_named, impl_named, group_named, renames_named, visible, type_hit, in_package_by, in_package, in_found, replaced_by, replaced, in_named, with_package, first_found, from_imports, target, renames_for, after_rename, after_own, without_package, resolve_by, resolve}
use Rattle.as5506.proofs.Scans.{keep-hit, keep-miss, keep-done}
use Rattle.resolver.specs.declared.Classifier.{Classifier}
use Rattle.resolver.specs.declared.Classifier.TheVariants.{ComponentType, ComponentImpl, GroupType}
use Rattle.resolver.specs.Found.{found}
use Rattle.resolver.proofs.Rows.{type_row, impl_row, group_row}

module _ (m : Tables) where
  -- ---- in one package

  shown_by : (b : Bool) (d : Resolved) → cond b (found m d) None ≡ found m (cond b d unresolved)
  shown_by true d = refl
  shown_by false d = refl

  -- a hit of package g, which is the hit's own
  shown : (own : Bool) (private v : ℕ) (d : Resolved) (hit : Classifier) (z : Option Classifier) → v ≡ private → Some hit ≡ found m d → z ≡ cond (own || eqb v 0) (Some hit) None → z ≡ found m (visible own private d)
  shown own private v d hit z p q e = e ∙ rw (p, q) (shown_by (own || eqb private 0) d)

  module _ (own : Bool) (g : ℕ) (r : Ref) where
    module _ (h : r.impl ≡ missing → ⊥) where
      pub impl_none : None ≡ impl_named m g (key m r.type) (key m r.impl) → None ≡ found m (in_package m own g r)
      unfolding in_package in_package_by
      impl_none p = rw (ne_eqb r.impl missing h, ← p)

      pub impl_some : (i v : ℕ) (z : Option Classifier) → Some i ≡ impl_named m g (key m r.type) (key m r.impl) → v ≡ q_private m i → z ≡ cond (own || eqb v 0) (Some (ComponentImpl g i)) None → z ≡ found m (in_package m own g r)
      unfolding in_package in_package_by
      impl_some i v z p w e = rw (ne_eqb r.impl missing h, ← p) (shown own (q_private m i) v (component_impl i) (ComponentImpl g i) z w (rw (impl_row m g _ _ i p).1) e)

    module _ (h : r.impl ≡ missing) where
      pub type_some : (i v : ℕ) (z : Option Classifier) → Some i ≡ type_named m g (key m r.type) → v ≡ t_private m i → z ≡ cond (own || eqb v 0) (Some (ComponentType g i)) None → z ≡ found m (in_package m own g r)
      unfolding in_package in_package_by type_hit
      type_some i v z p w e = rw (eq-eqb r.impl missing h, ← p) (shown own (t_private m i) v (component_type i) (ComponentType g i) z w (rw (type_row m g _ i p).1) e)

      module _ (n : None ≡ type_named m g (key m r.type)) where
        pub group_none : None ≡ group_named m g (key m r.type) → None ≡ found m (in_package m own g r)
        unfolding in_package in_package_by type_hit
        group_none p = rw (eq-eqb r.impl missing h, ← n, ← p)

        pub group_some : (i v : ℕ) (z : Option Classifier) → Some i ≡ group_named m g (key m r.type) → v ≡ u_private m i → z ≡ cond (own || eqb v 0) (Some (GroupType g i)) None → z ≡ found m (in_package m own g r)
        unfolding in_package in_package_by type_hit
        group_some i v z p w e = rw (eq-eqb r.impl missing h, ← n, ← p) (shown own (u_private m i) v (group_type i) (GroupType g i) z w (rw (group_row m g _ i p).1) e)

  module _ (own : Bool) (r : Ref) (k : List ℕ) where
    pub package_none : None ≡ package_named m k → None ≡ found m (in_found m own r (package_named m k))
    unfolding in_found
    package_none p = rw (← p)

    pub package_some : (g : ℕ) (z : Option Classifier) → Some g ≡ package_named m k → z ≡ found m (in_package m own g r) → z ≡ found m (in_found m own r (package_named m k))
    unfolding in_found
    package_some g z p e = rw (← p) e

  -- ---- a reference with a package

  module _ (h : ℕ) (a : Option ℕ) where
    pub not_asked : a ≡ None → h ≡ replaced_by m h a
    unfolding replaced_by
    not_asked q = rw q

    module _ (g : ℕ) (q : a ≡ Some g) where
      pub not_renamed : None ≡ first_of (renames_named m g 0 (key m h)) → h ≡ replaced_by m h a
      unfolding replaced_by
      not_renamed p = rw (q, ← p)

      pub renamed : (j v : ℕ) → Some j ≡ first_of (renames_named m g 0 (key m h)) → v ≡ r_original_package m j → v ≡ replaced_by m h a
      unfolding replaced_by
      renamed j v p e = rw (q, ← p) e

  pub by_replaced : (from : ℕ) (r : Ref) (asking : Option ℕ) (name : ℕ) (own : Bool) (z : Option Classifier) → asking ≡ package_named m (key m from) → name ≡ replaced_by m r.pkg asking → own ≡ same_folded (name_of m name) (name_of m from) → z ≡ found m (in_found m own r (package_named m (key m name))) → z ≡ found m (with_package m from r)
  unfolding with_package replaced in_named same_folded key
  by_replaced from r asking name own z a p o e = rw (← a, ← p, ← o) e

  -- ---- imports

  found_first : (d : Resolved) (ds : List Resolved) → is_some (found m d) ≡ true → first_found (d ∷ ds) ≡ d
  found_first (component_type i) ds h = refl
  found_first (component_impl i) ds h = refl
  found_first (group_type i) ds h = refl
  found_first unresolved ds h = cc

  missed_first : (d : Resolved) (ds : List Resolved) → is_some (found m d) ≡ false → first_found (d ∷ ds) ≡ first_found ds
  missed_first (component_type i) ds h = cc
  missed_first (component_impl i) ds h = cc
  missed_first (group_type i) ds h = cc
  missed_first unresolved ds h = refl

  module _ (g : ℕ) (r : Ref) where
    abbrev asks : ℕ → Bool
    asks i = eqb (i_package m i) g

    abbrev imported : ℕ → Resolved
    imported i = in_found m false r (package_named m (key m (i_name m i)))

    -- "imports in order": what those of package g give from row i of I on is what all give
    unfoldable pub Importing : ℕ → Type 0
    Importing i = from_imports m g r ≡ first_found (map imported (keep asks (span i (count m letter_i - i))))

    pub imports_start : Importing 0
    unfolding Importing from_imports rows_naming
    imports_start = rw sub-zero

    module _ (i : ℕ) (s : Importing i) where
      pub imports_end : count m letter_i ≤ i → None ≡ found m (from_imports m g r)
      unfolding Importing
      imports_end h = rw (s, keep-done asks i (count m letter_i) h)

      module _ (h : i < count m letter_i) (v : ℕ) (e : v ≡ i_package m i) where
        pub imports_other : (v ≡ g → ⊥) → Importing (i + 1)
        unfolding Importing
        imports_other n = s ∙ rw (keep-miss asks i (count m letter_i) h (ne_eqb (i_package m i) g (λ q. n (e ∙ q))))

        module _ (own : v ≡ g) (name : ℕ) (f : name ≡ i_name m i) (z : Option Classifier) (p : z ≡ found m (in_found m false r (package_named m (key m name)))) where
          rest : List Resolved
          rest = map imported (keep asks (span (i + 1) (count m letter_i - (i + 1))))

          split : from_imports m g r ≡ first_found (imported i ∷ rest)
          unfolding Importing rest
          split = s ∙ rw (keep-hit asks i (count m letter_i) h (eq-eqb (i_package m i) g (sym e ∙ own)))

          gives : z ≡ found m (imported i)
          gives = rw (← f) p

          pub imports_hit : is_some z ≡ true → z ≡ found m (from_imports m g r)
          imports_hit t = gives ∙ ap (found m) (sym (split ∙ found_first (imported i) rest (sym (ap is_some gives) ∙ t)))

          pub imports_miss : is_some z ≡ false → Importing (i + 1)
          unfolding Importing rest
          imports_miss t = split ∙ missed_first (imported i) rest (sym (ap is_some gives) ∙ t)

  -- ---- renames of classifiers and groups

  first_there : (xs ys : List ℕ) (j : ℕ) → Some j ≡ first_of xs → Some j ≡ first_of (xs ++ ys)
  first_there [] ys j h = cc
  first_there (x ∷ xs) ys j h = h

  first_after : (xs ys : List ℕ) → None ≡ first_of xs → first_of (xs ++ ys) ≡ first_of ys
  first_after [] ys h = refl
  first_after (x ∷ xs) ys h = cc

  module _ (g : ℕ) (r : Ref) where
    pub classifier_rename : (j : ℕ) → Some j ≡ first_of (renames_named m g 1 (key m r.type)) → Some j ≡ first_of (renames_for m g r)
    unfolding renames_for
    classifier_rename j p = first_there (renames_named m g 1 (key m r.type)) _ j p

    module _ (n : None ≡ first_of (renames_named m g 1 (key m r.type))) where
      pub no_rename : (r.impl ≡ missing → ⊥) → None ≡ first_of (renames_for m g r)
      unfolding renames_for
      no_rename h = sym (first_after (renames_named m g 1 (key m r.type)) _ n ∙ rw (ne_eqb r.impl missing h))

      pub group_rename : r.impl ≡ missing → (o : Option ℕ) → o ≡ first_of (renames_named m g 2 (key m r.type)) → o ≡ first_of (renames_for m g r)
      unfolding renames_for
      group_rename h o p = p ∙ sym (first_after (renames_named m g 1 (key m r.type)) _ n ∙ rw (eq-eqb r.impl missing h))

  -- ---- a reference without a package

  module _ (from g : ℕ) (r : Ref) where
    own_found : (d : Resolved) → is_some (found m d) ≡ true → after_own m from g r d ≡ d
    unfolding after_own
    own_found (component_type i) h = refl
    own_found (component_impl i) h = refl
    own_found (group_type i) h = refl
    own_found unresolved h = cc

    own_missed : (d : Resolved) → is_some (found m d) ≡ false → after_own m from g r d ≡ after_rename m from g r (first_of (renames_for m g r))
    unfolding after_own
    own_missed (component_type i) h = cc
    own_missed (component_impl i) h = cc
    own_missed (group_type i) h = cc
    own_missed unresolved h = refl

    module _ (own : Option Classifier) (p : own ≡ found m (in_package m true g r)) where
      pub in_own : is_some own ≡ true → own ≡ found m (without_package m from r (Some g))
      unfolding without_package
      in_own h = p ∙ ap (found m) (sym (own_found (in_package m true g r) (sym (ap is_some p) ∙ h)))

      module _ (h : is_some own ≡ false) where
        after : without_package m from r (Some g) ≡ after_rename m from g r (first_of (renames_for m g r))
        unfolding without_package
        after = own_missed (in_package m true g r) (sym (ap is_some p) ∙ h)

        pub by_imports : (z : Option Classifier) → None ≡ first_of (renames_for m g r) → z ≡ found m (from_imports m g r) → z ≡ found m (without_package m from r (Some g))
        unfolding after_rename
        by_imports z n e = rw (after, ← n) e

        pub by_rename : (j v w : ℕ) (z : Option Classifier) → Some j ≡ first_of (renames_for m g r) → v ≡ r_original_package m j → w ≡ r_original_name m j → z ≡ found m (with_package m from (ref v w r.impl)) → z ≡ found m (without_package m from r (Some g))
        unfolding after_rename target
        by_rename j v w z s a b e = rw (after, ← s, ← a, ← b) e

  -- ---- the whole

  module _ (from : ℕ) (r : Ref) where
    pub by_package : (z : Option Classifier) → (r.pkg ≡ missing → ⊥) → z ≡ found m (with_package m from r) → z ≡ found m (resolve m from r)
    unfolding resolve resolve_by
    by_package z h e = rw (ne_eqb r.pkg missing h) e

    module _ (h : r.pkg ≡ missing) where
      pub no_asker : None ≡ package_named m (key m from) → None ≡ found m (resolve m from r)
      unfolding resolve resolve_by without_package
      no_asker p = rw (eq-eqb r.pkg missing h, ← p)

      pub by_asker : (g : ℕ) (z : Option Classifier) → Some g ≡ package_named m (key m from) → z ≡ found m (without_package m from r (Some g)) → z ≡ found m (resolve m from r)
      unfolding resolve resolve_by
      by_asker g z p e = rw (eq-eqb r.pkg missing h, ← p) e

-- what each function goes by
pub ruleset package_steps = (impl_none, impl_some, type_some, group_none, group_some)

pub ruleset replaced_steps = (not_asked, not_renamed)

pub ruleset import_steps = (imports_start, imports_other, imports_hit, imports_miss, imports_end)

pub ruleset unpackaged_steps = (in_own, by_imports)

pub ruleset resolve_steps = (by_package, no_asker, by_asker)
