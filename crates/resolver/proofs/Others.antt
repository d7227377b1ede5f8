-- WHAT CALLERS GET, for any tables: resolving asks for names, P, I, T, Q, U and R alone, so all models that have these give one answer. Assumes nothing.
use mathlib.Core.Bool.{Bool, true, false}
use mathlib.Core.Path.{◌≡◌, refl, sym, ap, ◌∙◌}
use mathlib.Core.List.{List}
use Prim.Native.Nat.{ℕ}
use Rattle.std.specs.Prelude.{Option, Some, None}
use Rattle.as5506.specs.Lists.{first_of}
use Rattle.as5506.specs.Tables.{Tables, present, rows_naming, Ref, ref, i_name, imports_of, r_original_package, r_original_name}
use Rattle.as5506.specs.Names.{key}
use Rattle.as5506.specs.Resolve.{Resolved, component_type, component_impl, group_type, unresolved, package_named, type_named, impl_named, group_named, renames_named, group_hit, impl_hit, type_hit, in_package_by, in_package, in_found, original_or, replaced_by, replaced, in_named, with_package, first_found, from_imports, target, renames_for, after_rename, after_own, without_package, resolve_by, resolve}
use Rattle.as5506.proofs.Laws.{all-of, map_same}
use Rattle.lent.specs.Model.{with_packages}
use Rattle.resolver.specs.declared.Classifier.{Classifier}
use Rattle.resolver.specs.Found.{found}

module _ (m o : Tables) where
  -- a model that has the packages of m
  abbrev w : Tables
  w = with_packages m o

  -- ---- in one package

  group-hit-same : (own : Bool) (z : Option ℕ) → group_hit w own z ≡ group_hit m own z
  group-hit-same own None = refl
  group-hit-same own (Some i) = refl

  impl-hit-same : (own : Bool) (z : Option ℕ) → impl_hit w own z ≡ impl_hit m own z
  impl-hit-same own None = refl
  impl-hit-same own (Some i) = refl

  type-hit-same : (own : Bool) (g : ℕ) (k : List ℕ) (z : Option ℕ) → type_hit w own g k z ≡ type_hit m own g k z
  unfolding type_hit group_named rows_naming key
  type-hit-same own g k None = group-hit-same own (group_named m g k)
  type-hit-same own g k (Some i) = refl

  in-package-by-same : (b own : Bool) (g : ℕ) (r : Ref) → in_package_by b w own g r ≡ in_package_by b m own g r
  unfolding in_package_by type_named impl_named rows_naming key
  in-package-by-same true own g r = impl-hit-same own (impl_named m g (key m r.type) (key m r.impl))
  in-package-by-same false own g r = type-hit-same own g (key m r.type) (type_named m g (key m r.type))

  in-package-same : (own : Bool) (g : ℕ) (r : Ref) → in_package w own g r ≡ in_package m own g r
  unfolding in_package
  in-package-same own g r = in-package-by-same (present r.impl) own g r

  in-found-same : (own : Bool) (r : Ref) (z : Option ℕ) → in_found w own r z ≡ in_found m own r z
  unfolding in_found
  in-found-same own r None = refl
  in-found-same own r (Some g) = in-package-same own g r

  -- ---- a reference with a package

  original-same : (g : ℕ) (z : Option ℕ) → original_or w g z ≡ original_or m g z
  original-same g None = refl
  original-same g (Some j) = refl

  replaced-by-same : (g : ℕ) (z : Option ℕ) → replaced_by w g z ≡ replaced_by m g z
  unfolding replaced_by renames_named rows_naming key
  replaced-by-same g None = refl
  replaced-by-same g (Some asking) = original-same g (first_of (renames_named m asking 0 (key m g)))

  replaced-same : (from g : ℕ) → replaced w from g ≡ replaced m from g
  unfolding replaced package_named key
  replaced-same from g = replaced-by-same g (package_named m (key m from))

  in-named-same : (from : ℕ) (r : Ref) (g : ℕ) → in_named w from r g ≡ in_named m from r g
  unfolding in_named package_named key
  in-named-same from r g = in-found-same _ r (package_named m (key m g))

  with-package-same : (from : ℕ) (r : Ref) → with_package w from r ≡ with_package m from r
  unfolding with_package
  with-package-same from r = in-named-same from r (replaced w from r.pkg) ∙ ap (in_named m from r) (replaced-same from r.pkg)

  -- ---- a reference without a package

  from-imports-same : (g : ℕ) (r : Ref) → from_imports w g r ≡ from_imports m g r
  unfolding from_imports package_named rows_naming key
  from-imports-same g r =
      let imported : Tables → ℕ → Resolved = λ m i. in_found m false r (package_named m (key m (i_name m i))) in
      let same : (i : ℕ) → imported w i ≡ imported m i = λ i. in-found-same false r (package_named m (key m (i_name m i))) in
      ap first_found (map_same (imported w) (imported m) (imports_of m g) (all-of (λ i. imported w i ≡ imported m i) same (imports_of m g)))

  after-rename-same : (from g : ℕ) (r : Ref) (z : Option ℕ) → after_rename w from g r z ≡ after_rename m from g r z
  unfolding after_rename target
  after-rename-same from g r (Some j) = with-package-same from (ref (r_original_package m j) (r_original_name m j) r.impl)
  after-rename-same from g r None = from-imports-same g r

  after-own-same : (from g : ℕ) (r : Ref) (d : Resolved) → after_own w from g r d ≡ after_own m from g r d
  unfolding after_own renames_for renames_named rows_naming key
  after-own-same from g r (component_type i) = refl
  after-own-same from g r (component_impl i) = refl
  after-own-same from g r (group_type i) = refl
  after-own-same from g r unresolved = after-rename-same from g r (first_of (renames_for m g r))

  without-package-same : (from : ℕ) (r : Ref) (z : Option ℕ) → without_package w from r z ≡ without_package m from r z
  unfolding without_package
  without-package-same from r None = refl
  without-package-same from r (Some g) = after-own-same from g r (in_package w true g r) ∙ ap (after_own m from g r) (in-package-same true g r)

  -- ---- the whole

  resolve-by-same : (b : Bool) (from : ℕ) (r : Ref) → resolve_by b w from r ≡ resolve_by b m from r
  unfolding resolve_by package_named key
  resolve-by-same true from r = with-package-same from r
  resolve-by-same false from r = without-package-same from r (package_named m (key m from))

  pub resolve-same : (from : ℕ) (r : Ref) → resolve w from r ≡ resolve m from r
  unfolding resolve
  resolve-same from r = resolve-by-same (present r.pkg) from r

  found-same : (d : Resolved) → found w d ≡ found m d
  found-same (component_type i) = refl
  found-same (component_impl i) = refl
  found-same (group_type i) = refl
  found-same unresolved = refl

  -- z is what a call gave
  pub found_in_all : (from : ℕ) (r : Ref) (z : Option Classifier) → z ≡ found m (resolve m from r) → z ≡ found w (resolve w from r)
  found_in_all from r z e = e ∙ sym (found-same (resolve m from r)) ∙ ap (found w) (sym (resolve-same from r))
