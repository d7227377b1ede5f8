-- WHAT CALLERS GET, for any tables: what is found is a row of its table, the package that it was found in is a row of P, and an answer tells the
-- definition's answer. Assumes nothing.
use mathlib.Core.Bool.{Bool, true, false, ◌||◌, cond}
use mathlib.Core.Path.{◌≡◌, refl, sym, ap, subst, ◌∙◌}
use mathlib.Core.List.{List, [], ◌∷◌, map}
use Prim.Native.Nat.{ℕ, ◌<◌}
use lib.Dec.{eqb}
use Rattle.std.specs.Prelude.{Option, Some, None}
use Rattle.as5506.specs.Lists.{first_of, same_bytes}
use Rattle.as5506.specs.Tables.{Tables, present, letter_p, letter_t, letter_q, letter_u, count, Ref, ref, i_name, imports_of, t_package, t_private, q_package, q_private, u_package, u_private, r_original_package, r_original_name}
use Rattle.as5506.specs.Names.{key}
use Rattle.as5506.specs.Resolve.{Resolved, component_type, component_impl, group_type, unresolved, package_named, type_named, impl_named, group_named, group_hit, impl_hit, type_hit, in_package_by, in_package, in_found, replaced, in_named, with_package, first_found, from_imports, target, renames_for, after_rename, after_own, without_package, resolve_by, resolve}
use Rattle.resolver.specs.declared.Classifier.{Classifier}
use Rattle.resolver.specs.declared.Classifier.TheVariants.{ComponentType, ComponentImpl, GroupType}
use Rattle.resolver.specs.Found.{found}
use Rattle.resolver.proofs.Rows.{package_row, type_row, impl_row, group_row}

module _ (m : Tables) where
  -- ---- the definition's answer

  abbrev pub InTables : Resolved → Type 0
  InTables (component_type i) = (i < count m letter_t) × (t_package m i < count m letter_p)
  InTables (component_impl i) = (i < count m letter_q) × (q_package m i < count m letter_p)
  InTables (group_type i) = (i < count m letter_u) × (u_package m i < count m letter_p)
  InTables unresolved = Unit {0}

  in-shown : (b : Bool) (d : Resolved) → InTables d → InTables (cond b d unresolved)
  in-shown true d h = h
  in-shown false d h = tt

  module _ (own : Bool) (g : ℕ) (h : g < count m letter_p) where
    in_group : (k : List ℕ) (o : Option ℕ) → o ≡ group_named m g k → InTables (group_hit m own o)
    in_group k None e = tt
    in_group k (Some i) e = let l = group_row m g k i e in in-shown (own || eqb (u_private m i) 0) (group_type i) (l.0, rw l.1 h)

    in-type : (k : List ℕ) (o : Option ℕ) → o ≡ type_named m g k → InTables (type_hit m own g k o)
    unfolding type_hit
    in-type k None e = in_group k (group_named m g k) refl
    in-type k (Some i) e = let l = type_row m g k i e in in-shown (own || eqb (t_private m i) 0) (component_type i) (l.0, rw l.1 h)

    in-impl : (k j : List ℕ) (o : Option ℕ) → o ≡ impl_named m g k j → InTables (impl_hit m own o)
    in-impl k j None e = tt
    in-impl k j (Some i) e = let l = impl_row m g k j i e in in-shown (own || eqb (q_private m i) 0) (component_impl i) (l.0, rw l.1 h)

    in-package-by : (b : Bool) (r : Ref) → InTables (in_package_by b m own g r)
    unfolding in_package_by
    in-package-by true r = in-impl (key m r.type) (key m r.impl) (impl_named m g (key m r.type) (key m r.impl)) refl
    in-package-by false r = in-type (key m r.type) (type_named m g (key m r.type)) refl

    in-package : (r : Ref) → InTables (in_package m own g r)
    unfolding in_package
    in-package r = in-package-by (present r.impl) r

  in-found : (own : Bool) (r : Ref) (k : List ℕ) (o : Option ℕ) → o ≡ package_named m k → InTables (in_found m own r o)
  unfolding in_found
  in-found own r k None e = tt
  in-found own r k (Some g) e = in-package own g (package_row m k g e) r

  in-with-package : (from : ℕ) (r : Ref) → InTables (with_package m from r)
  unfolding with_package in_named
  in-with-package from r = let g : ℕ = replaced m from r.pkg in in-found (same_bytes (key m g) (key m from)) r (key m g) (package_named m (key m g)) refl

  in-first : (d : Resolved) (ds : List Resolved) → InTables d → InTables (first_found ds) → InTables (first_found (d ∷ ds))
  in-first (component_type i) ds a b = a
  in-first (component_impl i) ds a b = a
  in-first (group_type i) ds a b = a
  in-first unresolved ds a b = b

  in-imported : (f : ℕ → Resolved) → ((i : ℕ) → InTables (f i)) → (xs : List ℕ) → InTables (first_found (map f xs))
  in-imported f h [] = tt
  in-imported f h (x ∷ xs) = in-first (f x) (map f xs) (h x) (in-imported f h xs)

  in-imports : (g : ℕ) (r : Ref) → InTables (from_imports m g r)
  unfolding from_imports
  in-imports g r = in-imported (λ i. in_found m false r (package_named m (key m (i_name m i)))) (λ i. in-found false r (key m (i_name m i)) (package_named m (key m (i_name m i))) refl) (imports_of m g)

  in-after-rename : (from g : ℕ) (r : Ref) (o : Option ℕ) → InTables (after_rename m from g r o)
  unfolding after_rename target
  in-after-rename from g r (Some j) = in-with-package from (ref (r_original_package m j) (r_original_name m j) r.impl)
  in-after-rename from g r None = in-imports g r

  in-after-own : (from g : ℕ) (r : Ref) (d : Resolved) → InTables d → InTables (after_own m from g r d)
  unfolding after_own
  in-after-own from g r (component_type i) h = h
  in-after-own from g r (component_impl i) h = h
  in-after-own from g r (group_type i) h = h
  in-after-own from g r unresolved h = in-after-rename from g r (first_of (renames_for m g r))

  in-without-package : (from : ℕ) (r : Ref) (o : Option ℕ) → o ≡ package_named m (key m from) → InTables (without_package m from r o)
  unfolding without_package
  in-without-package from r None e = tt
  in-without-package from r (Some g) e = in-after-own from g r (in_package m true g r) (in-package true g (package_row m (key m from) g e) r)

  in-resolved : (b : Bool) (from : ℕ) (r : Ref) → InTables (resolve_by b m from r)
  unfolding resolve_by
  in-resolved true from r = in-with-package from r
  in-resolved false from r = in-without-package from r (package_named m (key m from)) refl

  pub resolved-in : (from : ℕ) (r : Ref) → InTables (resolve m from r)
  unfolding resolve
  resolved-in from r = in-resolved (present r.pkg) from r

-- ---- the code's answer: a row of its table, whose package is the one that is handed back, a row of P

abbrev pub Located : Tables → Option Classifier → Type 0
Located m (Some (ComponentType g i)) = (i < count m letter_t) × (t_package m i ≡ g) × (g < count m letter_p)
Located m (Some (ComponentImpl g i)) = (i < count m letter_q) × (q_package m i ≡ g) × (g < count m letter_p)
Located m (Some (GroupType g i)) = (i < count m letter_u) × (u_package m i ≡ g) × (g < count m letter_p)
Located m None = Unit {0}

located-by : (m : Tables) (d : Resolved) → InTables m d → Located m (found m d)
located-by m (component_type i) h = (h.0, refl, h.1)
located-by m (component_impl i) h = (h.0, refl, h.1)
located-by m (group_type i) h = (h.0, refl, h.1)
located-by m unresolved h = tt

-- z is what a call gave
pub located : (m : Tables) (from : ℕ) (r : Ref) (z : Option Classifier) → z ≡ found m (resolve m from r) → Located m z
located m from r z e = subst (Located m) (sym e) (located-by m (resolve m from r) (resolved-in m from r))

-- ---- the definition's answer, read off the code's

abbrev pub meant : Option Classifier → Resolved
meant (Some (ComponentType g i)) = component_type i
meant (Some (ComponentImpl g i)) = component_impl i
meant (Some (GroupType g i)) = group_type i
meant None = unresolved

meant-found : (m : Tables) (d : Resolved) → meant (found m d) ≡ d
meant-found m (component_type i) = refl
meant-found m (component_impl i) = refl
meant-found m (group_type i) = refl
meant-found m unresolved = refl

pub means : (m : Tables) (from : ℕ) (r : Ref) (z : Option Classifier) → z ≡ found m (resolve m from r) → resolve m from r ≡ meant z
means m from r z e = sym (meant-found m (resolve m from r)) ∙ ap meant (sym e)
