-- What each step of the code says of the definition's links, and a table that is filled row by row. Assumes nothing.
use mathlib.Core.Bool.{and-false}
use mathlib.Core.Path.{◌≡◌, sym, ap, ◌∙◌}
use mathlib.Core.List.{List, map}
use Prim.Native.Nat.{ℕ, ◌+◌, ◌-◌, ◌*◌, ◌≤◌, ◌<◌}
use native.Mathlib.Nat.{add-zero, sub-zero, mul-one}
use native.Mathlib.Numerals.{add-one}
use native.Mathlib.Omega.{arith}
use borrow.Author.Tests.{eq-eqb, ne_eqb}
use lib.Dec.{eqb}
use lib.ListN.{get_or, set}
use lib.Seq.{sets}
use Rattle.std.specs.Prelude.{Option, Some, None}
use Rattle.as5506.specs.Lists.{span}
use Rattle.as5506.specs.Tables.{Tables, missing, present, letter_u, count, Ref, p_name, u_package, u_extends, u_inverse_of, e_holder_kind, e_holder, e_kind, e_classifier}
use Rattle.as5506.specs.Resolve.{resolve}
use Rattle.as5506.proofs.Scans.{span-next, span-done}
use Rattle.resolver.specs.declared.Classifier.{Classifier}
use Rattle.resolver.specs.declared.Classifier.TheVariants.{ComponentType, ComponentImpl, GroupType}
use Rattle.resolver.specs.Found.{found}
use Rattle.resolver.proofs.Answers.{meant, means, located}
use Rattle.links.specs.Links.{unfound, group_row, link_of, link_in, extends_link, inverse_link, nested_link, links_to}

module _ (m : Tables) where
  -- z is what the resolver gave
  module _ (from : ℕ) (r : Ref) where
    link_means : (z : Option Classifier) → z ≡ found m (resolve m from r) → group_row (meant z) ≡ link_of m from r
    unfolding link_of
    link_means z e = ap group_row (sym (means m from r z e))

    pub link_none : None ≡ found m (resolve m from r) → unfound ≡ link_of m from r
    link_none e = link_means None e

    module _ (z : Classifier) (e : Some z ≡ found m (resolve m from r)) where
      pub link_group : (g u : ℕ) → z ≡ GroupType g u → u ≡ link_of m from r
      link_group g u q = link_means (Some (GroupType g u)) (ap (λ (z : Classifier). Some z) (sym q) ∙ e)

      link_row : (g u : ℕ) → z ≡ GroupType g u → u < count m letter_u
      link_row g u q = (located m from r (Some (GroupType g u)) (ap (λ (z : Classifier). Some z) (sym q) ∙ e)).0

      pub link_fits : (g u : ℕ) → z ≡ GroupType g u → count m letter_u ≤ 4096 → u < 4294967296
      link_fits g u q few = omega (arith, few, link_row g u q)

      pub link_type : (g i : ℕ) → z ≡ ComponentType g i → unfound ≡ link_of m from r
      link_type g i q = link_means (Some (ComponentType g i)) (ap (λ (z : Classifier). Some z) (sym q) ∙ e)

      pub link_impl : (g i : ℕ) → z ≡ ComponentImpl g i → unfound ≡ link_of m from r
      link_impl g i q = link_means (Some (ComponentImpl g i)) (ap (λ (z : Classifier). Some z) (sym q) ∙ e)

  -- ---- a reference of group type u

  module _ (u : ℕ) (r : Ref) where
    pub link_missing : r.type ≡ missing → missing ≡ link_in (present r.type) m u r
    link_missing q = rw (eq-eqb r.type missing q)

    -- `from` is the name of package a, in which u was found
    pub link_there : (a from z : ℕ) → a ≡ u_package m u → from ≡ get_or m.p a 0 → (r.type ≡ missing → ⊥) → z ≡ link_of m from r → z ≡ link_in (present r.type) m u r
    link_there a from z ea ef h e =
        let f : from ≡ p_name m (u_package m u) = rw (← ea, add-zero (a * 1), mul-one a) ef in
        rw (ne_eqb r.type missing h, ← f) e

  -- ---- row i of U, by its reference

  module _ (i : ℕ) (r : Ref) (z : ℕ) (e : z ≡ link_in (present r.type) m i r) where
    pub link_extends : r ≡ u_extends m i → z ≡ extends_link m i
    unfolding extends_link
    link_extends q = rw q at e

    pub link_inverse : r ≡ u_inverse_of m i → z ≡ inverse_link m i
    unfolding inverse_link
    link_inverse q = rw q at e

  -- ---- row i of E

  module _ (i : ℕ) where
    module _ (h : ℕ) (eh : h ≡ e_holder_kind m i) where
      pub nested_other_holder : (h ≡ 1 → ⊥) → missing ≡ nested_link m i
      unfolding nested_link
      nested_other_holder n = rw (← eh, ne_eqb h 1 n)

      module _ (k : ℕ) (ek : k ≡ e_kind m i) where
        pub nested_other_kind : (k ≡ 8 → ⊥) → missing ≡ nested_link m i
        unfolding nested_link
        nested_other_kind n = rw (ne_eqb (e_kind m i) 8 (λ q. n (ek ∙ q)), and-false (eqb (e_holder_kind m i) 1))

        pub nested_there : (u : ℕ) (r : Ref) (z : ℕ) → h ≡ 1 → k ≡ 8 → u ≡ e_holder m i → r ≡ e_classifier m i → z ≡ link_in (present r.type) m u r → z ≡ nested_link m i
        unfolding nested_link
        nested_there u r z h1 k8 eu er e = rw (← eh, eq-eqb h 1 h1, ← ek, eq-eqb k 8 k8, ← eu) (rw er at e)

-- ---- a table that is filled row by row

-- the links of the rows from `row` on are left to write, and then it is what it has to be; table₀ is the table at first
unfoldable pub Filling : (ℕ → ℕ) → ℕ → List ℕ → List ℕ → ℕ → Type 0
Filling link n table₀ table row = sets table row (map link (span row (n - row))) ≡ sets table₀ 0 (links_to link n)

module _ (link : ℕ → ℕ) (n : ℕ) (table₀ : List ℕ) where
  pub filling_start : Filling link n table₀ table₀ 0
  unfolding Filling
  filling_start = rw (sub-zero n)

  module _ (table : List ℕ) (row : ℕ) (t : Filling link n table₀ table row) where
    -- the link of row `row` is written
    pub filling_turn : (v : ℕ) (written : List ℕ) → row < n → v ≡ link row → written ≡ set table row v → Filling link n table₀ written (row + 1)
    unfolding Filling
    filling_turn v written h e w = rw (w, e) (sym (rw (span-next row n h, add-one row)) ∙ t)

    pub filling_end : n ≤ row → table ≡ sets table₀ 0 (links_to link n)
    unfolding Filling
    filling_end h = sym (ap (λ (is : List ℕ). sets table row (map link is)) (span-done row n h)) ∙ t

-- what each function goes by
pub ruleset link_steps = (link_none, link_group, link_type, link_impl, link_fits)

pub ruleset filling_steps = (filling_start, filling_turn, filling_end)

pub ruleset type_steps = (filling_start, filling_turn, filling_end, link_extends, link_inverse)

pub ruleset feature_steps = (nested_other_holder, nested_other_kind, nested_there)
