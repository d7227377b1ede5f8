-- A link that is read from the table. Assumes nothing.
use mathlib.Core.Bool.{Bool}
use mathlib.Core.Path.{◌≡◌, refl, sym, ap, ◌∙◌, subst}
use mathlib.Core.List.{List}
use Prim.Native.Nat.{ℕ, ◌+◌, ◌-◌, ◌*◌, ◌≤◌, ◌<◌}
use native.Mathlib.Omega.{arith}
use borrow.Author.Tests.{ne_eqb}
use lib.Dec.{eqb}
use lib.ListN.{length, get_or, length-append}
use Rattle.std.specs.Prelude.{Option, None, Some}
use Rattle.as5506.specs.Lists.{zeros, padded}
use Rattle.as5506.specs.Tables.{Tables, missing, c_count}
use Rattle.as5506.specs.Links.{first_child, next_sibling, or_missing, link_table}
use Rattle.as5506.proofs.Accepted.{few-rows}
use Rattle.as5506.proofs.Links.{child-first, sibling-next, link-table-length, first-read, next-read}
use Rattle.child_links.specs.Linked.{Linked, link_by, link_at, Inside}

module _ {m : Tables} {t : List ℕ} (l : Linked m t) where
  -- it has a row for each component
  pub rows-linked : c_count m * 2 ≤ length t
  unfolding padded
  rows-linked = omega (arith, ap length l.filled, length-append (link_table m) (zeros (length t - length (link_table m))), link-table-length m)

  -- what a place tells of is what the link table has there
  told : (k : ℕ) (o : Option ℕ) → get_or (padded (length t) (link_table m)) k missing ≡ or_missing o → Inside m o → {z : Option ℕ} → z ≡ link_at t k → (z ≡ o) × Inside m z
  told k o e h {z} f =
      let is : z ≡ o = f ∙ ap (λ (t : List ℕ). link_at t k) l.filled ∙ ap (λ (v : ℕ). link_by (eqb v missing) v) e ∙ go o h in
      (is, subst (Inside m) (sym is) h)
    where
      go : (o : Option ℕ) → Inside m o → link_by (eqb (or_missing o) missing) (or_missing o) ≡ o
      go None h = refl
      go (Some i) h = ap (λ (b : Bool). link_by b i) (ne_eqb i missing (λ k. omega (arith, k, h i refl, few-rows m l.ok)))

  pub first-told : {c : ℕ} → c < c_count m → {z : Option ℕ} → z ≡ link_at t (c * 2) → (z ≡ first_child m c) × Inside m z
  first-told {c} h = told (c * 2) (first_child m c) (first-read m (length t) missing c h) (λ i e. (child-first m c i e).0)

  pub next-told : {i : ℕ} → i < c_count m → {z : Option ℕ} → z ≡ link_at t (i * 2 + 1) → (z ≡ next_sibling m i) × Inside m z
  next-told {i} h = told (i * 2 + 1) (next_sibling m i) (next-read m (length t) missing i h) (λ j e. (sibling-next m i j e).0)
