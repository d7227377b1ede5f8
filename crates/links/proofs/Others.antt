-- WHAT CALLERS GET, for any tables: a link asks for the tables that a reference is resolved by alone, and the links of all rows for E beside these.
-- Assumes nothing.
use mathlib.Core.Bool.{Bool, true, false, cond, ◌&&◌}
use mathlib.Core.Path.{◌≡◌, refl, sym, ap, ◌∙◌}
use mathlib.Core.List.{List}
use Prim.Native.Nat.{ℕ}
use lib.Dec.{eqb}
use lib.Seq.{sets}
use Rattle.as5506.specs.Lists.{up_to}
use Rattle.as5506.specs.Tables.{Tables, missing, present, letter_u, letter_e, count, Ref, p_name, u_package, u_extends, u_inverse_of, e_holder_kind, e_holder, e_classifier}
use Rattle.as5506.specs.Groups.{is_nested}
use Rattle.as5506.proofs.Laws.{all-of, map_same}
use Rattle.lent.specs.Model.{with_packages, with_groups}
use Rattle.resolver.proofs.Others.{resolve-same}
use Rattle.links.specs.Links.{group_row, link_of, link_in, extends_link, inverse_link, nested_link, links_to, LinkedInto}

module _ (m o : Tables) where
  pub link-same : (from : ℕ) (r : Ref) → link_of (with_packages m o) from r ≡ link_of m from r
  unfolding link_of
  link-same from r = ap group_row (resolve-same m o from r)

  -- z is what a call gave
  pub link_in_all : (from : ℕ) (r : Ref) (z : ℕ) → z ≡ link_of m from r → z ≡ link_of (with_packages m o) from r
  link_in_all from r z e = e ∙ sym (link-same from r)

module _ (m o : Tables) where
  -- a model that has the packages of m and what its types declare
  abbrev w : Tables
  w = with_groups m o

  link-in-same : (b : Bool) (u : ℕ) (r : Ref) → link_in b w u r ≡ link_in b m u r
  link-in-same b u r = ap (λ (l : ℕ). cond b l missing) (link-same m w (p_name m (u_package m u)) r)

  pub extends-same : (u : ℕ) → extends_link w u ≡ extends_link m u
  unfolding extends_link
  extends-same u = link-in-same (present (u_extends m u).type) u (u_extends m u)

  pub inverse-same : (u : ℕ) → inverse_link w u ≡ inverse_link m u
  unfolding inverse_link
  inverse-same u = link-in-same (present (u_inverse_of m u).type) u (u_inverse_of m u)

  pub nested-same : (e : ℕ) → nested_link w e ≡ nested_link m e
  unfolding nested_link
  nested-same e = link-in-same (eqb (e_holder_kind m e) 1 && is_nested m e) (e_holder m e) (e_classifier m e)

  links-same : (f g : ℕ → ℕ) (n : ℕ) → ((i : ℕ) → f i ≡ g i) → links_to f n ≡ links_to g n
  links-same f g n h = map_same f g (up_to n) (all-of (λ i. f i ≡ g i) h (up_to n))

  -- what a call left in the three tables
  pub linked_in_all : (nested extends inverse nested' extends' inverse' : List ℕ) → LinkedInto m nested extends inverse nested' extends' inverse'
      → LinkedInto w nested extends inverse nested' extends' inverse'
  linked_in_all nested extends inverse nested' extends' inverse' l =
      record {
        in-nested = l.in-nested ∙ ap (sets nested 0) (sym (links-same (nested_link w) (nested_link m) (count m letter_e) nested-same));
        in-extends = l.in-extends ∙ ap (sets extends 0) (sym (links-same (extends_link w) (extends_link m) (count m letter_u) extends-same));
        in-inverse = l.in-inverse ∙ ap (sets inverse 0) (sym (links-same (inverse_link w) (inverse_link m) (count m letter_u) inverse-same));
      }
