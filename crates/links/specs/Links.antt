-- What the references of group types and of their features mean: each as one number, by its row. Assumes nothing.
use Rattle.std.specs.Prelude.{Bool, ◌&&◌, cond, ◌≡◌, List, map, ℕ, ◌/◌, ◌≤◌, ◌<◌, eqb, length, get_or}
use Rattle.std.proofs.lemmas.List.Edits.{sets}
use Rattle.as5506.specs.Lists.{up_to}
use Rattle.as5506.specs.Tables.{Tables, missing, present, width, letter_u, letter_e, count, Ref, p_name, u_package, u_extends, u_inverse_of, e_holder_kind, e_holder, e_classifier}
use Rattle.as5506.specs.Resolve.{Resolved, component_type, component_impl, group_type, unresolved, resolve}
use Rattle.as5506.specs.Groups.{is_nested}
use Rattle.links.specs.declared.Links.{Links}

-- the link of a reference that names no group type
abbrev pub unfound : ℕ
unfound = 4294967294

-- the link of what a reference was resolved to: the row of a group type
abbrev pub group_row : Resolved → ℕ
group_row (component_type i) = unfound
group_row (component_impl i) = unfound
group_row (group_type u) = u
group_row unresolved = unfound

-- the link of a reference that is asked from a package, given by its name
unfoldable pub link_of : Tables → ℕ → Ref → ℕ
link_of m from r = group_row (resolve m from r)

-- "References inside a group ask from the package it was found in": the link of a reference of group type u, missing where there is none
abbrev pub link_in : Bool → Tables → ℕ → Ref → ℕ
link_in b m u r = cond b (link_of m (p_name m (u_package m u)) r) missing

-- what group type u extends
unfoldable pub extends_link : Tables → ℕ → ℕ
extends_link m u = link_in (present (u_extends m u).type) m u (u_extends m u)

-- what group type u is the inverse of
unfoldable pub inverse_link : Tables → ℕ → ℕ
inverse_link m u = link_in (present (u_inverse_of m u).type) m u (u_inverse_of m u)

-- the classifier of E row e, where that is a nested group of a group type
unfoldable pub nested_link : Tables → ℕ → ℕ
nested_link m e = link_in (eqb (e_holder_kind m e) 1 && is_nested m e) m (e_holder m e) (e_classifier m e)

-- the links of the first n rows
abbrev pub links_to : (ℕ → ℕ) → ℕ → List ℕ
links_to link n = map link (up_to n)

-- what the three tables hold once they are written: the links of all rows from the front, and behind them what was there
pub record LinkedInto (m : Tables) (nested extends inverse nested' extends' inverse' : List ℕ) : Type 0 where
  pub in-nested : nested' ≡ sets nested 0 (links_to (nested_link m) (count m letter_e))
  pub in-extends : extends' ≡ sets extends 0 (links_to (extends_link m) (count m letter_u))
  pub in-inverse : inverse' ≡ sets inverse 0 (links_to (inverse_link m) (count m letter_u))

-- three tables that have them: nested by E row, extends and inverse by U row
pub record Linked (m : Tables) (nested extends inverse : List ℕ) : Type 0 where
  pub of-nested : (e : ℕ) → e < count m letter_e → get_or nested e 0 ≡ nested_link m e
  pub of-extends : (u : ℕ) → u < count m letter_u → get_or extends u 0 ≡ extends_link m u
  pub of-inverse : (u : ℕ) → u < count m letter_u → get_or inverse u 0 ≡ inverse_link m u

-- slices that hold them
abbrev pub LinkedBy : Tables → Links → Type 0
LinkedBy m l = Linked m l.nested.now l.extends.now l.inverse.now

-- tables in which each row has a place for its link
pub record LinksFit (u e nested extends inverse : List ℕ) : Type 0 where
  pub fits-nested : length e / width letter_e ≤ length nested
  pub fits-extends : length u / width letter_u ≤ length extends
  pub fits-inverse : length u / width letter_u ≤ length inverse
