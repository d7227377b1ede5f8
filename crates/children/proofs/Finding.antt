-- Laws of the search along the siblings, and that what it finds are the definition's children. Assumes nothing.
use mathlib.Core.Bool.{true, false, Bool, ◌||◌}
use mathlib.Core.Path.{◌≡◌, refl, sym, ap, subst, ◌∙◌}
use mathlib.Core.List.{List, [], ◌∷◌}
use Prim.Native.Nat.{ℕ, ◌<◌}
use native.Mathlib.Omega.{arith}
use borrow.Author.Tests.{eqb-false, ne_eqb}
use lib.Dec.{T, eqb}
use lib.ListN.{length}
use Rattle.std.specs.Prelude.{Option, Some, None}
use Rattle.as5506.specs.Lists.{keep, has}
use Rattle.as5506.specs.Tables.{children_of, Tables, name_of, c_name, has_index}
use Rattle.as5506.specs.Names.{Comparison, bracket, base_name, same_folded}
use Rattle.as5506.specs.Tracing.{is_named, or_elements, found_children, is_element}
use Rattle.as5506.specs.Links.{first_child, next_sibling, siblings_behind, siblings_from}
use Rattle.as5506.proofs.Laws.{and_right, same-bytes}
use Rattle.child_links.specs.Keys.{key_of, component_key}
use Rattle.child_links.specs.Trees.{same_in}
use Rattle.child_links.proofs.Keyed.{same-keys, same-base-keys}
use Rattle.name.specs.declared.Reading.{Reading}
use Rattle.name.specs.declared.Reading.TheVariants.{Ported, CaseIgnored}
use Rattle.name.specs.Reading.{comparison}
use Rattle.as5506.proofs.Links.{from_first, from-next}
use Rattle.children.specs.declared.Rule.{Rule}
use Rattle.children.specs.declared.Rule.TheVariants.{Whole, Base}
use Rattle.children.specs.declared.Search.{Search}
use Rattle.children.specs.Rules.{fits, HaveKey}
use Rattle.children.specs.Found.{tables_in, name_in, finds, found_from, after_child}

-- ---- the search: component i passes, or the next sibling is looked at

module _ (s : Search) where
  pub find_end : found_from s None ≡ []
  unfolding found_from siblings_from
  find_end = refl

  pub find_hit : (i : ℕ) → fits (same_in s.tree.now) (tables_in s) s.rule (name_in s) i ≡ true → found_from s (Some i) ≡ after_child s (Some i)
  unfolding found_from siblings_from
  find_hit i e = rw e refl

  pub find_miss : (i : ℕ) → fits (same_in s.tree.now) (tables_in s) s.rule (name_in s) i ≡ false → found_from s (Some i) ≡ found_from s (next_sibling (tables_in s) i)
  unfolding found_from siblings_from
  find_miss i e = rw e (sym (ap (finds s) (from-next (tables_in s) i)))

  pub find_behind : (i : ℕ) → found_from s (next_sibling (tables_in s) i) ≡ finds s (siblings_behind (tables_in s) i)
  unfolding found_from
  find_behind i = ap (finds s) (from-next (tables_in s) i)

  pub find_less : (i : ℕ) → length (siblings_from (tables_in s) (next_sibling (tables_in s) i)) < length (siblings_from (tables_in s) (Some i))
  unfolding siblings_from
  find_less i = omega (arith, ap length (from-next (tables_in s) i))

  -- what the next sibling and those behind it give is what is found behind
  pub find_next : (i : ℕ) (q r : Option ℕ) → q ≡ next_sibling (tables_in s) i → found_from s q ≡ after_child s r → after_child s (Some i) ≡ i ∷ after_child s r
  find_next i q r e f = ap (λ (l : List ℕ). i ∷ l) (sym (find_behind i) ∙ ap (found_from s) (sym e) ∙ f)

-- ---- keys: of which components a name can find

neither : (a b : Bool) → (a || b) ≡ false → (a ≡ false) × (b ≡ false)
neither true b e = absurd (subst T e tt)
neither false b e = (refl, e)

-- a name without a bracket is its own base name
plain : (w : List ℕ) → has bracket w ≡ false → base_name w ≡ w
unfolding base_name
plain [] g = refl
plain (c ∷ w) g =
    let h = neither (eqb bracket c) (has bracket w) g in
    rw (ne_eqb c bracket (λ z. eqb-false bracket c h.0 (sym z))) (ap (λ (l : List ℕ). c ∷ l) (plain w h.1))

-- by the whole name, as a reading compares: the key of the name up to a bracket
pub whole_key : (r : Reading) (m : Tables) (w : List ℕ) → HaveKey (comparison r) m Whole w (key_of (base_name w))
unfolding fits is_named comparison
whole_key Ported m w i h = ap (λ (s : List ℕ). key_of (base_name s)) (same-bytes (name_of m (c_name m i)) w (subst T (sym h) tt))
whole_key CaseIgnored m w i h = same-base-keys (name_of m (c_name m i)) w (subst T (sym h) tt)

-- of array elements, by a name without a bracket
pub base_key : (same : Comparison) (m : Tables) (w : List ℕ) → has bracket w ≡ false → HaveKey same m Base w (key_of (base_name w))
unfolding fits is_element
base_key same m w g i h =
    same-keys (base_name (name_of m (c_name m i))) w (and_right (has_index m i) (same_folded (base_name (name_of m (c_name m i))) w) (subst T (sym h) tt))
    ∙ ap key_of (sym (plain w g))

-- a component of another key is not found
pub other_key : (s : Search) (i : ℕ) → (component_key (tables_in s) i ≡ s.key → ⊥) → false ≡ fits (same_in s.tree.now) (tables_in s) s.rule (name_in s) i
other_key s i h = go (fits (same_in s.tree.now) (tables_in s) s.rule (name_in s) i) refl
  where
    go : (b : Bool) → fits (same_in s.tree.now) (tables_in s) s.rule (name_in s) i ≡ b → false ≡ fits (same_in s.tree.now) (tables_in s) s.rule (name_in s) i
    go true e = absurd (h (s.keyed i e))
    go false e = sym e

-- ---- THE CHILDREN THAT THE RULE FINDS ARE THE DEFINITION'S

-- what a search from the first child of component p on finds
all_children : (s : Search) (p : ℕ) (first : Option ℕ) → first ≡ first_child (tables_in s) p → found_from s first ≡ finds s (children_of (tables_in s) p)
unfolding found_from
all_children s p first e = ap (finds s) (ap (siblings_from (tables_in s)) e ∙ from_first (tables_in s) p)

-- by the whole name: a child has it, or the name has a bracket
pub by_name : (s : Search) (p : ℕ) (first r : Option ℕ) → s.rule ≡ Whole → first ≡ first_child (tables_in s) p → found_from s first ≡ after_child s r
    → (r ≡ None → has bracket (name_in s) ≡ true) → after_child s r ≡ found_children (same_in s.tree.now) (tables_in s) p (name_in s)
unfolding found_children or_elements fits
by_name s p first r h e f g = go r f g
  where
    named : (r : Option ℕ) → found_from s first ≡ after_child s r → keep (is_named (same_in s.tree.now) (tables_in s) (name_in s)) (children_of (tables_in s) p) ≡ after_child s r
    named r f = ap (λ (rule : Rule). keep (fits (same_in s.tree.now) (tables_in s) rule (name_in s)) (children_of (tables_in s) p)) (sym h) ∙ sym (all_children s p first e) ∙ f

    go : (r : Option ℕ) → found_from s first ≡ after_child s r → (r ≡ None → has bracket (name_in s) ≡ true) → after_child s r ≡ found_children (same_in s.tree.now) (tables_in s) p (name_in s)
    go None f g = rw (named None f, g refl) refl
    go (Some i) f g = rw (named (Some i) f) refl

-- no child has the whole name
pub none_named : (s : Search) (p : ℕ) (first q : Option ℕ) → s.rule ≡ Whole → first ≡ first_child (tables_in s) p → found_from s first ≡ after_child s q → q ≡ None
    → keep (is_named (same_in s.tree.now) (tables_in s) (name_in s)) (children_of (tables_in s) p) ≡ []
unfolding fits
none_named s p first q h e f n =
    ap (λ (rule : Rule). keep (fits (same_in s.tree.now) (tables_in s) rule (name_in s)) (children_of (tables_in s) p)) (sym h) ∙ sym (all_children s p first e) ∙ f ∙ ap (after_child s) n

-- then by the name of array elements, where the name has no bracket
pub by_element : (s : Search) (p : ℕ) (first r : Option ℕ) → s.rule ≡ Base → first ≡ first_child (tables_in s) p → keep (is_named (same_in s.tree.now) (tables_in s) (name_in s)) (children_of (tables_in s) p) ≡ []
    → has bracket (name_in s) ≡ false → found_from s first ≡ after_child s r → after_child s r ≡ found_children (same_in s.tree.now) (tables_in s) p (name_in s)
unfolding found_children or_elements fits
by_element s p first r h e n g f =
    sym f ∙ all_children s p first e ∙ ap (λ (rule : Rule). keep (fits (same_in s.tree.now) (tables_in s) rule (name_in s)) (children_of (tables_in s) p)) h ∙ rw (n, g) refl
