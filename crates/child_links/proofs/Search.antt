-- The search for the slot of a row, along the links of the siblings that are linked. Assumes nothing.
use mathlib.Core.Bool.{Bool, cond}
use mathlib.Core.Logic.{◌⊎◌, ⊎_elim}
use mathlib.Core.Path.{◌≡◌, refl, sym, ap, ◌∙◌, subst}
use mathlib.Core.List.{List, [], ◌∷◌}
use Prim.Native.Nat.{ℕ, ◌+◌, ◌≤◌, ◌<◌}
use native.Mathlib.Omega.{arith}
use borrow.Author.Tests.{lt-ltb, le-ltb}
use lib.Dec.{T}
use lib.ListN.{length, get_or}
use Rattle.std.proofs.lemmas.List.{get_or_default}
use Rattle.as5506.specs.Tables.{Tables, missing, c_count, c_place}
use Rattle.as5506.specs.Refusals.{accepted}
use Rattle.as5506.specs.Links.{walk}
use Rattle.as5506.proofs.Accepted.{few-rows}
use Rattle.as5506.proofs.Laws.{All, all_map}
use Rattle.child_links.specs.Filling.{children_from, first_slot, next_slot, slot_among, Spelled, Spells}
use Rattle.child_links.proofs.Spelled.{Present, walk_chained}
use Rattle.child_links.proofs.Filling.{Child, children-are}

-- the siblings that are linked, and the slot for row i among the rows xs that slot s leads to
abbrev siblings : Tables → ℕ → ℕ → List ℕ
siblings m i q = children_from m (i + 1) q

abbrev slot_from : Tables → ℕ → ℕ → List ℕ → ℕ
slot_from m i s xs = slot_among (c_place m) i s xs

-- the search has come to slot s, whose link is v
pub record Searching (m : Tables) (t : List ℕ) (i q s v : ℕ) : Type 0 where
  -- the siblings that are left
  pub left : List ℕ
  pub inside : s < length t
  pub read : v ≡ get_or t s 0
  pub spelled : Spelled t s left
  pub rows : All (Child m (i + 1) q) left
  pub few : length left ≤ length (siblings m i q)
  pub same : slot_from m i s left ≡ slot_from m i (first_slot q) (siblings m i q)

-- what falls: how many links there are from v on
abbrev pub links_left : Tables → List ℕ → ℕ → ℕ → ℕ → ℕ
links_left m t i q v = length (walk t (length (siblings m i q)) v)

module _ {m : Tables} {t : List ℕ} {i q : ℕ} (ok : T (accepted m)) (spells : Spells m t (i + 1)) where
  pub searching_start : q < c_count m → {v : ℕ} → v ≡ get_or t (first_slot q) missing → Searching m t i q (first_slot q) v
  searching_start h {v} r =
      let inside : first_slot q < length t = omega (arith, h, spells.room) in
      record {
        left = siblings m i q;
        inside = inside;
        read = r ∙ get_or_default t (first_slot q) missing 0 inside;
        spelled = spells.children q h;
        rows = children-are m (i + 1) q;
        few = omega arith;
        same = refl;
      }

  -- as many as siblings are left
  measured : {s v : ℕ} → (g : Searching m t i q s v) → links_left m t i q v ≡ length g.left
  measured {s} {v} g = ap length (walk_chained t (length (siblings m i q)) v g.left (g.read ∙ g.spelled.0) g.spelled.1 (all_map (Child m (i + 1) q) Present (λ x c e. omega (arith, c.below, few-rows m ok, e)) g.left g.rows) g.few)

  -- the next has a smaller place: the search goes on behind it
  module _ {s v v' : ℕ} (g : Searching m t i q s v) (p : v ≡ missing → ⊥) (k : c_place m v < c_place m i) (r : v' ≡ get_or t (next_slot v) missing) where
    one-less : (g' : Searching m t i q (next_slot v) v') × (length g'.left < length g.left)
    unfolding slot_among
    one-less = go g.left g.spelled g.rows g.few g.same
      where
        go : (xs : List ℕ) → Spelled t s xs → All (Child m (i + 1) q) xs → length xs ≤ length (siblings m i q)
            → slot_from m i s xs ≡ slot_from m i (first_slot q) (siblings m i q) → (g' : Searching m t i q (next_slot v) v') × (length g'.left < length xs)
        go [] c a f w = absurd (p (g.read ∙ c.0))
        go (x ∷ xs) c a f w =
            let is : v ≡ x = g.read ∙ c.0 in
            let inside : next_slot v < length t = omega (arith, is, a.0.below, spells.room) in (
              record {
                left = xs;
                inside = inside;
                read = r ∙ get_or_default t (next_slot v) missing 0 inside;
                spelled = rw is c.1;
                rows = a.1;
                few = omega (arith, f);
                same = ap (λ (y : ℕ). slot_from m i (next_slot y) xs) is
                    ∙ sym (ap (λ (b : Bool). cond b (slot_from m i (next_slot x) xs) s) (lt-ltb (c_place m x) (c_place m i) (subst (λ (y : ℕ). c_place m y < c_place m i) is k)))
                    ∙ w;
              },
              omega arith,
            )

    pub searching_turn : Searching m t i q (next_slot v) v'
    searching_turn = one-less.0

    pub searching_falls : links_left m t i q v' < links_left m t i q v
    searching_falls = omega (arith, measured g, measured one-less.0, one-less.1)

  -- no sibling is left, or the next has no smaller place
  pub searching_end : {s v : ℕ} → Searching m t i q s v → (v ≡ missing) ⊎ (c_place m i ≤ c_place m v) → s ≡ slot_from m i (first_slot q) (siblings m i q)
  unfolding slot_among
  searching_end {s} {v} g o = go g.left g.spelled g.rows g.same
    where
      go : (xs : List ℕ) → Spelled t s xs → All (Child m (i + 1) q) xs → slot_from m i s xs ≡ slot_from m i (first_slot q) (siblings m i q) → s ≡ slot_from m i (first_slot q) (siblings m i q)
      go [] c a w = w
      go (x ∷ xs) c a w =
          let is : v ≡ x = g.read ∙ c.0 in
          ⊎_elim (λ f. absurd (omega (arith, is, f, a.0.below, few-rows m ok)))
          (λ k. sym (ap (λ (b : Bool). cond b (slot_from m i (next_slot x) xs) s) (le-ltb (c_place m x) (c_place m i) (subst (λ (y : ℕ). c_place m i ≤ c_place m y) is k))) ∙ w) o
