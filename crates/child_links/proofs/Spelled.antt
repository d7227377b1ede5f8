-- The rows that links lead through, and a row linked in among them. Assumes nothing.
use mathlib.Core.Bool.{Bool, true, false, cond}
use mathlib.Core.Logic.{inl, inr}
use mathlib.Core.Path.{◌≡◌, refl, sym, ap, ◌∙◌}
use mathlib.Core.List.{List, [], ◌∷◌}
use Prim.Native.Nat.{ℕ, zero, suc, ◌*◌, ◌≤◌, ◌<◌}
use native.Mathlib.Omega.{arith}
use borrow.Author.Tests.{eq-eqb, ne_eqb, eqb-true, eqb-false}
use lib.Dec.{eqb, ltb}
use lib.ListN.{length, get_or, set, length-set}
use lib.Seq.{get_or-set_same, get_or-set_other}
use Rattle.as5506.specs.Lists.{insert_by, first_of}
use Rattle.as5506.specs.Tables.{missing}
use Rattle.as5506.specs.Links.{or_missing, behind, walk, next_in}
use Rattle.as5506.specs.Followed.{In}
use Rattle.as5506.proofs.Laws.{All, all_map}
use Rattle.as5506.proofs.Sorted.{Ordered}
use Rattle.as5506.proofs.Members.{Apart}
use Rattle.child_links.specs.Filling.{next_slot, slot_among, Leads, Chained, Spelled}

-- slot s is not where row x links its next sibling
abbrev pub Off : ℕ → ℕ → Type 0
Off s x = s ≡ next_slot x → ⊥

-- ---- a write

-- at the slot of none of the rows
chained_kept : (t : List ℕ) (a v : ℕ) (xs : List ℕ) → All (Off a) xs → Chained t xs → Chained (set t a v) xs
chained_kept t a v [] o c = tt
chained_kept t a v (x ∷ xs) o c = (get_or-set_other t a (next_slot x) v 0 (λ e. o.0 (sym e)) ∙ c.0, chained_kept t a v xs o.1 c.1)

pub spelled_kept : (t : List ℕ) (a v s : ℕ) (xs : List ℕ) → (s ≡ a → ⊥) → All (Off a) xs → Spelled t s xs → Spelled (set t a v) s xs
spelled_kept t a v s xs d o c = (get_or-set_other t a s v 0 d ∙ c.0, chained_kept t a v xs o c.1)

-- ---- a row linked in

-- row i in slot s: where that led, row i leads
abbrev pub linked : List ℕ → ℕ → ℕ → List ℕ
linked t s i = set (set t (next_slot i) (get_or t s 0)) s i

pub linked_length : (t : List ℕ) (s i : ℕ) → length (linked t s i) ≡ length t
linked_length t s i = length-set (set t (next_slot i) (get_or t s 0)) s i ∙ length-set t (next_slot i) (get_or t s 0)

module _ (key : ℕ → ℕ) (i : ℕ) where
  -- what holds of the slot of the first and of those of the rows holds of the slot found among them
  pub among : (P : ℕ → Type 0) (s : ℕ) (xs : List ℕ) → P s → All (λ x. P (next_slot x)) xs → P (slot_among key i s xs)
  unfolding slot_among
  among P s [] p t = p
  among P s (x ∷ xs) p t = go (ltb (key x) (key i)) (among P (next_slot x) xs t.0 t.1)
    where
      go : (b : Bool) → P (slot_among key i (next_slot x) xs) → P (cond b (slot_among key i (next_slot x) xs) s)
      go true r = r
      go false r = p

  module _ (n : ℕ) (t : List ℕ) (inside : i < n) (room : n * 2 ≤ length t) where
    abbrev Later : ℕ → Type 0
    Later x = (i < x) × (x < n)

    -- row i before the rows xs
    linked-first : (s : ℕ) (xs : List ℕ) → s < length t → Off s i → All (Off s) xs → All Later xs → Spelled t s xs → Spelled (linked t s i) s (i ∷ xs)
    linked-first s xs h o os l c = (
      get_or-set_same t₁ s i 0 (omega (arith, h, length-set t (next_slot i) v)),
      (
        get_or-set_other t₁ s (next_slot i) i 0 (λ e. o (sym e)) ∙ get_or-set_same t (next_slot i) v 0 (omega (arith, inside, room)) ∙ c.0,
        chained_kept t₁ s i xs os (chained_kept t (next_slot i) v xs (all_map Later (Off (next_slot i)) (λ x k e. omega (arith, k.0, e)) xs l) c.1),
      ),
    )
      where
        v : ℕ
        v = get_or t s 0

        t₁ : List ℕ
        t₁ = set t (next_slot i) v

    -- A ROW LINKED IN, at the slot found among the rows, stands where the definition puts it
    pub spelled-insert : (s : ℕ) (xs : List ℕ) → s < length t → Off s i → All (Off s) xs → All Later xs → Ordered Apart xs → Spelled t s xs
        → Spelled (linked t (slot_among key i s xs) i) s (insert_by key i xs)
    unfolding slot_among
    spelled-insert s [] h o os l d c = linked-first s [] h o tt tt c
    spelled-insert s (x ∷ xs) h o os l d c =
        go (ltb (key x) (key i))
        (spelled-insert (next_slot x) xs (omega (arith, l.0.1, room)) (λ e. omega (arith, l.0.0, e))
        (all_map (Apart x) (Off (next_slot x)) (λ y k e. k (omega (arith, e))) xs d.0) l.1 d.1 c.1)
      where
        later : ℕ
        later = slot_among key i (next_slot x) xs

        go : (b : Bool) → Spelled (linked t later i) (next_slot x) (insert_by key i xs)
            → Spelled (linked t (cond b later s) i) s (cond b (x ∷ insert_by key i xs) (i ∷ x ∷ xs))
        go true r = (
          get_or-set_other (set t (next_slot i) (get_or t later 0)) later s i 0 (among (λ z. s ≡ z → ⊥) (next_slot x) xs os.0 os.1)
              ∙ get_or-set_other t (next_slot i) s (get_or t later 0) 0 o ∙ c.0,
          r,
        )
        go false r = linked-first s (x ∷ xs) h o os l c

-- ---- what a row leads to

-- the first of those behind it
pub chained_behind : (t : List ℕ) (x : ℕ) (xs : List ℕ) → Chained t xs → In x xs → Leads t (next_slot x) (behind x xs)
chained_behind t x [] c h = absurd h
chained_behind t x (y ∷ ys) c h = go (eqb x y) refl h (chained_behind t x ys c.1)
  where
    go : (b : Bool) → eqb x y ≡ b → In x (y ∷ ys) → (In x ys → Leads t (next_slot x) (behind x ys)) → Leads t (next_slot x) (cond b ys (behind x ys))
    go true e h rest = ap (λ (z : ℕ). get_or t (next_slot z) 0) (eqb-true x y e) ∙ c.0
    go false e (inl f) rest = absurd (eqb-false x y e f)
    go false e (inr i) rest = rest i

-- ---- the walk along links goes through the rows

abbrev pub Present : ℕ → Type 0
Present x = x ≡ missing → ⊥

pub walk_chained : (t : List ℕ) (k v : ℕ) (xs : List ℕ) → v ≡ or_missing (first_of xs) → Chained t xs → All Present xs → length xs ≤ k → walk t k v ≡ xs
unfolding walk
walk_chained t zero v [] e c p h = refl
walk_chained t zero v (x ∷ xs) e c p h = absurd (omega (arith, h))
walk_chained t (suc k) v [] e c p h = rw (eq-eqb v missing e)
walk_chained t (suc k) v (x ∷ xs) e c p h =
    rw (e, ne_eqb x missing p.0) (ap (λ (r : List ℕ). x ∷ r) (walk_chained t k (next_in t x) xs c.0 c.1 p.1 (omega (arith, h))))
