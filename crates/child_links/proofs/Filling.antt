-- The children of every component, linked row by row, and that all rows linked make the link table. Assumes nothing.
use mathlib.Core.Bool.{Bool, true, false}
use mathlib.Core.Logic.{◌⊎◌, inl, inr, ⊎_elim}
use mathlib.Core.Path.{◌≡◌, refl, sym, ap, ap₂, ◌∙◌, subst}
use mathlib.Core.List.{List, ◌++◌}
use Prim.Native.Nat.{ℕ, zero, suc, ◌+◌, ◌-◌, ◌*◌, ◌≤◌, ◌<◌}
use native.Mathlib.Nat.{sub-zero}
use native.Mathlib.Decide.{dec_le}
use native.Mathlib.Omega.{arith}
use borrow.Author.Tests.{eq-eqb, ne_eqb, eqb-true, eqb-false}
use lib.Dec.{T, eqb, eqb→eq}
use lib.ListN.{length, get_or, set, replicate, take, drop, length-append, length-replicate, get_or-append}
use lib.Seq.{get_or-set_other}
use Rattle.std.proofs.lemmas.List.{ext_get_or, length-take-le, get_or_default, get_or_past, get_or-replicate, get_or-append_right}
use Rattle.as5506.specs.Lists.{span, keep, insert_by, sort_by, zeros, padded}
use Rattle.as5506.specs.Tables.{Tables, missing, c_count, c_parent, c_place, children_of, rows_naming}
use Rattle.as5506.specs.Refusals.{accepted}
use Rattle.as5506.specs.Links.{first_child, siblings_behind, next_sibling, or_missing, link_table}
use Rattle.as5506.proofs.Laws.{All, in_all, all_map, all_keep, zeros-length, padded-length}
use Rattle.as5506.proofs.Scans.{keep-hit, keep-miss, keep-done}
use Rattle.as5506.proofs.Sorted.{Ordered, span-in, span-ordered, ordered-weaker, ordered-keep, all-sorted, Before, sorted-ordered}
use Rattle.as5506.proofs.Members.{Apart}
use Rattle.as5506.proofs.Whole.{Sound}
use Rattle.as5506.proofs.Accepted.{sound}
use Rattle.as5506.proofs.Children.{row-child}
use Rattle.as5506.proofs.Links.{root-alone, link-table-length, next-read, first-read}
use Rattle.lent.proofs.Sets.{get_or-zeros, drop-zeros}
use Rattle.lent.proofs.Padded.{padded-at}
use Rattle.child_links.specs.Filling.{children_from, first_slot, next_slot, slot_among, Spelled, Spells}
use Rattle.child_links.proofs.Spelled.{Off, spelled_kept, linked, linked_length, among, spelled-insert, chained_behind}

-- ---- a number is even or odd

halves : (j : ℕ) → (c : ℕ) × ((j ≡ c * 2) ⊎ (j ≡ c * 2 + 1))
halves zero = (0, inl (omega arith))
halves (suc zero) = (0, inr (omega arith))
halves (suc (suc j)) = let h = halves j in (suc h.0, ⊎_elim (λ e. inl (omega (arith, e))) (λ e. inr (omega (arith, e))) h.1)

-- ---- the children among the rows from i on

module _ (m : Tables) where
  -- of the children of p: a row from i on
  pub record Child (i p x : ℕ) : Type 0 where
    pub from : i ≤ x
    pub below : x < c_count m
    pub parent : c_parent m x ≡ p

  pub children-are : (i p : ℕ) → All (Child i p) (children_from m i p)
  children-are i p =
      all-sorted (c_place m) (Child i p) (keep (λ j. eqb (c_parent m j) p) (span i n))
      (all_keep (λ x. (i ≤ x) × (x < i + n)) (Child i p) (λ j. eqb (c_parent m j) p)
      (λ x u h. record { from = h.0; below = omega (arith, h.0, h.1); parent = eqb→eq (c_parent m x) p u }) (span i n) (in_all (λ x. (i ≤ x) × (x < i + n)) (span i n) (span-in i n)))
    where
      n : ℕ
      n = c_count m - i

  children-differ : (i p : ℕ) → Ordered Apart (children_from m i p)
  children-differ i p =
      ordered-weaker (Before (c_place m)) Apart differ (children_from m i p)
      (sorted-ordered (c_place m) (keep (λ j. eqb (c_parent m j) p) (span i (c_count m - i))) (ordered-keep ◌<◌ (λ j. eqb (c_parent m j) p) (span i (c_count m - i)) (span-ordered i (c_count m - i))))
    where
      differ : (x y : ℕ) → Before (c_place m) x y → Apart x y
      differ x y (inl a) e = omega (arith, a, ap (c_place m) e)
      differ x y (inr a) e = omega (arith, a.1, e)

  module _ (i : ℕ) (h : i < c_count m) where
    -- row i is a child of its parent, before those of the same place
    child_more : (p : ℕ) → c_parent m i ≡ p → children_from m i p ≡ insert_by (c_place m) i (children_from m (i + 1) p)
    unfolding sort_by
    child_more p e = ap (sort_by (c_place m)) (keep-hit (λ j. eqb (c_parent m j) p) i (c_count m) h (eq-eqb (c_parent m i) p e))

    -- and of nobody else
    child_same : (p : ℕ) → Apart (c_parent m i) p → children_from m i p ≡ children_from m (i + 1) p
    child_same p d = ap (sort_by (c_place m)) (keep-miss (λ j. eqb (c_parent m j) p) i (c_count m) h (ne_eqb (c_parent m i) p d))

  -- ---- row i linked in, where the rows behind it are

  module _ (i : ℕ) (t : List ℕ) (w : Spells m t (i + 1)) where
    inside : i < c_count m
    inside = omega (arith, w.within)

    -- it has no parent
    pub spells_root : Sound m → c_parent m i ≡ missing → Spells m t i
    spells_root s e =
        record {
          within = omega (arith, w.within);
          room = w.room;
          children = λ p l. rw (child_same i inside p (λ f. omega (arith, e, f, l, s.few))) (w.children p l);
          root = w.root;
          unused = w.unused;
        }

    module _ (q : ℕ) (pq : c_parent m i ≡ q) (lq : q < c_count m) where
      abbrev slot : ℕ
      slot = slot_among (c_place m) i (first_slot q) (children_from m (i + 1) q)

      -- the slot is one of those that its parent's children are linked in
      slot-is : (P : ℕ → Type 0) → P (first_slot q) → ((x : ℕ) → Child (i + 1) q x → P (next_slot x)) → P slot
      slot-is P p f =
          among (c_place m) i P (first_slot q) (children_from m (i + 1) q) p (all_map (Child (i + 1) q) (λ x. P (next_slot x)) f (children_from m (i + 1) q) (children-are (i + 1) q))

      slot-below : slot < c_count m * 2
      slot-below = slot-is (λ z. z < c_count m * 2) (omega (arith, lq)) (λ x c. omega (arith, c.below))

      -- the children of its parent
      own : Spelled (linked t slot i) (first_slot q) (children_from m i q)
      own =
          rw (child_more i inside q pq)
          (spelled-insert (c_place m) i (c_count m) t inside (omega (arith, w.room)) (first_slot q) kids (omega (arith, lq, w.room)) (λ e. omega (arith, e))
          (all_map (Child (i + 1) q) (Off (first_slot q)) (λ x c e. omega (arith, e)) kids are)
          (all_map (Child (i + 1) q) (λ x. (i < x) × (x < c_count m)) (λ x c. (omega (arith, c.from), c.below)) kids are)
          (children-differ (i + 1) q) (w.children q lq))
        where
          kids : List ℕ
          kids = children_from m (i + 1) q

          are : All (Child (i + 1) q) kids
          are = children-are (i + 1) q

      -- and those of another
      others : (p : ℕ) → p < c_count m → Apart q p → Spelled (linked t slot i) (first_slot p) (children_from m i p)
      others p lp d =
          rw (child_same i inside p (λ e. d (sym pq ∙ e)))
          (spelled_kept (set t (next_slot i) (get_or t slot 0)) slot i (first_slot p) kids away.0 away.1
          (spelled_kept t (next_slot i) (get_or t slot 0) (first_slot p) kids (λ e. omega (arith, e))
          (all_map (Child (i + 1) p) (Off (next_slot i)) (λ x c e. omega (arith, c.from, e)) kids are) (w.children p lp)))
        where
          kids : List ℕ
          kids = children_from m (i + 1) p

          are : All (Child (i + 1) p) kids
          are = children-are (i + 1) p

          same_parent : (x y : ℕ) → Child (i + 1) q x → Child (i + 1) p y → x ≡ y → ⊥
          same_parent x y a b e = d (sym a.parent ∙ ap (c_parent m) e ∙ b.parent)

          away : (first_slot p ≡ slot → ⊥) × All (Off slot) kids
          away =
              slot-is (λ z. (first_slot p ≡ z → ⊥) × All (Off z) kids)
              ((λ e. d (omega (arith, e))), all_map (Child (i + 1) p) (Off (first_slot q)) (λ y b e. omega (arith, e)) kids are)
              (λ x a. ((λ e. omega (arith, e)), all_map (Child (i + 1) p) (Off (next_slot x)) (λ y b e. same_parent x y a b (omega (arith, e))) kids are))

      -- a place of none of the two writes
      elsewhere : (j : ℕ) → (j ≡ next_slot i → ⊥) → (j ≡ slot → ⊥) → get_or (linked t slot i) j 0 ≡ get_or t j 0
      elsewhere j a b = get_or-set_other (set t (next_slot i) (get_or t slot 0)) slot j i 0 b ∙ get_or-set_other t (next_slot i) j (get_or t slot 0) 0 a

      spells_child : 0 < i → Spells m (linked t slot i) i
      spells_child pos =
          record {
            within = omega (arith, w.within);
            room = omega (arith, w.room, linked_length t slot i);
            children = λ p l. go p l (eqb q p) refl;
            root = elsewhere 1 (λ e. omega (arith, pos, e)) (slot-is (λ z. 1 ≡ z → ⊥) (λ e. omega (arith, e)) (λ x c e. omega (arith, c.from, e))) ∙ w.root;
            unused = λ j l. elsewhere j (λ e. omega (arith, l, inside, e)) (λ e. omega (arith, l, slot-below, e)) ∙ w.unused j l;
          }
        where
          go : (p : ℕ) → p < c_count m → (b : Bool) → eqb q p ≡ b → Spelled (linked t slot i) (first_slot p) (children_from m i p)
          go p l true e = subst (λ (p : ℕ). Spelled (linked t slot i) (first_slot p) (children_from m i p)) (eqb-true q p e) own
          go p l false e = others p l (eqb-false q p e)

    -- of accepted tables, a row that has a parent is not the first, and the parent is a row
    parent_row : Sound m → (c_parent m i ≡ missing → ⊥) → (0 < i) × (c_parent m i < c_count m)
    parent_row s = go i inside
      where
        go : (i : ℕ) → i < c_count m → (c_parent m i ≡ missing → ⊥) → (0 < i) × (c_parent m i < c_count m)
        go zero l d = absurd (d s.root)
        go (suc i) l d = (omega arith, omega (arith, s.parents (suc i) (omega arith) l, l))

    -- what the code reads, finds and writes: of the row's parent q, the slot s and the link v in it
    module _ (s : Sound m) {q : ℕ} (is : q ≡ c_parent m i) (d : q ≡ missing → ⊥) where
      pub owner-row : q < c_count m
      owner-row = omega (arith, is, (parent_row s (λ e. d (is ∙ e))).1)

      pub spells_put : {z v : ℕ} {t₁ t₂ : List ℕ} → z ≡ slot_among (c_place m) i (first_slot q) (children_from m (i + 1) q) → v ≡ get_or t z missing
          → t₁ ≡ set t (next_slot i) v → t₂ ≡ set t₁ z i → Spells m t₂ i
      spells_put {z} {v} e r a b =
          let below : slot q (sym is) owner-row < c_count m * 2 = slot-below q (sym is) owner-row in
          let reads : v ≡ get_or t (slot q (sym is) owner-row) 0 = r ∙ ap (λ (k : ℕ). get_or t k missing) e ∙ get_or_default t (slot q (sym is) owner-row) missing 0 (omega (arith, below, w.room)) in
          rw (b, a, e, reads) (spells_child q (sym is) owner-row (parent_row s (λ e. d (is ∙ e))).0)

  -- ---- no row is linked: the rows' numbers are missing, the others zero

  module _ (n : ℕ) (room : c_count m * 2 ≤ n) where
    abbrev none_linked : List ℕ
    none_linked = replicate (c_count m * 2) missing ++ zeros (n - c_count m * 2)

    -- as the code fills it
    pub filled_twice : (z f : List ℕ) → z ≡ zeros n → f ≡ replicate (length (take (c_count m * 2) z)) missing → f ++ drop (c_count m * 2) z ≡ none_linked
    filled_twice z f e g =
        let long : length z ≡ n = zeros-length z n e in
        ap₂ ◌++◌ (g ∙ ap (λ (k : ℕ). replicate k missing) (length-take-le (c_count m * 2) z (omega (arith, long, room))))
        (ap (drop (c_count m * 2)) e ∙ drop-zeros (c_count m * 2) n)

    pub none_linked-length : length none_linked ≡ n
    none_linked-length =
        omega (arith, room, length-append (replicate (c_count m * 2) missing) (zeros (n - c_count m * 2)), length-replicate {A = ℕ} (c_count m * 2) missing, length-replicate {A = ℕ} (n - c_count m * 2) 0)

    pub spells_none : 0 < c_count m → Spells m none_linked (c_count m)
    unfolding sort_by
    spells_none some =
        record {
          within = omega arith;
          room = omega (arith, room, none_linked-length);
          children = λ p l. rw (keep-done (λ j. eqb (c_parent m j) p) (c_count m) (c_count m) (omega arith)) (none (p * 2) (omega (arith, l)), tt);
          root = none 1 (omega (arith, some));
          unused = λ j l.
              get_or-append_right (replicate (c_count m * 2) missing) (zeros (n - c_count m * 2)) (c_count m * 2) j 0 (length-replicate {A = ℕ} (c_count m * 2) missing) l
              ∙ get_or-zeros (n - c_count m * 2) (j - c_count m * 2);
        }
      where
        none : (j : ℕ) → j < c_count m * 2 → get_or none_linked j 0 ≡ missing
        none j l =
            get_or-append (replicate (c_count m * 2) missing) (zeros (n - c_count m * 2)) 0 j (omega (arith, l, length-replicate {A = ℕ} (c_count m * 2) missing))
            ∙ get_or-replicate (c_count m * 2) j missing 0 l

  -- ---- ALL ROWS LINKED MAKE THE LINK TABLE

  module _ (ok : T (accepted m)) (t : List ℕ) (w : Spells m t 0) where
    spelled-all : (p : ℕ) → p < c_count m → Spelled t (first_slot p) (children_of m p)
    unfolding rows_naming
    spelled-all p h = subst (λ (n : ℕ). Spelled t (first_slot p) (sort_by (c_place m) (keep (λ j. eqb (c_parent m j) p) (span 0 n)))) (sub-zero (c_count m)) (w.children p h)

    next-is : (i : ℕ) → i < c_count m → get_or t (next_slot i) 0 ≡ or_missing (next_sibling m i)
    unfolding next_sibling siblings_behind
    next-is zero h = w.root ∙ sym (ap or_missing (root-alone m ok))
    next-is (suc i) h =
        chained_behind t (suc i) (children_of m (c_parent m (suc i))) (spelled-all (c_parent m (suc i)) (omega (arith, (sound m ok).parents (suc i) (omega arith) h, h))).1
        (row-child m (c_parent m (suc i)) (suc i) h refl)

    pub spells_all : t ≡ padded (length t) (link_table m)
    unfolding first_child
    spells_all =
        ext_get_or 0 t (padded (length t) (link_table m)) (sym (padded-length (length t) (link_table m) (omega (arith, w.room, link-table-length m))))
        (λ j l. at j (dec_le (c_count m * 2) j))
      where
        within : (j : ℕ) → (c_count m * 2 ≤ j → ⊥) → (c : ℕ) → (j ≡ c * 2) ⊎ (j ≡ c * 2 + 1) → get_or t j 0 ≡ get_or (padded (length t) (link_table m)) j 0
        within j h c (inl e) = let l : c < c_count m = omega (arith, h, e) in rw e ((spelled-all c l).0 ∙ sym (first-read m (length t) 0 c l))
        within j h c (inr e) = let l : c < c_count m = omega (arith, h, e) in rw e (next-is c l ∙ sym (next-read m (length t) 0 c l))

        at : (j : ℕ) → Dec (c_count m * 2 ≤ j) → get_or t j 0 ≡ get_or (padded (length t) (link_table m)) j 0
        at j (yes h) = w.unused j h ∙ sym (padded-at (length t) (link_table m) j ∙ get_or_past (link_table m) j 0 (omega (arith, h, link-table-length m)))
        at j (no h) = within j h (halves j).0 (halves j).1
