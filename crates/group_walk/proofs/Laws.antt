-- Laws of a walk over an expansion, for any doing with a feature: part after part, visit by visit, row by row. Assumes nothing.
use mathlib.Core.Bool.{Bool, true, false, not, ◌&&◌}
use mathlib.Core.Path.{◌≡◌, refl, sym, ap, ap₂, ◌∙◌, subst}
use mathlib.Core.List.{List, [], ◌∷◌, ◌++◌, map, append-nil}
use Prim.Native.Nat.{ℕ, zero, suc, ◌+◌, ◌-◌, ◌/◌, ◌≤◌, ◌<◌}
use native.Mathlib.Nat.{add-zero, add_assoc, sub-zero}
use native.Mathlib.Omega.{arith}
use borrow.Author.Tests.{le-leb, lt-leb, leb-true, leb-false, lt-ltb, le-ltb, not-true, not-false}
use lib.Dec.{eqb, leb, ltb}
use lib.ListN.{length, get_or}
use Rattle.as5506.specs.Lists.{span, keep}
use Rattle.as5506.specs.Tables.{missing, present, width, letter_e, e_holder, e_holder_kind, e_name, rows_naming}
use Rattle.as5506.specs.Groups.{Feature, Expansion, joined, one_visit, one_feature, turned}
use Rattle.as5506.proofs.Laws.{missing-is, present-is}
use Rattle.as5506.proofs.Scans.{keep-hit, keep-miss, keep-done, keep-both}
use Rattle.lent.proofs.Pieces.{stays_then}
use Rattle.links.specs.Links.{unfound}
use Rattle.links.specs.Walk.{declared_in, Groups, Visit, feature_at, row_by, walk, rows_in, extended_by, type_by, found_by, visit_link}
use Rattle.sink.specs.Take.{Held}
use Rattle.sink.proofs.Dull.{Grown, grown-nothing, grown-then}
use Rattle.std.specs.Prelude.{Option, Some, None}
use Rattle.group_walk.specs.Run.{Take, take_all, visit_limit, State, over, going, going_by, run, state_of, Behind}

-- ---- a direction

turned-other : (d : ℕ) → (d ≡ 0 → ⊥) → (d ≡ 1 → ⊥) → d ≡ turned true d
unfolding turned
turned-other zero p q = absurd (p refl)
turned-other (suc zero) p q = absurd (q refl)
turned-other (suc (suc d)) p q = refl

module _ (inverse : Bool) (d : ℕ) where
  pub turn-none : not inverse ≡ true → d ≡ turned inverse d
  unfolding turned
  turn-none e = rw (not-true inverse e)

  module _ (e : not inverse ≡ false) where
    pub turn_in : d ≡ 0 → 1 ≡ turned inverse d
    unfolding turned
    turn_in p = rw (not-false inverse e, p)

    pub turn-out : d ≡ 1 → 0 ≡ turned inverse d
    unfolding turned
    turn-out p = rw (not-false inverse e, p)

    pub turn-other : (d ≡ 0 → ⊥) → (d ≡ 1 → ⊥) → d ≡ turned inverse d
    turn-other p q = rw (not-false inverse e) (turned-other d p q)

-- ---- what a state tells

abbrev held_of : State → Held → Held
held_of over h = h
held_of (going h k) g = h

abbrev visits_of : State → ℕ
visits_of over = 0
visits_of (going h k) = k

abbrev is_going : State → ℕ
is_going over = 0
is_going (going h k) = 1

-- a part by itself
joined-one : (x : Expansion) → joined (x ∷ []) ≡ x
joined-one x = ap₂ (λ (fs : List Feature) (k : ℕ). record { features = fs; visits = k }) (append-nil x.features) (add-zero x.visits)

module _ (does : Take) where
  -- ---- one part after the other

  all_append : (fs gs : List Feature) (h : Held) → take_all does (fs ++ gs) h ≡ take_all does gs (take_all does fs h)
  unfolding take_all
  all_append [] gs h = refl
  all_append (f ∷ fs) gs h = all_append fs gs (does f h)

  run_on : (h : Held) (k : ℕ) (x y : Expansion) (b : Bool) → leb (k + x.visits) visit_limit ≡ b
      → run does (going_by b (take_all does x.features h) (k + x.visits)) y
      ≡ going_by (leb (k + (x.visits + y.visits)) visit_limit) (take_all does (x.features ++ y.features) h) (k + (x.visits + y.visits))
  unfolding run going_by
  run_on h k x y true q = simp (all_append, add_assoc)
  run_on h k x y false q =
      let l : visit_limit < k + x.visits = leb-false (k + x.visits) visit_limit q in
      rw (lt-leb (k + (x.visits + y.visits)) visit_limit (omega arith))

  -- over parts: over the first, then over the others
  pub run-joined : (s : State) (x : Expansion) (xs : List Expansion) → run does s (joined (x ∷ xs)) ≡ run does (run does s x) (joined xs)
  unfolding run
  run-joined over x xs = refl
  run-joined (going h k) x xs = sym (run_on h k x (joined xs) (leb (k + x.visits) visit_limit) refl)

  pub run-both : (s : State) (x y : Expansion) → run does s (joined (x ∷ y ∷ [])) ≡ run does (run does s x) y
  run-both s x y = run-joined s x (y ∷ []) ∙ ap (run does (run does s x)) (joined-one y)

  -- ---- single parts

  pub run-nothing : (h : Held) (k : ℕ) → k ≤ visit_limit → run does (going h k) (joined []) ≡ going h k
  unfolding run going_by take_all
  run-nothing h k l = rw (add-zero, le-leb k visit_limit l)

  run-feature : (f : Feature) (h : Held) (k : ℕ) → k ≤ visit_limit → run does (going h k) (one_feature f) ≡ going (does f h) k
  unfolding run going_by take_all
  run-feature f h k l = rw (add-zero, le-leb k visit_limit l)

  run-visit : (h : Held) (k : ℕ) → k < visit_limit → run does (going h k) one_visit ≡ going h (k + 1)
  unfolding run going_by take_all
  run-visit h k l = rw (le-leb (k + 1) visit_limit (omega arith))

  visit-too-many : (h : Held) (k : ℕ) → visit_limit ≤ k → run does (going h k) one_visit ≡ over
  unfolding run going_by take_all
  visit-too-many h k l = rw (lt-leb (k + 1) visit_limit (omega arith))

  -- ---- what an answer says of the expansion: for callers

  done-by : (b : Bool) (k v : ℕ) (H h : Held) → leb k visit_limit ≡ b → going h v ≡ going_by b H k → (h ≡ H) × (v ≡ k) × (k ≤ visit_limit)
  unfolding going_by
  done-by true k v H h q e = (ap (λ (s : State). held_of s H) e, ap visits_of e, leb-true k visit_limit q)
  done-by false k v H h q e = let z : ◌≡◌ {A = ℕ} 1 0 = ap is_going e in absurd (omega arith)

  over_by : (b : Bool) (k : ℕ) (H : Held) → leb k visit_limit ≡ b → over ≡ going_by b H k → visit_limit < k
  unfolding going_by
  over_by true k H q e = let z : ◌≡◌ {A = ℕ} 0 1 = ap is_going e in absurd (omega arith)
  over_by false k H q e = leb-false k visit_limit q

  pub run-done : (v : ℕ) (t h : Held) (k : ℕ) (x : Expansion) → state_of (Some v) t ≡ run does (going h k) x
      → (t ≡ take_all does x.features h) × (v ≡ k + x.visits) × (k + x.visits ≤ visit_limit)
  unfolding state_of run
  run-done v t h k x e = done-by (leb (k + x.visits) visit_limit) (k + x.visits) v (take_all does x.features h) t refl e

  pub run-over : (t h : Held) (k : ℕ) (x : Expansion) → state_of None t ≡ run does (going h k) x → visit_limit < k + x.visits
  unfolding state_of run
  run-over t h k x e = over_by (leb (k + x.visits) visit_limit) (k + x.visits) (take_all does x.features h) refl e

  -- ---- what every feature keeps of the memory, a walk keeps

  module _ (Good : List ℕ → Type 0) (keeps : (f : Feature) (h : Held) → Good h.memo → Good (does f h).memo) where
    pub all-keep-memory : (fs : List Feature) (h : Held) → Good h.memo → Good (take_all does fs h).memo
    unfolding take_all
    all-keep-memory [] h g = g
    all-keep-memory (f ∷ fs) h g = all-keep-memory fs (does f h) (keeps f h g)

    -- so does the walk whose answer is known, and its visits are within the limit
    pub done-good : (r : Option ℕ) (t h : Held) (k : ℕ) (x : Expansion) (v : ℕ) → state_of r t ≡ run does (going h k) x → r ≡ Some v → Good h.memo → Good t.memo × (v ≤ visit_limit)
    done-good r t h k x v e q g =
        let d = run-done v t h k x (ap (λ (w : Option ℕ). state_of w t) (sym q) ∙ e) in
        (subst (λ (a : Held). Good a.memo) (sym d.0) (all-keep-memory x.features h g), omega (arith, d.1, d.2))

  -- ---- where every feature only adds to the outputs, a walk does

  module _ (grows : (f : Feature) (h : Held) → Grown h (does f h)) where
    pub all-grow : (fs : List Feature) (h : Held) → Grown h (take_all does fs h)
    unfolding take_all
    all-grow [] h = grown-nothing h
    all-grow (f ∷ fs) h = grown-then h (does f h) (take_all does fs (does f h)) (grows f h) (all-grow fs (does f h))

    pub done-grown : (r : Option ℕ) (t h : Held) (k : ℕ) (x : Expansion) (v : ℕ) → state_of r t ≡ run does (going h k) x → r ≡ Some v → Grown h t
    done-grown r t h k x v e q =
        let d = run-done v t h k x (ap (λ (w : Option ℕ). state_of w t) (sym q) ∙ e) in
        subst (Grown h) (sym d.0) (all-grow x.features h)

  -- ---- the answer of a part, and what follows it

  module _ (r : Option ℕ) (t : Held) (s : State) (x : Expansion) (e : state_of r t ≡ run does s x) where
    pub over-is : r ≡ None → over ≡ run does s x
    unfolding state_of
    over-is q = rw (← e, q)

    pub done-is : (v : ℕ) → r ≡ Some v → state_of (Some v) t ≡ run does s x
    done-is v q = rw (← e, q)

    pub over-then : r ≡ None → (y : Expansion) → over ≡ run does (run does s x) y
    unfolding run state_of
    over-then q y = rw (← e, q)

    pub done-then : (v : ℕ) → r ≡ Some v → (y : Expansion) → run does (run does s x) y ≡ run does (going t v) y
    unfolding state_of
    done-then v q y = rw (← e, q)

-- ---- what stood in the outputs

pub behind-nothing : (h : Held) → Behind h h
behind-nothing h =
    record { in-out = refl; in-notes = refl; within-out = λ w. w; within-notes = λ w. w; length-memo = refl; length-out = refl; length-notes = refl }

-- what is written behind what was added is behind what stood there
pub behind-then : (h t u : Held) → Grown h t → Behind t u → Behind h u
behind-then h t u a b =
    record {
      in-out = stays_then h.out t.out u.out a.added-out b.in-out;
      in-notes = stays_then h.notes t.notes u.notes a.added-notes b.in-notes;
      within-out = λ w. b.within-out (a.within-out w);
      within-notes = λ w. b.within-notes (a.within-notes w);
      length-memo = b.length-memo ∙ a.length-memo;
      length-out = b.length-out ∙ a.length-out;
      length-notes = b.length-notes ∙ a.length-notes;
    }

-- ---- what a link leads to

module _ (g : Groups) (visit : Visit) (inverse : Bool) (prefix : List ℕ) (to : ℕ) where
  abbrev found : Expansion
  found = found_by (ltb to unfound) g visit inverse prefix to

  -- what a group type gives
  abbrev pub meant : Expansion
  meant = type_by (present (get_or g.inverse to 0)) g visit inverse prefix to

  -- what its own features give
  abbrev pub own : Expansion
  own = walk g visit inverse prefix (rows_in g to)

  found_nothing : unfound ≤ to → found ≡ joined []
  unfolding found_by
  found_nothing l = rw (le-ltb to unfound l)

  found_type : to < unfound → found ≡ meant
  unfolding found_by
  found_type l = rw (lt-ltb to unfound l)

  module _ (back : ℕ) (b : back ≡ get_or g.inverse to 0) where
    meant-inverse : (back ≡ missing → ⊥) → meant ≡ visit back (not inverse) prefix
    unfolding type_by
    meant-inverse q = rw (b, present-is (get_or g.inverse to 0) (get_or g.inverse to 0) refl (λ z. q (b ∙ z)))

    module _ (q : back ≡ missing) (up : ℕ) (u : up ≡ get_or g.extends to 0) where
      meant-own : up ≡ missing → meant ≡ joined (joined [] ∷ own ∷ [])
      unfolding type_by extended_by
      meant-own p = rw (← b, missing-is back back refl q, ← u, missing-is up up refl p)

      meant-both : (up ≡ missing → ⊥) → meant ≡ joined (visit up inverse prefix ∷ own ∷ [])
      unfolding type_by extended_by
      meant-both p = rw (← b, missing-is back back refl q, u, present-is (get_or g.extends to 0) (get_or g.extends to 0) refl (λ z. p (u ∙ z)))

-- ---- a visit, as the code makes it

module _ (does : Take) (g : Groups) (to : ℕ) (inverse : Bool) (prefix : List ℕ) (h : Held) (k : ℕ) where
  pub visit-over : (left : ℕ) → visit_limit ≤ k → over ≡ run does (going h k) (visit_link g left to inverse prefix)
  unfolding visit_link run
  visit-over zero l = sym (visit-too-many does h k l)
  visit-over (suc left) l = sym (run-both does (going h k) one_visit (found g (visit_link g left) inverse prefix to) ∙ rw (visit-too-many does h k l))

  pub visit-past : (left : ℕ) → left ≡ 0 → k < visit_limit → going h (k + 1) ≡ run does (going h k) (visit_link g left to inverse prefix)
  unfolding visit_link
  visit-past left z l = rw z (sym (run-visit does h k l))

  module _ (left : ℕ) (q : left ≡ 0 → ⊥) (l : k < visit_limit) where
    abbrev whole : State
    whole = run does (going h k) (visit_link g left to inverse prefix)

    abbrev below : Visit
    below = visit_link g (left - 1)

    visit-opens : (n : ℕ) → (n ≡ 0 → ⊥) → run does (going h k) (visit_link g n to inverse prefix) ≡ run does (going h (k + 1)) (found g (visit_link g (n - 1)) inverse prefix to)
    unfolding visit_link
    visit-opens zero z = absurd (z refl)
    visit-opens (suc n) z =
        let o : suc n - 1 ≡ n = omega arith in
        rw o (run-both does (going h k) one_visit (found g (visit_link g n) inverse prefix to) ∙ rw (run-visit does h k l))

    visit-found : (x : Expansion) → found g below inverse prefix to ≡ x → whole ≡ run does (going h (k + 1)) x
    visit-found x e = visit-opens left q ∙ ap (run does (going h (k + 1))) e

    pub visit-nothing : unfound ≤ to → going h (k + 1) ≡ whole
    visit-nothing u = sym (visit-found (joined []) (found_nothing g below inverse prefix to u) ∙ run-nothing does h (k + 1) (omega arith))

    pub visit-type : to < unfound → whole ≡ run does (going h (k + 1)) (meant g below inverse prefix to)
    visit-type u = visit-found (meant g below inverse prefix to) (found_type g below inverse prefix to u)

-- ---- what a group type gives, as the code makes it

module _ (does : Take) (g : Groups) (visit : Visit) (inverse : Bool) (prefix : List ℕ) (to : ℕ) (h : Held) (k : ℕ) (back : ℕ) (b : back ≡ get_or g.inverse to 0) where
  abbrev expanded : State
  expanded = run does (going h k) (meant g visit inverse prefix to)

  pub type-inverse : (back ≡ missing → ⊥) → expanded ≡ run does (going h k) (visit back (not inverse) prefix)
  type-inverse i = ap (run does (going h k)) (meant-inverse g visit inverse prefix to back b i)

  module _ (i : back ≡ missing) (up : ℕ) (e : up ≡ get_or g.extends to 0) where
    pub type-own : k ≤ visit_limit → up ≡ missing → expanded ≡ run does (going h k) (own g visit inverse prefix to)
    type-own l p =
        ap (run does (going h k)) (meant-own g visit inverse prefix to back b i up e p)
        ∙ run-both does (going h k) (joined []) (own g visit inverse prefix to)
        ∙ rw (run-nothing does h k l)

    pub type-both : (up ≡ missing → ⊥) → expanded ≡ run does (run does (going h k) (visit up inverse prefix)) (own g visit inverse prefix to)
    type-both p =
        ap (run does (going h k)) (meant-both g visit inverse prefix to back b i up e p)
        ∙ run-both does (going h k) (visit up inverse prefix) (own g visit inverse prefix to)

-- ---- the rows of a group type

-- whether E row i is one
abbrev pub of_group : List ℕ → ℕ → ℕ → Bool
of_group e u i = eqb (e_holder (declared_in e) i) u && eqb (e_holder_kind (declared_in e) i) 1

-- those from row i on
unfoldable pub rows_from : List ℕ → ℕ → ℕ → List ℕ
rows_from e u i = keep (of_group e u) (span i (length e / width letter_e - i))

-- the one test after the other
pub rows_start : (g : Groups) (u : ℕ) → rows_from g.e u 0 ≡ rows_in g u
unfolding rows_from rows_naming
rows_start g u = rw sub-zero (sym (keep-both (λ i. eqb (e_holder_kind (declared_in g.e) i) 1) (λ i. eqb (e_holder (declared_in g.e) i) u) (span 0 (length g.e / width letter_e))))

-- ---- a walk over them, row by row

module _ (does : Take) (g : Groups) (visit : Visit) (inverse : Bool) (prefix : List ℕ) (u : ℕ) where
  abbrev part : ℕ → Expansion
  part j = row_by (present (get_or g.nested j 0)) g visit inverse prefix j

  -- what is left of the walk from row j on
  abbrev pub on_from : State → ℕ → State
  on_from s j = run does s (walk g visit inverse prefix (rows_from g.e u j))

  module _ (i : ℕ) where
    pub walk_end : (h : Held) (k : ℕ) → length g.e / width letter_e ≤ i → k ≤ visit_limit → on_from (going h k) i ≡ going h k
    unfolding walk rows_from
    walk_end h k p l = rw (keep-done (of_group g.e u) i (length g.e / width letter_e) p) (run-nothing does h k l)

    module _ (p : i < length g.e / width letter_e) (h : Held) (k : ℕ) where
      abbrev here : State
      here = on_from (going h k) i

      pub row-passed : of_group g.e u i ≡ false → on_from (going h k) (i + 1) ≡ here
      unfolding rows_from
      row-passed q = rw (keep-miss (of_group g.e u) i (length g.e / width letter_e) p q)

      module _ (q : of_group g.e u i ≡ true) where
        row-taken : here ≡ on_from (run does (going h k) (part i)) (i + 1)
        unfolding walk rows_from
        row-taken = rw (keep-hit (of_group g.e u) i (length g.e / width letter_e) p q) (run-joined does (going h k) (part i) (map part (rows_from g.e u (i + 1))))

        pub row_listed : get_or g.nested i 0 ≡ missing → k ≤ visit_limit → (a : Held) → a ≡ does (feature_at g.e inverse prefix i) h → on_from (going a k) (i + 1) ≡ here
        unfolding row_by
        row_listed m l a d = sym (row-taken ∙ rw (missing-is _ _ refl m, run-feature does (feature_at g.e inverse prefix i) h k l, ← d))

        module _ (m : get_or g.nested i 0 ≡ missing → ⊥) (r : Option ℕ) (t : Held)
            (e : state_of r t ≡ run does (going h k) (visit (get_or g.nested i 0) inverse (prefix ++ e_name (declared_in g.e) i ∷ []))) where
          row-nested : here ≡ on_from (run does (going h k) (visit (get_or g.nested i 0) inverse (prefix ++ e_name (declared_in g.e) i ∷ []))) (i + 1)
          unfolding row_by
          row-nested = row-taken ∙ rw (present-is _ _ refl m)

          pub row-over : r ≡ None → over ≡ here
          row-over z = over-then does r t (going h k) _ e z _ ∙ sym row-nested

          pub row_done : (v : ℕ) → r ≡ Some v → on_from (going t v) (i + 1) ≡ here
          row_done v z = sym (row-nested ∙ done-then does r t (going h k) _ e v z _)
