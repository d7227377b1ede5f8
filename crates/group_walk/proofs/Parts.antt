-- What the three routines of the walk do, part by part: a group type, a visit, a row. Each part goes on where the last one ended. Assumes nothing.
use mathlib.Core.Bool.{true, false, not, ◌&&◌}
use mathlib.Core.Path.{◌≡◌, refl, sym, ap, subst, ◌∙◌}
use mathlib.Core.List.{List, [], ◌∷◌, ◌++◌}
use Prim.Native.Nat.{ℕ, ◌+◌, ◌*◌, ◌-◌, ◌/◌, ◌≤◌, ◌<◌}
use native.Mathlib.Omega.{arith}
use borrow.Author.Tests.{eqb-true}
use Rattle.std.specs.Prelude.{Option, Some, None}
use Rattle.std.specs.Option.{option_eq}
use Rattle.std.proofs.lemmas.Bool.{and_parts}
use lib.Dec.{eqb}
use lib.ListN.{length, set, get_or}
use Rattle.as5506.specs.Groups.{Feature, Expansion}
use Rattle.as5506.specs.Tables.{Tables, missing, width, letter_e, e_name}
use Rattle.lent.specs.Model.{model}
use Rattle.links.specs.Links.{unfound}
use Rattle.links.specs.Walk.{Visit, feature_at, walk, rows_in, visit_link}
use Rattle.sink.specs.declared.Purpose.{Purpose}
use Rattle.sink.specs.declared.Sink.{Sink}
use Rattle.sink.specs.Take.{Held, held, SameBuffers, taken, Ready}
use Rattle.sink.proofs.Buffers.{buffers-nothing, buffers-then}
use Rattle.sink.proofs.Ready.{taken-ready}
use Rattle.sink.proofs.Dull.{Grown, grown-nothing, grown-then, grows}
use Rattle.group_walk.specs.declared.Walk.{Walk}
use Rattle.group_walk.specs.declared.position.Position.{Position}
use Rattle.group_walk.specs.Run.{State, going, visit_limit, run, state_of, Behind}
use Rattle.group_walk.specs.Calm.{levels, Calm, CalmAfter}
use Rattle.group_walk.specs.Walks.{groups, does, dulls, VisitReady, TypeReady}
use Rattle.group_walk.proofs.Laws.{of_group, over-is, done-is, over-then, done-then, done-good, run-done, done-grown, behind-then, visit-over, visit-past, visit-nothing, visit-type, type-inverse, type-own, type-both, meant, own, rows_start, on_from, walk_end, row-passed, row_listed, row-over, row_done}
use Rattle.group_walk.proofs.Calm.{Passing, passing, calm-stays, known_over, known-done, quiet-put, after-done}

law : (w : Walk) → Passing (does w) (dulls w)
law w = passing w.purpose (model w.tables.now)

-- ---- a part of a walk that is not over: what the walk relies on holds after it

module _ (p : Purpose) (m : Tables) (r : Option ℕ) (t h : Held) (visits : ℕ) (x : Expansion) (a : state_of r t ≡ run (taken p m) (going h visits) x) (v : ℕ) (q : r ≡ Some v) where
  part-good : Ready p m h.memo → Ready p m t.memo × (v ≤ visit_limit)
  part-good = done-good (taken p m) (Ready p m) (taken-ready p m) r t h visits x v a q

  part-grown : Grown h t
  part-grown = done-grown (taken p m) (grows m p) r t h visits x v a q

  pub part_behind : (u : Held) → Behind t u → Behind h u
  part_behind u = behind-then h t u part-grown

pub part_ready : (w : Walk) (r : Option ℕ) (t h : Held) (visits : ℕ) (x : Expansion) → state_of r t ≡ run (does w) (going h visits) x → (v : ℕ) → r ≡ Some v
    → (calm calm₁ : List ℕ) (at : Position) → TypeReady w h calm at visits → CalmAfter r (groups w) (dulls w) t calm₁ → TypeReady w t calm₁ at v
part_ready w r t h visits x a v q calm calm₁ at s k =
    let good = part-good w.purpose (model w.tables.now) r t h visits x a v q s.ready in
    record { ready = good.0; deep = s.deep; few = good.1; known = after-done (groups w) (dulls w) r t calm₁ v q k }

-- ---- a group type: what it is the inverse of, or what it extends and its own features

module _ {w : Walk} {h : Held} {calm : List ℕ} {at : Position} {visits : ℕ} (s : TypeReady w h calm at visits) (row : ℕ) where
  abbrev type-below : Visit
  type-below = visit_link (groups w) at.left

  abbrev type-entry : State
  type-entry = going h visits

  abbrev type-whole : State
  type-whole = run (does w) type-entry (meant (groups w) type-below at.inverse at.prefix row)

  abbrev type-own-features : Expansion
  type-own-features = own (groups w) type-below at.inverse at.prefix row

  module _ (back : ℕ) (b : back ≡ get_or w.links.now.inverse.now row 0) where
    pub by_inverse : (back ≡ missing → ⊥) → (r : Option ℕ) (t : Held) → state_of r t ≡ run (does w) type-entry (type-below back (not at.inverse) at.prefix) → state_of r t ≡ type-whole
    by_inverse i r t a = a ∙ sym (type-inverse (does w) (groups w) type-below at.inverse at.prefix row h visits back b i)

    module _ (i : back ≡ missing) (up : ℕ) (e : up ≡ get_or w.links.now.extends.now row 0) where
      pub by_own : up ≡ missing → (r : Option ℕ) (t : Held) → state_of r t ≡ run (does w) type-entry type-own-features → state_of r t ≡ type-whole
      by_own k r t a = a ∙ sym (type-own (does w) (groups w) type-below at.inverse at.prefix row h visits back b i up e s.few k)

      -- what it extends is visited
      module _ (k : up ≡ missing → ⊥) (r : Option ℕ) (t : Held) (a : state_of r t ≡ run (does w) type-entry (type-below up at.inverse at.prefix)) where
        by_both : type-whole ≡ run (does w) (run (does w) type-entry (type-below up at.inverse at.prefix)) type-own-features
        by_both = type-both (does w) (groups w) type-below at.inverse at.prefix row h visits back b i up e k

        pub up_over : r ≡ None → state_of None t ≡ type-whole
        unfolding state_of
        up_over q = over-then (does w) r t type-entry (type-below up at.inverse at.prefix) a q type-own-features ∙ sym by_both

        pub up_done : (v : ℕ) → r ≡ Some v → (r₂ : Option ℕ) (t₂ : Held) → state_of r₂ t₂ ≡ run (does w) (going t v) type-own-features → state_of r₂ t₂ ≡ type-whole
        up_done v q r₂ t₂ a₂ = a₂ ∙ sym (by_both ∙ done-then (does w) r t type-entry (type-below up at.inverse at.prefix) a v q type-own-features)

-- ---- a visit

-- as much of an output is used
same_use : (u v : Option ℕ) → option_eq eqb u v ≡ true → u ≡ v
same_use None None e = refl
same_use None (Some k) e = absurd (cc)
same_use (Some k) None e = absurd (cc)
same_use (Some j) (Some k) e = ap Some (eqb-true j k e)

module _ {w : Walk} {h : Held} {calm : List ℕ} (s : VisitReady w h calm) (at : Position) (to visits : ℕ) where
  abbrev below : Visit
  below = visit_link (groups w) (at.left - 1)

  -- one visit more
  abbrev next : State
  next = going h (visits + 1)

  abbrev whole : State
  whole = run (does w) (going h visits) (visit_link (groups w) at.left to at.inverse at.prefix)

  -- whatever is carried then
  pub too_many : visit_limit ≤ visits → (t : Held) → state_of None t ≡ whole
  unfolding state_of
  too_many l t = visit-over (does w) (groups w) to at.inverse at.prefix h visits at.left l

  -- it changes nothing
  pub still_calm : (v : ℕ) → CalmAfter (Some v) (groups w) (dulls w) h calm
  unfolding CalmAfter
  still_calm v = s.known

  module _ (within : visits < visit_limit) where
    pub no_level : at.left ≡ 0 → state_of (Some (visits + 1)) h ≡ whole
    unfolding state_of
    no_level z = visit-past (does w) (groups w) to at.inverse at.prefix h visits at.left z within

    module _ (some_left : at.left ≡ 0 → ⊥) where
      pub no_row : unfound ≤ to → state_of (Some (visits + 1)) h ≡ whole
      unfolding state_of
      no_row = visit-nothing (does w) (groups w) to at.inverse at.prefix h visits at.left some_left within

      -- where it is known to change nothing
      module _ (known : ℕ) (e : known ≡ get_or calm (to * levels + (at.left - 1)) 0) (q : known ≡ 0 → ⊥) where
        pub passed_over : visit_limit < visits + known → state_of None h ≡ whole
        unfolding state_of
        passed_over = known_over (does w) (dulls w) (law w) (groups w) h calm s.known to known q at.left some_left (omega (arith, at.fits)) e at.inverse at.prefix visits

        pub passed_done : visits + known ≤ visit_limit → state_of (Some (visits + known)) h ≡ whole
        unfolding state_of
        passed_done = known-done (does w) (dulls w) (law w) (groups w) h calm s.known to known q at.left some_left (omega (arith, at.fits)) e at.inverse at.prefix visits

      -- where what it means is expanded
      module _ (row : to < unfound) (r : Option ℕ) (t : Held) (a : state_of r t ≡ run (does w) next (meant (groups w) below at.inverse at.prefix to)) where
        opened : whole ≡ run (does w) next (meant (groups w) below at.inverse at.prefix to)
        opened = visit-type (does w) (groups w) to at.inverse at.prefix h visits at.left some_left within row

        pub expanded_over : r ≡ None → state_of None t ≡ whole
        unfolding state_of
        expanded_over q = over-is (does w) r t next (meant (groups w) below at.inverse at.prefix to) a q ∙ sym opened

        module _ (v : ℕ) (q : r ≡ Some v) where
          pub expanded_done : state_of (Some v) t ≡ whole
          expanded_done = done-is (does w) r t next (meant (groups w) below at.inverse at.prefix to) a v q ∙ sym opened

          pub expanded_more : visits ≤ v
          expanded_more =
              let d = run-done (does w) v t h visits (visit_link (groups w) at.left to at.inverse at.prefix) expanded_done in
              omega (arith, d.1)

          -- both outputs are used as before: from now on it is known to change nothing
          pub expanded_calm : (calm₁ : List ℕ) → CalmAfter r (groups w) (dulls w) t calm₁
              → option_eq eqb t.out.used h.out.used && option_eq eqb t.notes.used h.notes.used ≡ true
              → (calm₂ : List ℕ) → calm₂ ≡ set calm₁ (to * levels + (at.left - 1)) (v - visits) → CalmAfter (Some v) (groups w) (dulls w) t calm₂
          unfolding CalmAfter
          expanded_calm calm₁ k e calm₂ p =
              let same = and_parts _ _ e in
              rw p (quiet-put (does w) (dulls w) (law w) (groups w) v t h visits to at.left some_left (omega (arith, at.fits)) at.inverse at.prefix
              expanded_done calm₁ (same_use _ _ same.0) (same_use _ _ same.1) (after-done (groups w) (dulls w) r t calm₁ v q k))

-- ---- the rows of a group type

-- what a walk over them keeps, from what it was given until row i: a sink and so many visits at first, and those now
pub record Onward (w : Walk) (row : ℕ) (at : Position) (first : Sink) (visits : ℕ) (now : Sink) (calm : List ℕ) (seen i : ℕ) : Type 0 where
  pub buffers : SameBuffers first now
  pub ready : Ready w.purpose (model w.tables.now) (held now).memo
  pub few : seen ≤ visit_limit
  pub same : on_from (does w) (groups w) (visit_link (groups w) at.left) at.inverse at.prefix row (going (held now) seen) i
      ≡ run (does w) (going (held first) visits) (walk (groups w) (visit_link (groups w) at.left) at.inverse at.prefix (rows_in (groups w) row))
  pub known : Calm (groups w) (dulls w) (held now) calm
  pub grown : Grown (held first) (held now)

module _ (w : Walk) (row : ℕ) (at : Position) (first : Sink) (visits : ℕ) where
  abbrev deeper : Visit
  deeper = visit_link (groups w) at.left

  abbrev all-rows : State
  all-rows = run (does w) (going (held first) visits) (walk (groups w) deeper at.inverse at.prefix (rows_in (groups w) row))

  pub onward_start : (calm : List ℕ) → TypeReady w (held first) calm at visits → Onward w row at first visits first calm visits 0
  onward_start calm s =
      record {
        buffers = buffers-nothing first;
        ready = s.ready;
        few = s.few;
        same = rw (rows_start (groups w) row);
        known = s.known;
        grown = grown-nothing (held first);
      }

  module _ (now : Sink) (calm : List ℕ) (seen i : ℕ) (o : Onward w row at first visits now calm seen i) where
    -- what is written behind what stands there now is behind what stood there
    pub all_behind : (u : Held) → Behind (held now) u → Behind (held first) u
    all_behind u = behind-then (held first) (held now) u o.grown

    -- no row is left
    module _ (l : length w.tables.now.e.now / width letter_e ≤ i) where
      pub ended : state_of (Some seen) (held now) ≡ all-rows
      unfolding state_of
      ended = sym (walk_end (does w) (groups w) deeper at.inverse at.prefix row i (held now) seen l o.few) ∙ o.same

      pub ended_calm : CalmAfter (Some seen) (groups w) (dulls w) (held now) calm
      unfolding CalmAfter
      ended_calm = o.known

    module _ (l : i < length w.tables.now.e.now / width letter_e) where
      pub passed : of_group w.tables.now.e.now row i ≡ false → Onward w row at first visits now calm seen (i + 1)
      passed b =
          record {
            buffers = o.buffers;
            ready = o.ready;
            few = o.few;
            same = row-passed (does w) (groups w) deeper at.inverse at.prefix row i l (held now) seen b ∙ o.same;
            known = o.known;
            grown = o.grown;
          }

      module _ (b : of_group w.tables.now.e.now row i ≡ true) where
        -- a feature of its own
        pub listed : get_or w.links.now.nested.now i 0 ≡ missing → (u : Sink) → SameBuffers now u
            → held u ≡ does w (feature_at w.tables.now.e.now at.inverse at.prefix i) (held now) → Onward w row at first visits u calm seen (i + 1)
        listed k u z d =
            let f : Feature = feature_at w.tables.now.e.now at.inverse at.prefix i in
            record {
              buffers = buffers-then first now u o.buffers z;
              ready = subst (λ (h : Held). Ready w.purpose (model w.tables.now) h.memo) (sym d) (taken-ready w.purpose (model w.tables.now) f (held now) o.ready);
              few = o.few;
              same = row_listed (does w) (groups w) deeper at.inverse at.prefix row i l (held now) seen b k o.few (held u) d ∙ o.same;
              known = subst (λ (h : Held). Calm (groups w) (dulls w) h calm) (sym d) (calm-stays (does w) (dulls w) (law w) (groups w) f (held now) calm o.known);
              grown = subst (Grown (held first)) (sym d) (grown-then (held first) (held now) (does w f (held now)) o.grown (grows (model w.tables.now) w.purpose f (held now)));
            }

        -- a nested group type
        module _ (k : get_or w.links.now.nested.now i 0 ≡ missing → ⊥) (r : Option ℕ) (u : Sink)
            (a : state_of r (held u) ≡ run (does w) (going (held now) seen) (deeper (get_or w.links.now.nested.now i 0) at.inverse (at.prefix ++ e_name (model w.tables.now) i ∷ []))) where
          pub stopped : r ≡ None → state_of None (held u) ≡ all-rows
          unfolding state_of
          stopped q = row-over (does w) (groups w) deeper at.inverse at.prefix row i l (held now) seen b k r (held u) a q ∙ o.same

          pub nested : SameBuffers now u → (calm₂ : List ℕ) → CalmAfter r (groups w) (dulls w) (held u) calm₂ → (v : ℕ) → r ≡ Some v
              → Onward w row at first visits u calm₂ v (i + 1)
          nested z calm₂ c v q =
              let p : Purpose = w.purpose in
              let m : Tables = model w.tables.now in
              let good : Ready p m (held u).memo × (v ≤ visit_limit) = part-good p m r (held u) (held now) seen _ a v q o.ready in
              record {
                buffers = buffers-then first now u o.buffers z;
                ready = good.0;
                few = good.1;
                same = row_done (does w) (groups w) deeper at.inverse at.prefix row i l (held now) seen b k r (held u) a v q ∙ o.same;
                known = after-done (groups w) (dulls w) r (held u) calm₂ v q c;
                grown = grown-then (held first) (held now) (held u) o.grown (part-grown p m r (held u) (held now) seen _ a v q);
              }
