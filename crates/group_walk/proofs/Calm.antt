-- Laws of what a walk knows already, for any doing with a feature that keeps to `Passing`: a visit that is known changes nothing, what is known stays
-- true, and a visit that left the use of both outputs as it was may be known from then on. Callers start by `calm-zeros`. Assumes nothing.
use mathlib.Core.Bool.{Bool, true, false, not}
use mathlib.Core.Logic.{inl, inr}
use mathlib.Core.Path.{◌≡◌, refl, sym, ap, ap₂, ◌∙◌, subst}
use mathlib.Core.List.{List, [], ◌∷◌, ◌++◌, map, map-append}
use Prim.Native.Nat.{ℕ, zero, suc, ◌+◌, ◌*◌, ◌-◌, ◌≤◌, ◌<◌}
use native.Mathlib.Omega.{arith}
use borrow.Author.Tests.{le-leb, lt-leb}
use lib.Dec.{ltb}
use lib.ListN.{get_or, set}
use Rattle.as5506.specs.Lists.{zeros}
use Rattle.as5506.specs.Followed.{In}
use Rattle.as5506.specs.Tables.{Tables, present}
use Rattle.as5506.specs.Groups.{Feature, Expansion, joined, one_visit}
use Rattle.as5506.proofs.Laws.{All, all_in, in_all, all-mapped, mapped-all}
use Rattle.lent.specs.Append.{Filled}
use Rattle.lent.proofs.Sets.{get_or-zeros, placed}
use Rattle.lent.proofs.Pieces.{NoLess, Extended}
use Rattle.links.specs.Links.{unfound}
use Rattle.links.specs.Walk.{Groups, Visit, row_by, walk, rows_in, extended_by, type_by, found_by, visit_link}
use Rattle.sink.specs.declared.Purpose.{Purpose}
use Rattle.sink.specs.Take.{Held, taken}
use Rattle.sink.specs.Dull.{Dull}
use Rattle.sink.proofs.Dull.{Grown, same, stays, quiet, grows}
use Rattle.std.specs.Prelude.{Option, Some, None}
use Rattle.std.proofs.lemmas.Option.{same_Some}
use Rattle.group_walk.specs.Run.{Take, take_all, visit_limit, over, going, going_by, run, state_of}
use Rattle.group_walk.specs.Calm.{Dullness, AllDull, CalmAt, levels, Calm, CalmAfter}
use Rattle.group_walk.proofs.Laws.{run-done, all-grow}

-- ---- what a visit makes, whatever the inverse flag and the prefix

abbrev names : Expansion → List ℕ
names x = map (λ (f : Feature). f.name) x.features

record Alike (x y : Expansion) : Type 0 where
  count : x.visits ≡ y.visits
  named : names x ≡ names y

alike_same : (x : Expansion) → Alike x x
alike_same x = record { count = refl; named = refl }

-- a visit of which nothing but the features' directions and prefixes depends on the two
abbrev Steady : Visit → Type 0
Steady visit = (u : ℕ) (i j : Bool) (p q : List ℕ) → Alike (visit u i p) (visit u j q)

alike-more : (x y : Expansion) (xs ys : List Expansion) → Alike x y → Alike (joined xs) (joined ys) → Alike (joined (x ∷ xs)) (joined (y ∷ ys))
alike-more x y xs ys a b =
    record {
      count = ap₂ (λ (m n : ℕ). m + n) a.count b.count;
      named =
          map-append _ x.features (joined xs).features ∙ ap₂ (λ (m n : List ℕ). m ++ n) a.named b.named
          ∙ sym (map-append _ y.features (joined ys).features);
    }

alike_both : (x y v w : Expansion) → Alike x y → Alike v w → Alike (joined (x ∷ v ∷ [])) (joined (y ∷ w ∷ []))
alike_both x y v w a b = alike-more x y (v ∷ []) (w ∷ []) a (alike-more v w [] [] b (alike_same (joined [])))

module _ (g : Groups) (visit : Visit) (steady : Steady visit) (i j : Bool) (p q : List ℕ) where
  row-alike : (b : Bool) (e : ℕ) → Alike (row_by b g visit i p e) (row_by b g visit j q e)
  unfolding row_by
  row-alike true e = steady _ i j _ _
  row-alike false e = record { count = refl; named = refl }

  abbrev part : Bool → List ℕ → ℕ → Expansion
  part i p e = row_by (present (get_or g.nested e 0)) g visit i p e

  walk-alike : (rows : List ℕ) → Alike (walk g visit i p rows) (walk g visit j q rows)
  unfolding walk
  walk-alike [] = alike_same (joined [])
  walk-alike (e ∷ rows) = alike-more (part i p e) (part j q e) (map (part i p) rows) (map (part j q) rows) (row-alike (present (get_or g.nested e 0)) e) (walk-alike rows)

  extended-alike : (b : Bool) (u : ℕ) → Alike (extended_by b g visit i p u) (extended_by b g visit j q u)
  unfolding extended_by
  extended-alike true u = steady _ i j p q
  extended-alike false u = alike_same (joined [])

  type-alike : (b : Bool) (u : ℕ) → Alike (type_by b g visit i p u) (type_by b g visit j q u)
  unfolding type_by
  type-alike true u = steady _ (not i) (not j) p q
  type-alike false u = alike_both _ _ _ _ (extended-alike (present (get_or g.extends u 0)) u) (walk-alike (rows_in g u))

  found_alike : (b : Bool) (u : ℕ) → Alike (found_by b g visit i p u) (found_by b g visit j q u)
  unfolding found_by
  found_alike true u = type-alike (present (get_or g.inverse u 0)) u
  found_alike false u = alike_same (joined [])

visit-alike : (g : Groups) (left : ℕ) → Steady (visit_link g left)
unfolding visit_link
visit-alike g zero u i j p q = alike_same one_visit
visit-alike g (suc left) u i j p q = alike_both one_visit one_visit _ _ (alike_same one_visit) (found_alike g (visit_link g left) (visit-alike g left) i j p q (ltb u unfound) u)

dull-alike : (dull : Dullness) (h : Held) (x y : Expansion) → Alike x y → AllDull dull h x → AllDull dull h y
dull-alike dull h x y a d =
    let P : Feature → Type 0 = λ f. dull f.name h in
    let Q : ℕ → Type 0 = λ k. dull k h in
    let named : All Q (names x) = all-mapped P Q (λ f. f.name) (λ f z. z) x.features (in_all P x.features d) in
    all_in P y.features (mapped-all P Q (λ f. f.name) (λ f z. z) y.features (subst (All Q) a.named named))

-- ---- features that change nothing

-- what is done with a feature, and when nothing is
pub record Passing (does : Take) (dull : Dullness) : Type 0 where
  pub same : (f : Feature) (h : Held) → dull f.name h → does f h ≡ h
  pub stays : (f : Feature) (k : ℕ) (h : Held) → dull k h → dull k (does f h)
  pub quiet : (f : Feature) (h : Held) → (does f h).out.used ≡ h.out.used → (does f h).notes.used ≡ h.notes.used → dull f.name (does f h)
  pub grows : (f : Feature) (h : Held) → Grown h (does f h)

-- between two states of an output of which as much is used, no more is
used-between : (o n m : Filled ℕ) → Extended o n → Extended n m → m.used ≡ o.used → n.used ≡ o.used
used-between o n m a b = go o.used n.used m.used a.more b.more
  where
    go : (u v w : Option ℕ) → NoLess u v → NoLess v w → w ≡ u → v ≡ u
    go u None None a b e = e
    go u None (Some j) a b e = absurd (b.1 refl)
    go u (Some k) None a b e = absurd (a.1 (sym e))
    go None (Some k) (Some j) a b e = absurd (a.1 refl)
    go (Some i) (Some k) (Some j) a b e = ap Some (omega (arith, a.0, b.0, same_Some _ _ e))

pub passing : (p : Purpose) (m : Tables) → Passing (taken p m) (Dull p m)
passing p m = record { same = same m p; stays = stays m p; quiet = quiet m p; grows = grows m p }

-- with nothing known yet: for callers
pub calm-zeros : (g : Groups) (dull : Dullness) (h : Held) (n : ℕ) → Calm g dull h (zeros n)
unfolding Calm CalmAt
calm-zeros g dull h n u b l = rw (get_or-zeros n (u * levels + b)) tt

module _ (does : Take) (dull : Dullness) (law : Passing does dull) where
  all_same : (fs : List Feature) (h : Held) → ((f : Feature) → In f fs → dull f.name h) → take_all does fs h ≡ h
  unfolding take_all
  all_same [] h d = refl
  all_same (f ∷ fs) h d = ap (take_all does fs) (law.same f h (d f (inl refl))) ∙ all_same fs h (λ a i. d a (inr i))

  all_stay : (fs : List Feature) (k : ℕ) (h : Held) → dull k h → dull k (take_all does fs h)
  unfolding take_all
  all_stay [] k h d = d
  all_stay (f ∷ fs) k h d = all_stay fs k (does f h) (law.stays f k h d)

  -- what leaves the use of both outputs as it was does nothing from then on
  all_quiet : (fs : List Feature) (h : Held) → (take_all does fs h).out.used ≡ h.out.used → (take_all does fs h).notes.used ≡ h.notes.used
      → All (λ f. dull f.name (take_all does fs h)) fs
  unfolding take_all
  all_quiet [] h x y = tt
  all_quiet (f ∷ fs) h x y =
      let one : Grown h (does f h) = law.grows f h in
      let rest : Grown (does f h) (take_all does fs (does f h)) = all-grow does law.grows fs (does f h) in
      let out : (does f h).out.used ≡ h.out.used = used-between h.out (does f h).out _ one.added-out rest.added-out x in
      let notes : (does f h).notes.used ≡ h.notes.used = used-between h.notes (does f h).notes _ one.added-notes rest.added-notes y in
      (all_stay fs f.name (does f h) (law.quiet f h out notes), all_quiet fs (does f h) (x ∙ sym out) (y ∙ sym notes))

  -- ---- the table

  module _ (g : Groups) where
    at-stays : (f : Feature) (h : Held) (u b k : ℕ) → CalmAt g dull h u b k → CalmAt g dull (does f h) u b k
    unfolding CalmAt
    at-stays f h u b zero c = tt
    at-stays f h u b (suc k) c = λ i p. ((c i p).0, λ a z. law.stays f a.name h ((c i p).1 a z))

    -- a feature keeps what is known
    pub calm-stays : (f : Feature) (h : Held) (calm : List ℕ) → Calm g dull h calm → Calm g dull (does f h) calm
    unfolding Calm
    calm-stays f h calm c u b l = at-stays f h u b (get_or calm (u * levels + b) 0) (c u b l)

    -- ---- a visit that is known

    abbrev Makes : Held → ℕ → ℕ → ℕ → Type 0
    Makes h left u k = (i : Bool) (p : List ℕ) → ((visit_link g left u i p).visits ≡ k) × AllDull dull h (visit_link g left u i p)

    at-makes : (h : Held) (u b k : ℕ) → (k ≡ 0 → ⊥) → CalmAt g dull h u b k → Makes h (suc b) u k
    unfolding CalmAt
    at-makes h u b zero z c = absurd (z refl)
    at-makes h u b (suc k) z c = c

    makes-at : (h : Held) (u b k : ℕ) → Makes h (suc b) u k → CalmAt g dull h u b k
    unfolding CalmAt
    makes-at h u b zero m = tt
    makes-at h u b (suc k) m = m

    module _ (h : Held) (calm : List ℕ) (c : Calm g dull h calm) (u k : ℕ) (q : k ≡ 0 → ⊥) where
      known-makes : (left : ℕ) → (left ≡ 0 → ⊥) → left ≤ levels → k ≡ get_or calm (u * levels + (left - 1)) 0 → Makes h left u k
      unfolding Calm
      known-makes zero z l e = absurd (z refl)
      known-makes (suc b) z l e =
          let o : suc b - 1 ≡ b = omega arith in
          at-makes h u b k q (subst (CalmAt g dull h u b) (sym (e ∙ ap (λ (d : ℕ). get_or calm (u * levels + d) 0) o)) (c u b (omega (arith, l))))

      module _ (left : ℕ) (z : left ≡ 0 → ⊥) (l : left ≤ levels) (e : k ≡ get_or calm (u * levels + (left - 1)) 0) (i : Bool) (p : List ℕ) (visits : ℕ) where
        pub known_over : visit_limit < visits + k → over ≡ run does (going h visits) (visit_link g left u i p)
        unfolding run going_by
        known_over m = let x : (visit_link g left u i p).visits ≡ k = (known-makes left z l e i p).0 in rw (x, lt-leb (visits + k) visit_limit m)

        pub known-done : visits + k ≤ visit_limit → going h (visits + k) ≡ run does (going h visits) (visit_link g left u i p)
        unfolding run going_by
        known-done m =
            let x : ((visit_link g left u i p).visits ≡ k) × AllDull dull h (visit_link g left u i p) = known-makes left z l e i p in
            rw (x.0, le-leb (visits + k) visit_limit m, all_same (visit_link g left u i p).features h x.1)

    -- ---- a visit that is found to change nothing

    -- one number for each group type and level
    one_place : (u b v d : ℕ) → b < levels → d < levels → u * levels + b ≡ v * levels + d → (u ≡ v) × (b ≡ d)
    one_place u b v d l m e = (omega (arith, l, m, e), omega (arith, l, m, e))

    -- a number that says what is true may stand in the table
    calm_put : (h : Held) (calm : List ℕ) (u b k : ℕ) → b < levels → CalmAt g dull h u b k → Calm g dull h calm → Calm g dull h (set calm (u * levels + b) k)
    unfolding Calm
    calm_put h calm u b k l m c v d n = placed calm (u * levels + b) k (v * levels + d) (CalmAt g dull h v d) (c v d n) (λ e. here (one_place u b v d l n e))
      where
        here : (u ≡ v) × (b ≡ d) → CalmAt g dull h v d k
        here w = subst (λ (x : ℕ). CalmAt g dull h x d k) w.0 (subst (λ (x : ℕ). CalmAt g dull h u x k) w.1 m)

    module _ (v : ℕ) (after h : Held) (k u left : ℕ) (z : left ≡ 0 → ⊥) (l : left ≤ levels) (i : Bool) (p : List ℕ)
        (e : state_of (Some v) after ≡ run does (going h k) (visit_link g left u i p)) where
      abbrev visited : Expansion
      visited = visit_link g left u i p

      quiet-makes : after.out.used ≡ h.out.used → after.notes.used ≡ h.notes.used → Makes after left u (v - k)
      quiet-makes a n j q =
          let d : (after ≡ take_all does visited.features h) × (v ≡ k + visited.visits) × (k + visited.visits ≤ visit_limit) = run-done does v after h k visited e in
          let all : All (λ f. dull f.name (take_all does visited.features h)) visited.features =
          all_quiet visited.features h (ap (λ (w : Held). w.out.used) (sym d.0) ∙ a) (ap (λ (w : Held). w.notes.used) (sym d.0) ∙ n) in
          let dulls : AllDull dull after visited =
          all_in (λ f. dull f.name after) visited.features (subst (λ (w : Held). All (λ f. dull f.name w) visited.features) (sym d.0) all) in
          let like : Alike visited (visit_link g left u j q) = visit-alike g left u i j p q in
          (omega (arith, like.count, d.1), dull-alike dull after visited (visit_link g left u j q) like dulls)

      made-put : (n : ℕ) → (n ≡ 0 → ⊥) → n ≤ levels → (calm : List ℕ) → Makes after n u (v - k) → Calm g dull after calm
          → Calm g dull after (set calm (u * levels + (n - 1)) (v - k))
      made-put zero z l calm m c = absurd (z refl)
      made-put (suc b) z l calm m c =
          let o : suc b - 1 ≡ b = omega arith in
          rw o (calm_put after calm u b (v - k) (omega (arith, l)) (makes-at after u b (v - k) m) c)

      pub quiet-put : (calm : List ℕ) → after.out.used ≡ h.out.used → after.notes.used ≡ h.notes.used → Calm g dull after calm
          → Calm g dull after (set calm (u * levels + (left - 1)) (v - k))
      quiet-put calm a n c = made-put left z l calm (quiet-makes a n) c

-- ---- an answer and what is known after it

pub after-done : (g : Groups) (dull : Dullness) (r : Option ℕ) (h : Held) (calm : List ℕ) (v : ℕ) → r ≡ Some v → CalmAfter r g dull h calm → Calm g dull h calm
unfolding CalmAfter
after-done g dull r h calm v e c = subst (λ (w : Option ℕ). CalmAfter w g dull h calm) e c
