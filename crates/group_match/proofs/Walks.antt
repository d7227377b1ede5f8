-- The walks of both ends of a connection: what each function of the code leaves. Assumes nothing.
use mathlib.Core.Bool.{Bool, true, false, ◌||◌}
use mathlib.Core.Path.{◌≡◌, refl, sym, ap, ap₂, ◌∙◌}
use mathlib.Core.List.{List, [], ◌++◌, map}
use Prim.Native.Nat.{ℕ, suc, ◌+◌, ◌≤◌}
use native.Mathlib.Nat.{zero-add}
use native.Mathlib.Omega.{arith}
use borrow.Author.Tests.{lt-ltb, le-ltb}
use lib.ListN.{length, take, drop, length-append}
use lib.Seq.{sets, sets-eq, take_at}
use Rattle.std.specs.Prelude.{Option, Some, None}
use Rattle.as5506.specs.Lists.{zeros}
use Rattle.as5506.specs.Tables.{Tables, missing, letter_u, count, ref}
use Rattle.as5506.specs.Groups.{Feature, Expansion, too_many_visits, depth_limit, expand_feature_group, expand}
use Rattle.as5506.specs.GroupList.{GroupConnection, group_overrun, matches_by, diags_matched, endpoint}
use Rattle.as5506.specs.Layout.{feature_block}
use Rattle.as5506.proofs.Laws.{All, each_map}
use Rattle.lent.specs.Append.{Filled, filled, append_all, together}
use Rattle.lent.specs.Model.{model}
use Rattle.lent.proofs.Pieces.{all_fit}
use Rattle.links.specs.declared.Links.{Links}
use Rattle.links.specs.Links.{link_of, LinkedBy}
use Rattle.links.specs.Walk.{Groups, groups_of, visit_link}
use Rattle.links.proofs.Walk.{linked}
use Rattle.sink.specs.declared.Matching.{Matching}
use Rattle.sink.specs.declared.Purpose.TheVariants.{Count, First, Match as Matches}
use Rattle.sink.specs.declared.Tally.{Tally}
use Rattle.sink.specs.Take.{nothing_used, Held, taken, Ready}
use Rattle.group_walk.specs.declared.Walk.{Walk}
use Rattle.group_walk.specs.Run.{Take, going, run, state_of}
use Rattle.group_walk.specs.Walks.{groups, dulls, VisitReady}
use Rattle.group_walk.proofs.Laws.{run-done, run-over}
use Rattle.group_walk.proofs.Calm.{calm-zeros}
use Rattle.endpoint.specs.declared.Group.{Group}
use Rattle.endpoint.specs.Ends.{expanded}
use Rattle.group_match.specs.declared.GroupConnection.{GroupConnection as Pair}
use Rattle.group_match.specs.Matching.{group_at, between, match_pieces, note_pieces, Lists, over, lists, after_by, after}
use Rattle.group_match.specs.Firsts.{firsts, first_blocks, KeepsFirsts}
use Rattle.group_match.specs.Walked.{cleared, walked_from, lists_in, listed, connection_of}
use Rattle.group_match.specs.Ready.{RoomReady}
use Rattle.group_match.proofs.Range.{Fine, expansion-fine}
use Rattle.group_match.proofs.Firsts.{wrote-firsts}
use Rattle.group_match.proofs.Partners.{few-firsts, blocks-firsts, few-kept, partner-kept, Leaves, leaves_none, leaves-matches, ready-zeros}

-- ---- what a link means

abbrev pub expansion : Groups → ℕ → Expansion
expansion g to = visit_link g (suc depth_limit) to false []

-- the link of an end: z is what `endpoint` gave
module _ (m : Tables) (component feature : ℕ) (few : count m letter_u ≤ 4096) where
  pub link_missing : (r : Option ℕ) → r ≡ None → None ≡ endpoint m component feature → (l : Links) → LinkedBy m l → group_at (groups_of m l) r ≡ endpoint m component feature
  unfolding group_at
  link_missing r q e l k = rw q e

  pub link_found : (z : Group) (v : ℕ) → Some (expanded m z) ≡ endpoint m component feature → v ≡ link_of m z.package (ref missing z.type_name missing) → (l : Links) → LinkedBy m l → group_at (groups_of m l) (Some v) ≡ endpoint m component feature
  unfolding expand expand_feature_group group_at
  link_found z v e f l k =
      ap (λ (v : ℕ). Some (expansion (groups_of m l) v)) f
      ∙ ap Some (linked m l.nested.now l.extends.now l.inverse.now k few (suc depth_limit) z.package (ref missing z.type_name missing) false [])
      ∙ e

-- ---- `walk_group`: it clears before it visits

pub visit_ready : (w : Walk) (h : Held) (memo : List ℕ) → memo ≡ zeros (length h.memo) → Ready w.purpose (model w.tables.now) (cleared h).memo
    → (calm : List ℕ) (n : ℕ) → calm ≡ zeros n → VisitReady w (record { memo = memo; out = h.out; notes = h.notes }) calm
visit_ready w h memo e r calm n f = record { ready = rw e r; known = rw f (calm-zeros (groups w) (dulls w) _ n) }

-- ---- `keep_firsts`

pub ready_first : (m : Tables) (memo : List ℕ) → Ready First m memo
unfolding Ready
ready_first m memo = tt

pub ready_count : (m : Tables) (memo : List ℕ) → Ready Count m memo
unfolding Ready
ready_count m memo = tt

module _ (m : Tables) (g : Groups) (own : g.e ≡ m.e) (to : ℕ) (memo kept : List ℕ) (room : RoomReady m memo kept) (t : Held) (y : Tally) (new : y ≡ nothing_used) where
  abbrev x : Expansion
  x = expansion g to

  abbrev begun : Held
  begun = record { memo = memo; out = filled kept y.used; notes = filled [] y.noted }

  pub firsts_over : state_of None t ≡ run (taken First m) (going (cleared begun) 0) x → too_many_visits x ≡ true
  firsts_over e = lt-ltb 65536 x.visits (omega (arith, run-over (taken First m) t (cleared begun) 0 x e))

  fine : All (Fine (length memo)) x.features
  fine = expansion-fine g (length memo) (rw own room.names) to

  module _ (v : ℕ) (e : state_of (Some v) t ≡ run (taken First m) (going (cleared begun) 0) x) where
    abbrev blocks : List ℕ
    blocks = first_blocks (length memo) x

    fits : length blocks ≤ length kept
    fits = omega (arith, blocks-firsts m (length memo) x fine, few-firsts m (length memo) x fine, room.room)

    -- there is room for all blocks
    whole : t.out ≡ filled (sets kept 0 blocks) (Some (0 + length blocks))
    whole =
        let gs : List Feature = firsts (zeros (length memo)) x.features in
        let one : together (map feature_block gs) ≡ blocks = each_map (λ (p : List ℕ). p) feature_block gs in
        ap (λ (h : Held). h.out) (run-done (taken First m) v t (cleared begun) 0 x e).0
        ∙ wrote-firsts m x.features (cleared begun)
        ∙ ap (λ (z : Tally). append_all (map feature_block gs) (filled kept z.used)) new
        ∙ all_fit (map feature_block gs) kept 0 (omega (arith, fits, ap length one))
        ∙ ap (λ (l : List ℕ). filled (sets kept 0 l) (Some (0 + length l))) one

    -- z tells what is used, and `out` is what the slice holds then
    pub firsts_kept : (z : Option ℕ) → z ≡ t.out.used → (out : List ℕ) → out ≡ t.out.holds → KeepsFirsts x z (length memo) out
    firsts_kept z q out f =
        let used : z ≡ Some (length blocks) = q ∙ ap (λ (o : Filled ℕ). o.used) whole ∙ ap (λ (n : ℕ). Some n) (zero-add (length blocks)) in
        let front : out ≡ blocks ++ drop (0 + length blocks) kept = f ∙ ap (λ (o : Filled ℕ). o.holds) whole ∙ sets-eq blocks kept 0 (omega (arith, fits)) in
        rw (used, front) (
          le-ltb 65536 x.visits (omega (arith, (run-done (taken First m) v t (cleared begun) 0 x e).2)),
          omega (arith, length-append blocks (drop (0 + length blocks) kept)),
          take_at blocks (drop (0 + length blocks) kept) (length blocks) refl,
        )

-- ---- `walk_source`

module _ (f : Take) (g : Groups) (a : Option ℕ) (h : Held) where
  pub source_none : a ≡ None → state_of (Some 0) h ≡ walked_from f (group_at g a) h
  unfolding state_of walked_from group_at
  source_none q = rw q

  pub source_walked : (from : ℕ) → a ≡ Some from → (z : Option ℕ) (t : Held) → state_of z t ≡ run f (going (cleared h) 0) (expansion g from) → state_of z t ≡ walked_from f (group_at g a) h
  unfolding walked_from group_at
  source_walked from q z t e = rw q e

-- ---- `match_groups`

or-true : (a : Bool) → a || true ≡ true
or-true true = refl
or-true false = refl

module _ (m : Tables) (conn src dst : ℕ) (d : Option Expansion) where
  abbrev b : Option Expansion → GroupConnection
  b a = between conn src dst a d

  over-destination : group_overrun d ≡ true → (a : Option Expansion) (rows notes : Filled ℕ) → over ≡ after m (b a) (lists rows notes)
  unfolding after after_by
  over-destination e a rows notes = sym (ap (λ (y : Bool). after_by y (matches_by m (b a) a d) rows notes) (ap (λ (y : Bool). group_overrun a || y) e ∙ or-true (group_overrun a)))

  within : (a : Option Expansion) → group_overrun a ≡ false → group_overrun d ≡ false → (rows notes : Filled ℕ)
      → after m (b a) (lists rows notes) ≡ lists (append_all (match_pieces (matches_by m (b a) a d)) rows) (append_all (note_pieces (matches_by m (b a) a d)) notes)
  unfolding after after_by
  within a s e rows notes = ap₂ (λ (y z : Bool). after_by (y || z) (matches_by m (b a) a d) rows notes) s e

  module _ (f : Take) (few : group_overrun d ≡ false) (leaves : Leaves m conn src dst d f) (h t : Held) where
    matched-by : (a : Option Expansion) (z : Option ℕ) → state_of z t ≡ walked_from f a h → listed z t ≡ after m (b a) (lists_in h)
    unfolding walked_from state_of listed matches_by match_pieces note_pieces diags_matched append_all after_by after Leaves
    matched-by None None e = cc
    matched-by None (Some v) e = let q : t ≡ h = cc in ap lists_in q ∙ sym (within None refl few h.out h.notes)
    matched-by (Some s) None e =
        sym (ap (λ (y : Bool). after_by (y || group_overrun d) (matches_by m (b (Some s)) (Some s) d) h.out h.notes)
        (lt-ltb 65536 s.visits (omega (arith, run-over f t (cleared h) 0 s e))))
    matched-by (Some s) (Some v) e =
        let r = run-done f v t (cleared h) 0 s e in
        let left = leaves (Some s) s (cleared h) in
        ap₂ lists (ap (λ (a : Held). a.out) r.0 ∙ left.0) (ap (λ (a : Held). a.notes) r.0 ∙ left.1)
        ∙ sym (within (Some s) (le-ltb 65536 s.visits (omega (arith, r.2))) few h.out h.notes)

module _ (m : Tables) (g : Groups) (own : g.e ≡ m.e) (pair : Pair) (h t : Held) where
  abbrev gives : Lists
  gives = after m (connection_of g pair) (lists_in h)

  -- the destination has no group
  pub matched_none : pair.to ≡ None → (z : Option ℕ) → state_of z t ≡ walked_from (taken Count m) (group_at g pair.from) h → listed z t ≡ gives
  unfolding group_at
  matched_none q z f = rw q (matched-by m pair.connection pair.source pair.destination None (taken Count m) refl (leaves_none m pair.connection pair.source pair.destination) h t (group_at g pair.from) z f)

  module _ (to : ℕ) (there : pair.to ≡ Some to) (memo kept : List ℕ) (room : RoomReady m memo kept) (kept' : List ℕ) where
    pub matched_over : (r z : Option ℕ) → r ≡ None → z ≡ None → KeepsFirsts (expansion g to) r (length memo) kept' → listed z t ≡ gives
    unfolding listed group_at
    matched_over r z e f k =
        let over-many : too_many_visits (expansion g to) ≡ true = rw e at k in
        rw (f, there) (over-destination m pair.connection pair.source pair.destination (Some (expansion g to)) over-many (group_at g pair.from) h.out h.notes)

    -- so many numbers are kept
    module _ (used : ℕ) (k : KeepsFirsts (expansion g to) (Some used) (length memo) kept') where
      sound : All (Fine (length memo)) (expansion g to).features
      sound = expansion-fine g (length memo) (rw own room.names) to

      pub matching_ready : (q : Matching) → q.kept.now ≡ take used kept' → (size : ℕ) → Ready (Matches q) m (zeros size)
      matching_ready q e size = ready-zeros m q size (rw (e, k.2) (omega (arith, few-kept m (length memo) (expansion g to) sound, room.few)))

      pub matched_both : (q : Matching) → q.connection ≡ pair.connection → q.source ≡ pair.source → q.destination ≡ pair.destination → q.kept.now ≡ take used kept'
          → (z : Option ℕ) → state_of z t ≡ walked_from (taken (Matches q) m) (group_at g pair.from) h → listed z t ≡ gives
      unfolding group_at
      matched_both q ec es ed e z f =
          let kept-is : q.kept.now ≡ first_blocks (length memo) (expansion g to) = e ∙ k.2 in
          rw (there, ← ec, ← es, ← ed)
          (matched-by m q.connection q.source q.destination (Some (expansion g to)) (taken (Matches q) m) k.0
          (leaves-matches m q (expansion g to) (rw kept-is (partner-kept m (length memo) (expansion g to) sound))) h t (group_at g pair.from) z f)

-- what `walk_source` goes by
pub ruleset source_steps = (source_none, source_walked)
