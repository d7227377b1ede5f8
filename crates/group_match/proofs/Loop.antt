-- The loop over X rows: what is left of the group connections, from what is carried now, gives what all of them give. Assumes nothing.
use mathlib.Core.Bool.{Bool, true, false}
use mathlib.Core.Path.{◌≡◌, refl, sym, ap, ◌∙◌}
use mathlib.Core.List.{List, [], ◌∷◌, ◌++◌, append_assoc}
use Prim.Native.Nat.{ℕ, ◌+◌, ◌-◌, ◌<◌, ◌≤◌}
use native.Mathlib.Nat.{sub-zero}
use native.Mathlib.Omega.{arith}
use lib.Dec.{T}
use lib.ListN.{length}
use Rattle.std.specs.Prelude.{Option, Some, None}
use Rattle.as5506.specs.Lists.{span, keep, put_if, when, each}
use Rattle.as5506.specs.Tables.{Tables, x_count}
use Rattle.as5506.specs.Names.{Comparison}
use Rattle.as5506.specs.Refusals.{accepted}
use Rattle.as5506.specs.GroupList.{is_group_connection, GroupConnection, group_connections}
use Rattle.as5506.proofs.Scans.{span-next, keep-done}
use Rattle.tables.proofs.Facts.{facts}
use Rattle.links.specs.declared.Links.{Links}
use Rattle.sink.specs.declared.Sink.{Sink}
use Rattle.sink.specs.declared.Tally.{Tally}
use Rattle.sink.specs.Take.{nothing_used, Held, held}
use Rattle.lent.specs.Append.{filled}
use Rattle.group_match.specs.Matching.{Lists, over, lists, after, after_all, connection_at, connections_at, lists_of}
use Rattle.group_match.specs.Walked.{lists_in, listed}
use Rattle.group_match.specs.Ready.{RoomReady, MatchReady}

module _ (m : Tables) where
  -- ---- connections, one after the other

  all_after : (bs cs : List GroupConnection) (l : Lists) → after_all m (bs ++ cs) l ≡ after_all m cs (after_all m bs l)
  unfolding after_all
  all_after [] cs l = refl
  all_after (b ∷ bs) cs l = all_after bs cs (after m b l)

  -- an end that has too many visits is told, whatever comes after
  pub all-over : (bs : List GroupConnection) → after_all m bs over ≡ over
  unfolding after_all after
  all-over [] = refl
  all-over (b ∷ bs) = all-over bs

module _ (same : Comparison) (m : Tables) where
  -- those of the X rows from row i on
  abbrev pub connections_from : ℕ → List GroupConnection
  connections_from i = each (connection_at same m) (keep (is_group_connection m) (span i (x_count m - i)))

  put_first : (b : Bool) (x : ℕ) (xs : List ℕ) → each (connection_at same m) (put_if b x xs) ≡ each (connection_at same m) (when b x) ++ each (connection_at same m) xs
  put_first true x xs = sym (append_assoc (connection_at same m x) [] (each (connection_at same m) xs))
  put_first false x xs = refl

  from_next : (i : ℕ) → i < x_count m → connections_from i ≡ connections_at same m i ++ connections_from (i + 1)
  unfolding connections_at
  from_next i h =
      ap (λ (is : List ℕ). each (connection_at same m) (keep (is_group_connection m) is)) (span-next i (x_count m) h)
      ∙ put_first (is_group_connection m i) i (keep (is_group_connection m) (span (i + 1) (x_count m - (i + 1))))

  -- ---- the loop: h₀ is carried at first, and h before row i

  abbrev all : Held → Lists
  all h₀ = after_all m (group_connections same m) (lists_in h₀)

  pub record Goes (h₀ h : Held) (i : ℕ) : Type 0 where
    pub names : length h.memo ≡ length h₀.memo
    pub left : after_all m (connections_from i) (lists_in h) ≡ all h₀

  pub goes_start : (h : Held) → Goes h h 0
  unfolding group_connections connection_at
  goes_start h = record { names = refl; left = ap (λ (bs : List GroupConnection). after_all m bs (lists_in h)) (rw sub-zero) }

  module _ (h₀ h : Held) (i : ℕ) (k : Goes h₀ h i) where
    pub goes_end : x_count m ≤ i → lists_in h ≡ all h₀
    unfolding after_all
    goes_end e = sym (ap (λ (is : List ℕ). after_all m (each (connection_at same m) is) (lists_in h)) (keep-done (is_group_connection m) i (x_count m) e)) ∙ k.left

    module _ (e : i < x_count m) where
      one_more : after_all m (connections_from (i + 1)) (after_all m (connections_at same m i) (lists_in h)) ≡ all h₀
      one_more = sym (ap (λ (bs : List GroupConnection). after_all m bs (lists_in h)) (from_next i e) ∙ all_after m (connections_at same m i) (connections_from (i + 1)) (lists_in h)) ∙ k.left

      -- the row gives no connection
      pub goes_past : [] ≡ connections_at same m i → Goes h₀ h (i + 1)
      unfolding after_all
      goes_past n = record { names = k.names; left = ap (λ (bs : List GroupConnection). after_all m (connections_from (i + 1)) (after_all m bs (lists_in h))) n ∙ one_more }

      -- it gives one: z is the answer for it
      module _ (b : GroupConnection) (one : b ∷ [] ≡ connections_at same m i) (t : Held) (z : Option ℕ) (f : listed z t ≡ after m b (lists_in h)) where
        after-one : after_all m (connections_from (i + 1)) (listed z t) ≡ all h₀
        unfolding after_all
        after-one = ap (after_all m (connections_from (i + 1))) f ∙ ap (λ (bs : List GroupConnection). after_all m (connections_from (i + 1)) (after_all m bs (lists_in h))) one ∙ one_more

        pub goes_over : z ≡ None → over ≡ all h₀
        unfolding listed
        goes_over q = sym (all-over m (connections_from (i + 1))) ∙ (rw q at after-one)

        pub goes_on : (v : ℕ) → z ≡ Some v → length t.memo ≡ length h.memo → Goes h₀ t (i + 1)
        unfolding listed
        goes_on v q s = record { names = s ∙ k.names; left = rw q at after-one }

-- ---- the answer, with what the lent slices hold then

-- nothing is used of the outputs at first
pub all_new : (m : Tables) (bs : List GroupConnection) (rows notes : List ℕ) (y : Tally) → y ≡ nothing_used
    → after_all m bs (lists (filled rows y.used) (filled notes y.noted)) ≡ after_all m bs (lists (filled rows (Some 0)) (filled notes (Some 0)))
all_new m bs rows notes y e = ap (λ (t : Tally). after_all m bs (lists (filled rows t.used) (filled notes t.noted))) e

pub into_over : (r : Option Tally) (rows notes : List ℕ) (l : Lists) → r ≡ None → over ≡ l → lists_of r rows notes ≡ l
unfolding lists_of
into_over r rows notes l q e = rw q e

pub into_end : (s : Sink) (rows notes : List ℕ) (l : Lists) → lists_in (held s) ≡ l → rows ≡ s.out.now → notes ≡ s.notes.now → lists_of (Some s.tally) rows notes ≡ l
unfolding lists_of
into_end s rows notes l e a b = rw (a, b) e

-- a connection asks for what all ask for: the slices have the lengths that they had
pub room_ready : (m : Tables) → T (accepted m) → (links : Links) (memo₀ kept₀ memo kept : List ℕ) → MatchReady m links memo₀ kept₀ → length memo ≡ length memo₀ → length kept ≡ length kept₀ → RoomReady m memo kept
room_ready m ok links memo₀ kept₀ memo kept r a b =
    record { names = λ i h. omega (arith, (facts m ok).e-name i h, r.names, a); few = omega (arith, r.few, a); room = omega (arith, r.room, a, b) }
