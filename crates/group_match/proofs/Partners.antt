-- A search of what was kept finds the definition's partner, and a walk of a source leaves its matches. Assumes nothing.
use mathlib.Core.Bool.{Bool, true, false}
use mathlib.Core.Path.{◌≡◌, refl, sym, ap, subst, ◌∙◌}
use mathlib.Core.List.{List, [], ◌∷◌, ◌++◌, map, append_assoc, append-nil}
use Prim.Native.Nat.{ℕ, suc, ◌+◌, ◌*◌, ◌≤◌}
use native.Mathlib.Omega.{arith}
use native.Mathlib.Nat.{add-zero}
use lib.ListN.{length, get_or, take, drop, length-replicate}
use lib.Seq.{get_or-drop, drop-drop, take_at, drop_at}
use Rattle.std.specs.Prelude.{Option, Some, None}
use Rattle.as5506.specs.Lists.{span, keep, put_if, first_of, up_to, each, zeros, same_bytes}
use Rattle.as5506.specs.Tables.{Tables}
use Rattle.as5506.specs.Names.{key}
use Rattle.as5506.specs.Groups.{Feature, Expansion, depth_limit}
use Rattle.as5506.specs.GroupList.{GroupConnection, Match, partner, matches_by, match_diag, diags_matched}
use Rattle.as5506.specs.Rows.{Diag}
use Rattle.as5506.specs.Layout.{feature_numbers, feature_block, diag_block}
use Rattle.as5506.proofs.Laws.{All, all_map}
use Rattle.lent.specs.Append.{append, append_all}
use Rattle.lent.proofs.Sets.{get_or-zeros}
use Rattle.sink.specs.declared.Matching.{Matching}
use Rattle.sink.specs.declared.Purpose.TheVariants.{Count, Match as Matches}
use Rattle.sink.specs.Take.{Held, kept_name, kept_count, partner_of, match_block, match_by, taken, Remembered, Memory, Ready}
use Rattle.sink.proofs.Blocks.{block-length, blocks-length}
use Rattle.group_walk.specs.Run.{Take, take_all}
use Rattle.group_match.specs.Matching.{between, match_piece, match_pieces, note_pieces}
use Rattle.group_match.specs.Firsts.{firsts, first_blocks}
use Rattle.group_match.proofs.Range.{Fine}
use Rattle.group_match.proofs.Firsts.{named, firsts-few, all_firsts, first-of-firsts}

-- ---- a search of the blocks

module _ (kept : List ℕ) where
  -- the place that is found holds the feature that is found
  abbrev pub Agrees : Option ℕ → Option Feature → Type 0
  Agrees None None = Unit {0}
  Agrees None (Some d) = ⊥
  Agrees (Some i) None = ⊥
  Agrees (Some i) (Some d) = take feature_numbers (drop (i * feature_numbers) kept) ≡ feature_block d

  module _ (p : ℕ → Bool) where
    abbrev test : ℕ → Bool
    test i = p (kept_name kept i)

    here : (b : Bool) (i : ℕ) (d : Feature) (is : List ℕ) (ds : List Feature) → take feature_numbers (drop (i * feature_numbers) kept) ≡ feature_block d
        → Agrees (first_of is) (first_of ds) → Agrees (first_of (put_if b i is)) (first_of (put_if b d ds))
    here true i d is ds e t = e
    here false i d is ds e t = t

    block-name : (d : Feature) (rest : List ℕ) → get_or (feature_block d ++ rest) 0 0 ≡ d.name
    unfolding feature_block
    block-name d rest = refl

    -- the blocks of ds stand in `kept` from place i on
    scan : (ds : List Feature) (i : ℕ) (rest : List ℕ) → All (λ d. length d.prefix ≤ depth_limit) ds
        → drop (i * feature_numbers) kept ≡ each feature_block ds ++ rest → Agrees (first_of (keep test (span i (length ds)))) (named p ds)
    scan [] i rest t q = tt
    scan (d ∷ ds) i rest t q =
        let after : List ℕ = each feature_block ds ++ rest in
        let e : drop (i * feature_numbers) kept ≡ feature_block d ++ after = q ∙ append_assoc (feature_block d) (each feature_block ds) rest in
        let n : kept_name kept i ≡ d.name =
        ap (λ (k : ℕ). get_or kept k 0) (sym (add-zero (i * feature_numbers))) ∙ sym (get_or-drop (i * feature_numbers) kept 0 0) ∙ ap (λ (l : List ℕ). get_or l 0 0) e ∙ block-name d after in
        let w : take feature_numbers (drop (i * feature_numbers) kept) ≡ feature_block d = ap (take feature_numbers) e ∙ take_at (feature_block d) after feature_numbers (block-length d t.0) in
        let s : suc i * feature_numbers ≡ i * feature_numbers + feature_numbers = omega arith in
        let m : drop (suc i * feature_numbers) kept ≡ after =
        ap (λ (k : ℕ). drop k kept) s ∙ sym (drop-drop feature_numbers (i * feature_numbers) kept) ∙ ap (drop feature_numbers) e ∙ drop_at (feature_block d) after feature_numbers (block-length d t.0) in
        rw n (here (p d.name) i d (keep test (span (suc i) (length ds))) (keep (λ d. p d.name) ds) w (scan ds (suc i) rest t.1 m))

-- ---- the blocks of first appearances, which are kept

module _ (m : Tables) (size : ℕ) (x : Expansion) (fine : All (Fine size) x.features) where
  abbrev gs : List Feature
  gs = firsts (zeros size) x.features

  pub firsts-short : All (λ d. length d.prefix ≤ depth_limit) gs
  firsts-short =
      all_firsts (λ d. length d.prefix ≤ depth_limit) x.features (zeros size)
      (all_map (Fine size) (λ d. length d.prefix ≤ depth_limit) (λ d t. t.prefix-short) x.features fine)

  pub few-firsts : length gs ≤ size
  few-firsts = subst (λ (k : ℕ). length gs ≤ k) (length-replicate size 0) (firsts-few x.features (zeros size) (subst (λ (k : ℕ). All (Fine k) x.features) (sym (length-replicate size 0)) fine))

  pub blocks-firsts : length (first_blocks size x) ≡ length gs * feature_numbers
  blocks-firsts = blocks-length gs firsts-short

  count-firsts : kept_count (first_blocks size x) ≡ length gs
  count-firsts = omega (arith, blocks-firsts)

  pub few-kept : kept_count (first_blocks size x) ≤ size
  few-kept = omega (arith, count-firsts, few-firsts)

  -- the search for a partner among them finds the definition's
  pub partner-kept : (f : Feature) → Agrees (first_blocks size x) (partner_of m (first_blocks size x) f.name) (partner m f x.features)
  unfolding partner_of partner
  partner-kept f =
      let p : ℕ → Bool = λ k. same_bytes (key m f.name) (key m k) in
      let kept : List ℕ = first_blocks size x in
      subst (λ (o : Option Feature). Agrees kept (first_of (keep (test kept p) (up_to (kept_count kept)))) o)
      (first-of-firsts p x.features (zeros size) (λ k z. absurd (z (get_or-zeros size k))))
      (subst (λ (k : ℕ). Agrees kept (first_of (keep (test kept p) (up_to k))) (named p gs)) (sym count-firsts)
      (scan kept p gs 0 [] firsts-short (sym (append-nil kept))))

-- ---- what a walk of the source leaves, where each of its features finds its partner

-- what is done with each feature of a source leaves its matches with the destination d, whatever the outputs hold before
unfoldable pub Leaves : Tables → ℕ → ℕ → ℕ → Option Expansion → Take → Type 0
Leaves m conn src dst d take =
    (a : Option Expansion) (s : Expansion) (h : Held) →
    let ms : List Match = matches_by m (between conn src dst a d) (Some s) d in
    ((take_all take s.features h).out ≡ append_all (match_pieces ms) h.out) × ((take_all take s.features h).notes ≡ append_all (note_pieces ms) h.notes)

module _ (m : Tables) (q : Matching) (d : Expansion) (agrees : (f : Feature) → Agrees q.kept.now (partner_of m q.kept.now f.name) (partner m f d.features)) (a : Option Expansion) where
  abbrev b : GroupConnection
  b = between q.connection q.source q.destination a (Some d)

  abbrev ms : List Feature → List Match
  ms fs = map (λ f. record { connection = b; feature = f; partner = partner m f d.features }) fs

  abbrev doing : Take
  doing = taken (Matches q) m

  module _ (f : Feature) (h : Held) where
    row-by : (i : Option ℕ) (o : Option Feature) → Agrees q.kept.now i o → (rest : List (List ℕ))
        → append_all rest (match_by i q f h).out ≡ append_all (match_piece b f o ++ rest) h.out
    unfolding match_by match_piece append_all
    row-by None None t rest = refl
    row-by None (Some g) t rest = absurd t
    row-by (Some i) None t rest = absurd t
    row-by (Some i) (Some g) t rest = ap (λ (l : List ℕ). append_all rest (append (match_block q.connection q.source q.destination (feature_block f) l) h.out)) t

    note-by : (i : Option ℕ) (o : Option Feature) → Agrees q.kept.now i o → (rest : List Diag)
        → append_all (map diag_block rest) (match_by i q f h).notes ≡ append_all (map diag_block (match_diag b f o ++ rest)) h.notes
    unfolding match_by match_diag append_all
    note-by None None t rest = refl
    note-by None (Some g) t rest = absurd t
    note-by (Some i) None t rest = absurd t
    note-by (Some i) (Some g) t rest = refl

  rows_left : (fs : List Feature) (h : Held) → (take_all doing fs h).out ≡ append_all (match_pieces (ms fs)) h.out
  unfolding take_all taken match_pieces append_all
  rows_left [] h = refl
  rows_left (f ∷ fs) h =
      rows_left fs (doing f h)
      ∙ row-by f h (partner_of m q.kept.now f.name) (partner m f d.features) (agrees f) (match_pieces (ms fs))

  notes-left : (fs : List Feature) (h : Held) → (take_all doing fs h).notes ≡ append_all (note_pieces (ms fs)) h.notes
  unfolding take_all taken note_pieces diags_matched append_all
  notes-left [] h = refl
  notes-left (f ∷ fs) h =
      notes-left fs (doing f h)
      ∙ note-by f h (partner_of m q.kept.now f.name) (partner m f d.features) (agrees f) (diags_matched (ms fs))

-- a walk that counts
counted : (m : Tables) (fs : List Feature) (h : Held) → take_all (taken Count m) fs h ≡ h
unfolding take_all taken
counted m [] h = refl
counted m (f ∷ fs) h = counted m fs h

-- WHAT A PURPOSE LEAVES of a source: nothing where the destination has no group
pub leaves_none : (m : Tables) (conn src dst : ℕ) → Leaves m conn src dst None (taken Count m)
unfolding Leaves matches_by match_pieces note_pieces diags_matched append_all
leaves_none m conn src dst a s h =
    (ap (λ (h : Held). h.out) (counted m s.features h), ap (λ (h : Held). h.notes) (counted m s.features h))

-- and its matches with the features that were kept of it
pub leaves-matches : (m : Tables) (q : Matching) (d : Expansion) → ((f : Feature) → Agrees q.kept.now (partner_of m q.kept.now f.name) (partner m f d.features))
    → Leaves m q.connection q.source q.destination (Some d) (taken (Matches q) m)
unfolding Leaves matches_by
leaves-matches m q d agrees a s h = (rows_left m q d agrees a s.features h, notes-left m q d agrees a s.features h)

-- ---- a memory of zeros remembers nothing

pub ready-zeros : (m : Tables) (q : Matching) (size : ℕ) → kept_count q.kept.now ≤ 4096 → Ready (Matches q) m (zeros size)
unfolding Ready Memory
ready-zeros m q size few = (few, λ k. subst (λ (v : ℕ). Remembered v (partner_of m q.kept.now k)) (sym (get_or-zeros size k)) tt)
