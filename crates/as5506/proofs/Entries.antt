-- 02 (vi): comparisons that agree on the names of tables give one list; the two entries do where all names that differ also differ folded. Assumes nothing.
use mathlib.Core.Bool.{Bool, true, false, not, ◌&&◌, cond}
use mathlib.Core.Path.{◌≡◌, refl, ap, ap₂, ◌∙◌, subst}
use mathlib.Core.List.{List, [], ◌∷◌, ◌++◌, map}
use Prim.Native.Nat.{ℕ, ◌≤◌}
use native.Mathlib.Decide.{dec_le}
use native.Mathlib.Omega.{arith}
use lib.Dec.{T}
use lib.ListN.{length}
use Rattle.as5506.specs.Lists.{keep, first_of, each, up_to, same_bytes, has}
use Rattle.as5506.specs.Tables.{Tables, present, letter_n, count, name_of, Side, source, destination, other, c_name, c_parent, children_of, x_count, x_owner, x_sub, x_feat, connections_of}
use Rattle.as5506.specs.Names.{Comparison, folded, same_folded, bracket}
use Rattle.as5506.specs.Answers.{Refusal, Answer, given, refused}
use Rattle.as5506.specs.Tracing.{is_named, or_elements, found_children, step_to, leads, steps_over, steps, chains_by, chains, Shape, faulty, across, upward, downward, neither, shape, named, one_to_one, Start, child, owner, pair_across, pair_up, pair_down, pairs_across, pairs_edge, pairs_by, pairs, row_of, reach, pair_rows, rows_at, traced, no_child, unequal, diags_by, diags_at, traced_diags, limit_or}
use Rattle.as5506.specs.GroupList.{GroupConnection, group_connection, is_group_connection, end_component_by, end_component, group_connections}
use Rattle.as5506.specs.Listing.{Room, TracedList, traced_list, traced_within, traced_on, limit_over, faults_linked, traced_answer, group_of, with_group, after_traced, both_answer}
use Rattle.as5506.specs.Sheet.{read_sheet}
use Rattle.as5506.specs.Text.{list_text}
use Rattle.as5506.specs.Program.{rows_lent, lent, room, names_lent, text_lent, printed_or_refusal, conlist_text, of_reading, what_fits, conlist_within, conlist, conlist_ignoring_case}
use Rattle.as5506.specs.Entries.{NamesApart, OneList, OneText}
use Rattle.as5506.proofs.Laws.{same-bytes, bytes-same, past-name}
use Rattle.as5506.proofs.Scans.{keep_same}

-- p takes two names of the tables for one exactly where q does
abbrev pub Agree : Comparison → Comparison → Tables → Type 0
Agree p q m = (i j : ℕ) → p (name_of m i) (name_of m j) ≡ q (name_of m i) (name_of m j)

-- ---- whatever is compared in tracing is a name of the tables

module _ (p q : Comparison) (m : Tables) (agree : Agree p q m) where
  found-agree : (c k : ℕ) → found_children p m c (name_of m k) ≡ found_children q m c (name_of m k)
  unfolding found_children is_named
  found-agree c k =
      ap (or_elements (has bracket (name_of m k)) m c (name_of m k))
      (keep_same (is_named p m (name_of m k)) (is_named q m (name_of m k)) (λ i. agree (c_name m i) k) (children_of m c))

  leads-agree : (s : Side) (f x : ℕ) → leads p m s (name_of m f) x ≡ leads q m s (name_of m f) x
  unfolding leads
  leads-agree s f x =
      ap (λ (b : Bool). present (x_sub m s x) && (not (present (x_sub m (other s) x)) && (present (x_feat m (other s) x) && b))) (agree (x_feat m (other s) x) f)

  steps-agree : (s : Side) (c f : ℕ) → steps p m s c f ≡ steps q m s c f
  unfolding steps steps_over
  steps-agree s c f =
      λ i.
      each (λ x. map (step_to m s x) (found-agree c (x_sub m s x) i))
      (keep_same (leads p m s (name_of m f)) (leads q m s (name_of m f)) (leads-agree s f) (connections_of m c) i)

  chains-agree : (s : Side) (k c f : ℕ) → chains p m s k c f ≡ chains q m s k c f
  unfolding chains
  chains-agree s k c f = λ i. chains_by (λ d g. steps-agree s d g i) k c f

  named-agree : (s : Side) (x : ℕ) → named p m s x ≡ named q m s x
  unfolding named
  named-agree s x = found-agree (x_owner m x) (x_sub m s x)

  pairs_by-agree : (x : ℕ) (h : Shape) → pairs_by p m x h ≡ pairs_by q m x h
  unfolding pairs_by
  pairs_by-agree x faulty = refl
  pairs_by-agree x across = ap₂ (pairs_across (one_to_one m (x_owner m x)) (pair_across m x)) (named-agree source x) (named-agree destination x)
  pairs_by-agree x upward = ap (pairs_edge (present (c_parent m (x_owner m x))) (pair_up m x)) (named-agree source x)
  pairs_by-agree x downward = ap (pairs_edge (present (c_parent m (x_owner m x))) (pair_down m x)) (named-agree destination x)
  pairs_by-agree x neither = refl

  reach-agree : (s : Side) (k : ℕ) (st : Start) → reach p m s k st ≡ reach q m s k st
  reach-agree s k (child c f) = chains-agree s k c f
  reach-agree s k (owner c f) = refl

  traced-agree : (k : ℕ) → traced p k m ≡ traced q k m
  unfolding traced rows_at pair_rows pairs
  traced-agree k =
      λ i.
      each
      (λ x. each (λ e. each (λ s. map (row_of m x s) (reach-agree destination k e.to i)) (reach-agree source k e.from i)) (pairs_by-agree x (shape m x) i))
      (up_to (x_count m))

  end-agree : (code : ℕ) (s : Side) (x : ℕ) → no_child code x (x_sub m s x) (named p m s x) ≡ no_child code x (x_sub m s x) (named q m s x)
  end-agree code s x = ap (no_child code x (x_sub m s x)) (named-agree s x)

  diags_by-agree : (x : ℕ) (h : Shape) → diags_by p m x h ≡ diags_by q m x h
  unfolding diags_by
  diags_by-agree x faulty = refl
  diags_by-agree x across =
      λ i.
      end-agree 2 source x i ++ end-agree 3 destination x i
      ++ unequal (one_to_one m (x_owner m x)) x (length (named-agree source x i)) (length (named-agree destination x i))
  diags_by-agree x upward = ap (cond (present (c_parent m (x_owner m x))) []) (end-agree 2 source x)
  diags_by-agree x downward = ap (cond (present (c_parent m (x_owner m x))) []) (end-agree 3 destination x)
  diags_by-agree x neither = refl

  diags-agree : traced_diags p m ≡ traced_diags q m
  unfolding traced_diags diags_at
  diags-agree = λ i. each (λ x. diags_by-agree x (shape m x) i) (up_to (x_count m))

  -- the first found child of the group listing
  component_by-agree : (s : Side) (x : ℕ) (b : Bool) → end_component_by p b m s x ≡ end_component_by q b m s x
  unfolding end_component_by
  component_by-agree s x true = ap first_of (named-agree s x)
  component_by-agree s x false = refl

  connections-agree : group_connections p m ≡ group_connections q m
  unfolding group_connections end_component
  connections-agree =
      λ i.
      each (λ x. group_connection m x (component_by-agree source x (present (x_sub m source x)) i) (component_by-agree destination x (present (x_sub m destination x)) i))
      (keep (is_group_connection m) (up_to (x_count m)))

  -- ---- the calls

  list-agree : (k : ℕ) → traced_list p k m ≡ traced_list q k m
  unfolding traced_list
  list-agree k = λ i. record { rows = traced-agree k i; diags = diags-agree i }

  traced_on-agree : (k : ℕ) (room : Room) (rs : List Refusal) → traced_on p k room m rs ≡ traced_on q k room m rs
  unfolding traced_on
  traced_on-agree k room [] = ap (traced_within room) (list-agree k)
  traced_on-agree k room (r ∷ rs) = refl

  after-agree : (room : Room) (names : ℕ) (a : Answer TracedList) → after_traced p room names m a ≡ after_traced q room names m a
  unfolding after_traced
  after-agree room names (refused r) = refl
  after-agree room names (given l) = ap (λ (bs : List GroupConnection). with_group l (group_of room names m bs)) connections-agree

  -- ONE LIST by both comparisons
  answers-agree : (k links names : ℕ) (traced_room group_room : Room) → both_answer p k links traced_room group_room names m ≡ both_answer q k links traced_room group_room names m
  unfolding both_answer traced_answer
  answers-agree k links names traced_room group_room =
      ap (after_traced p group_room names m) (traced_on-agree k traced_room (limit_over k ++ faults_linked links m))
      ∙ after-agree group_room names (traced_on q k traced_room m (limit_over k ++ faults_linked links m))

-- ---- the two comparisons

none-left : (b : List ℕ) → same_folded [] b ≡ same_bytes [] b
unfolding same_folded folded
none-left [] = refl
none-left (x ∷ b) = refl

none-right : (a : List ℕ) → same_folded a [] ≡ same_bytes a []
unfolding same_folded folded
none-right [] = refl
none-right (x ∷ a) = refl

-- names that differ folded where they differ
apart : (a b : List ℕ) → ((a ≡ b → ⊥) → folded a ≡ folded b → ⊥) → same_folded a b ≡ same_bytes a b
unfolding same_folded
apart a b h = go (same_bytes a b) (same_bytes (folded a) (folded b)) (same-bytes a b) (same-as a b) (same-bytes (folded a) (folded b)) (same-as (folded a) (folded b))
  where
    same-as : (l r : List ℕ) → l ≡ r → T (same_bytes l r)
    same-as l r e = subst (λ (z : List ℕ). T (same_bytes l z)) e (bytes-same l)

    go : (s f : Bool) → (T s → a ≡ b) → (a ≡ b → T s) → (T f → folded a ≡ folded b) → (folded a ≡ folded b → T f) → f ≡ s
    go true true u v w z = refl
    go false false u v w z = refl
    go true false u v w z = absurd (z (ap folded (u tt)))
    go false true u v w z = absurd (h v (w tt))

-- WHERE ALL NAMES THAT DIFFER ALSO DIFFER FOLDED, both comparisons take the same names for one
names-agree : (m : Tables) → NamesApart m → Agree same_folded same_bytes m
names-agree m h i j = go (dec_le (count m letter_n) i) (dec_le (count m letter_n) j)
  where
    go : Dec (count m letter_n ≤ i) → Dec (count m letter_n ≤ j) → same_folded (name_of m i) (name_of m j) ≡ same_bytes (name_of m i) (name_of m j)
    go (yes u) d = rw (past-name m i u) (none-left (name_of m j))
    go (no u) (yes v) = rw (past-name m j v) (none-right (name_of m i))
    go (no u) (no v) = apart (name_of m i) (name_of m j) (h i j (omega arith) (omega arith))

-- 02 (vi): "Where all names that differ also differ folded, both entries give one list"
pub one_list : OneList
one_list m h k links names traced_room group_room = answers-agree same_folded same_bytes m (names-agree m h) k links names traced_room group_room

texts-agree : (m : Tables) → NamesApart m → (k n : ℕ) → conlist_text same_folded k n m ≡ conlist_text same_bytes k n m
unfolding conlist_text
texts-agree m h k n = ap (printed_or_refusal n (list_text m)) (one_list m h k (rows_lent false) names_lent room room)

-- and one text
pub one_text : OneText
unfolding conlist conlist_ignoring_case conlist_within of_reading
one_text sheet h limit = ap (what_fits text_lent) (go (read_sheet lent sheet) h)
  where
    go : (a : Answer Tables) → ((m : Tables) → a ≡ given m → NamesApart m) → of_reading (conlist_text same_folded (limit_or limit) text_lent) a ≡ of_reading (conlist_text same_bytes (limit_or limit) text_lent) a
    go (given m) h = texts-agree m (h m refl) (limit_or limit) text_lent
    go (refused r) h = refl
