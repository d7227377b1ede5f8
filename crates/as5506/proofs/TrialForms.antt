-- What a trial of document 01 is: its meaning is a type (`Means`); a test (`passes`) computes; one law (`meant`) turns the test into the meaning.
-- Assumes nothing.
use mathlib.Core.Bool.{Bool, true, false, not, ◌&&◌, cond, beq}
use mathlib.Core.Path.{◌≡◌, refl, sym, ap, ◌∙◌, subst}
use mathlib.Core.List.{List, [], ◌∷◌, ◌++◌, map}
use Prim.Native.Nat.{ℕ, suc, ◌+◌, ◌-◌, ◌*◌, ◌/◌, ◌%◌}
use Prim.Native.String.{String}
use lib.Dec.{T, eqb, leb, eqb→eq, eqb_refl, T_not}
use lib.ListN.{length, get_or, take, drop}
use lib.Pointwise.{pointwise, pointwise_decides}
use Rattle.std.specs.Prelude.{Option, None, Some}
use Rattle.as5506.specs.Lists.{keep, each, first_of, same_bytes, bytes_of}
use Rattle.as5506.specs.Tables.{Tables, count, c_count, missing, two_to32, Letter, letter_n, letter_c, letter_f, letter_x, letter_p, letter_i, letter_t, letter_q, letter_u, letter_e, letter_r, letter_m, table, name_of, Ref, ref}
use Rattle.as5506.specs.Names.{Comparison, same_folded, good_name, folded, base_name, is_one_to_one}
use Rattle.as5506.specs.Answers.{Place, nowhere, line, row, Refusal, refusal, Answer, given, refused}
use Rattle.as5506.specs.Sheet.{Lent, is_n, lent_of, read_sheet, table_after, bytes_after}
use Rattle.as5506.specs.Refusals.{faults10, faults, accepted}
use Rattle.as5506.specs.Before.{width_before, read_before, faults_before, padded_sheet}
use Rattle.as5506.specs.Resolve.{Resolved, component_type, component_impl, group_type, unresolved, resolve}
use Rattle.as5506.specs.Groups.{Feature, Expansion, expand}
use Rattle.as5506.specs.Rows.{Row}
use Rattle.as5506.specs.Tracing.{found_children, rows, unlimited, usual_limit}
use Rattle.as5506.specs.Links.{link_table, first_in, walk}
use Rattle.as5506.specs.GroupList.{GroupConnection}
use Rattle.as5506.specs.Listing.{Room, TracedList, GroupList, BothLists, group_of, expansion_within, expand_answer, traced_answer, group_answer, both_answer}
use Rattle.as5506.specs.Layout.{room_in, links_in, links_of, output, feature_numbers, traced_row_numbers, traced_diag_numbers, group_row_numbers, group_diag_numbers, expansion_numbers, composed_names, of_traced, of_group}
use Rattle.as5506.specs.Modes.{modal, selections_of, is_cut, Modes, modes_answer, Selection, selection_answer}
use Rattle.as5506.specs.Text.{column}
use Rattle.as5506.specs.Program.{rows_lent, lent, text_lent, conlist_text, text_after, conlist, conlist_ignoring_case, modes, mode}
use Rattle.as5506.proofs.Laws.{All, and_left, and_right, and_both, is_true, same-bytes, bytes-same}

-- ---- sheets, and models in words

-- lines of text, each with its LF
abbrev pub text : List String → List ℕ
text ls = each (λ l. bytes_of l ++ (10 ∷ [])) ls

-- the words of a line, one space between them
abbrev word_with : Bool → ℕ → List (List ℕ) → List (List ℕ)
word_with true b ws = [] ∷ ws
word_with false b [] = (b ∷ []) ∷ []
word_with false b (w ∷ ws) = (b ∷ w) ∷ ws

abbrev words_of : List ℕ → List (List ℕ)
words_of [] = [] ∷ []
words_of (b ∷ bs) = word_with (eqb b 32) b (words_of bs)

-- A model in words has the sheet's lines, but for `N`, with one space between the fields, in any order. A field that begins with a digit is a number,
-- `-` is missing, and any other word is a name: the k-th of them in the model has name number k (names are compared by bytes, so they may repeat).
-- A line with another letter is in no table: `?` asks.
abbrev is_name : List ℕ → Bool
is_name w = leb 58 (get_or w 0 0)

abbrev decimal : ℕ → List ℕ → ℕ
decimal v [] = v
decimal v (b ∷ bs) = decimal (v * 10 + (b - 48)) bs

abbrev plain : List ℕ → ℕ
plain w = cond (eqb (get_or w 0 0) 45) missing (decimal 0 w)

abbrev numbered : ℕ → List (List ℕ) → List ℕ
numbered k [] = []
numbered k (w ∷ ws) = cond (is_name w) k (plain w) ∷ numbered (cond (is_name w) (suc k) k) ws

-- each line's letter and numbers, with k names before them
abbrev rows_from : ℕ → List (List (List ℕ)) → List (List ℕ)
rows_from k [] = []
rows_from k (l ∷ ls) = (get_or (get_or l 0 []) 0 0 ∷ numbered k (drop 1 l)) ∷ rows_from (k + length (keep is_name (drop 1 l))) ls

abbrev lines_with : List (List ℕ) → String → List (List ℕ)
lines_with ls letter = map (drop 1) (keep (λ l. eqb (get_or l 0 0) (get_or (bytes_of letter) 0 0)) ls)

abbrev rows_with : List (List ℕ) → String → List ℕ
rows_with ls letter = each (λ l. l) (lines_with ls letter)

-- The third number of a C row is its array index, of which a row has three; a row may leave its place out: then the row's number is its place, so that
-- children stand in row order
abbrev index_numbers : ℕ → List ℕ
index_numbers v = cond (eqb v missing) (0 ∷ 0 ∷ 0 ∷ []) (1 ∷ v / two_to32 ∷ v % two_to32 ∷ [])

abbrev component_row : ℕ → List ℕ → List ℕ
component_row i l = take 2 l ++ index_numbers (get_or l 2 0) ++ drop 3 l ++ cond (eqb (length l) 6) (i ∷ []) []

abbrev pub component_rows : ℕ → List (List ℕ) → List ℕ
component_rows i [] = []
component_rows i (l ∷ ls) = component_row i l ++ component_rows (suc i) ls

-- names one after the other in the byte table
abbrev pub offsets : ℕ → List (List ℕ) → List ℕ
offsets from [] = []
offsets from (w ∷ ws) = from ∷ length w ∷ offsets (from + length w) ws

abbrev tables_of : List (List ℕ) → List (List ℕ) → Tables
tables_of names ls =
    record {
      bytes = each (λ w. w) names;
      n = offsets 0 names;
      c = component_rows 0 (lines_with ls "C");
      f = rows_with ls "F";
      x = rows_with ls "X";
      p = rows_with ls "P";
      i = rows_with ls "I";
      t = rows_with ls "T";
      q = rows_with ls "Q";
      u = rows_with ls "U";
      e = rows_with ls "E";
      r = rows_with ls "R";
      m = rows_with ls "M";
    }

abbrev line_words : List String → List (List (List ℕ))
line_words ls = map (λ l. words_of (bytes_of l)) ls

abbrev pub model : List String → Tables
model ls = tables_of (each (λ l. keep is_name (drop 1 l)) (line_words ls)) (rows_from 0 (line_words ls))

-- the numbers of a model's first line
abbrev pub question : List String → List ℕ
question ls = drop 1 (get_or (rows_from 0 (line_words ls)) 0 [])

-- "? package-asked-from package type implementation"
abbrev pub asked_from : List ℕ → ℕ
asked_from q = get_or q 0 0

abbrev pub asked_for : List ℕ → Ref
asked_for q = ref (get_or q 1 0) (get_or q 2 0) (get_or q 3 0)

-- ---- letters by number, beside the definition's own

abbrev pub letters : List Letter
letters = letter_n ∷ letter_c ∷ letter_f ∷ letter_x ∷ letter_p ∷ letter_i ∷ letter_t ∷ letter_q ∷ letter_u ∷ letter_e ∷ letter_r ∷ letter_m ∷ []

abbrev pub number_of : Letter → ℕ
number_of letter_n = 0
number_of letter_c = 1
number_of letter_f = 2
number_of letter_x = 3
number_of letter_p = 4
number_of letter_i = 5
number_of letter_t = 6
number_of letter_q = 7
number_of letter_u = 8
number_of letter_e = 9
number_of letter_r = 10
number_of letter_m = 11

-- tables with one letter's table changed
abbrev changed : Tables → Letter → (List ℕ → List ℕ) → Letter → List ℕ
changed m l g k = cond (eqb (number_of k) (number_of l)) (g (table m k)) (table m k)

abbrev pub change : Tables → Letter → (List ℕ → List ℕ) → Tables
change m l g =
    record {
      bytes = m.bytes;
      n = changed m l g letter_n;
      c = changed m l g letter_c;
      f = changed m l g letter_f;
      x = changed m l g letter_x;
      p = changed m l g letter_p;
      i = changed m l g letter_i;
      t = changed m l g letter_t;
      q = changed m l g letter_q;
      u = changed m l g letter_u;
      e = changed m l g letter_e;
      r = changed m l g letter_r;
      m = changed m l g letter_m;
    }

-- ---- what is compared

-- "a refusal with its number and place", if the answer is one
abbrev pub refusal_of : {A : Type 0} → Answer A → Option Refusal
refusal_of (given a) = None
refusal_of (refused r) = Some r

-- the lent tables after the reader: bytes and rows in use, of which a refusal has none, then the tables
abbrev pub counts : Answer Tables → List ℕ
counts (given m) = length m.bytes ∷ map (count m) letters
counts (refused r) = 0 ∷ map (λ l. 0) letters

-- an expansion's features and visits, of which a refusal has none: "13, count 0, no features"
abbrev pub feature_count : Answer Expansion → ℕ
feature_count (given x) = length x.features
feature_count (refused r) = 0

abbrev pub visit_count : Answer Expansion → ℕ
visit_count (given x) = x.visits
visit_count (refused r) = 0

abbrev pub lent_after : Tables → Answer Tables → List (List ℕ)
lent_after m a = bytes_after (lent_of m) a ∷ map (λ l. table_after (lent_of m) l a) letters

abbrev pub lent_tables : Tables → List (List ℕ)
lent_tables m = m.bytes ∷ map (table m) letters

-- a feature of an expansion: its names joined by dots, kind, direction
abbrev dots : List (List ℕ) → List ℕ
dots [] = []
dots (w ∷ ws) = w ++ (46 ∷ dots ws)

abbrev pub feature_text : Tables → Feature → List ℕ
feature_text m f =
    dots (map (name_of m) f.prefix) ++ name_of m f.name
    ++ (32 ∷ (48 + f.kind) ∷ 32 ∷ cond (eqb f.direction missing) 45 (48 + f.direction) ∷ [])

abbrev pub feature_texts : Tables → Expansion → List (List ℕ)
feature_texts m x = map (feature_text m) x.features

-- the refusal of a sheet written before 02 (ii), by the reader and the checks of then, where conlist lends as many rows
abbrev refusal_in : Answer Tables → Option Refusal
refusal_in (given m) = first_of (faults_before m)
refusal_in (refused r) = Some r

abbrev pub refusal_before : List ℕ → Option Refusal
refusal_before sheet = refusal_in (read_before (record { bytes = 16384; numbers = λ l. rows_lent (is_n l) * width_before l }) sheet)

-- the lengths of what is lent to the reader
abbrev pub lengths : Lent → List ℕ
lengths l = l.bytes ∷ map l.numbers letters

-- what is printed for tables, from the entry of a comparison, under a limit
abbrev pub listed : Comparison → ℕ → Tables → List ℕ
listed same k m = conlist_text same k text_lent m

-- 02 (xi): the number of selections and whether they are cut, of which a refusal has none; what a selection puts into its outputs
abbrev pub mode_count : Answer Modes → ℕ
mode_count (given s) = s.number
mode_count (refused r) = 0

abbrev pub modes_cut : Answer Modes → Bool
modes_cut (given s) = s.cut
modes_cut (refused r) = false

abbrev pub selection_rows : Selection → List ℕ
selection_rows s = s.rows

abbrev pub selection_name : Selection → List ℕ
selection_name s = s.name

-- by a comparison and under a limit, the listings of a model in outputs of the given lengths: the link table, rows and diagnostics, of the group listing also composed names;
-- of both, all five beside the link table, and each of the five afterwards
abbrev pub traced_in : Comparison → ℕ → Tables → (links rows diags : List ℕ) → Answer TracedList
traced_in same k m ls rs ds = traced_answer same k (links_in (length ls)) (room_in (length rs) (length ds)) m

abbrev pub group_in : Comparison → Tables → (links rows diags names : List ℕ) → Answer GroupList
group_in same m ls rs ds ns = group_answer same (links_in (length ls)) (room_in (length rs) (length ds)) (length ns) m

abbrev pub both_in : Comparison → ℕ → Tables → List ℕ → List (List ℕ) → Answer BothLists
both_in same k m ls out =
    both_answer same k (links_in (length ls)) (room_in (length (get_or out 0 [])) (length (get_or out 1 []))) (room_in (length (get_or out 2 [])) (length (get_or out 3 []))) (length (get_or out 4 [])) m

abbrev pub both_outputs : Tables → List (List ℕ) → Answer BothLists → List (List ℕ)
both_outputs m out a =
    output (length (get_or out 0 [])) (of_traced (traced_row_numbers m)) a ∷ output (length (get_or out 1 [])) (of_traced traced_diag_numbers) a
    ∷ output (length (get_or out 2 [])) (of_group group_row_numbers) a ∷ output (length (get_or out 3 [])) (of_group group_diag_numbers) a
    ∷ output (length (get_or out 4 [])) (of_group composed_names) a ∷ []

-- ---- THE TRIALS: of outputs and lent tables a trial has what they hold afterwards, and so their lengths

pub data Trial : Type 0 where
  -- a limit or none, a sheet's bytes, and what conlist prints; and under a limit a lent output of text
  prints_by : Option ℕ → List ℕ → List String → Trial
  fills_by : ℕ → List ℕ → List ℕ → Trial
  -- the lengths of the byte table and of each letter's table that conlist lends
  lends : List ℕ → Trial
  -- a sheet written before 02 (ii), its refusal then or none, and what it is once padded
  pads : List ℕ → Option Refusal → List ℕ → Trial
  -- a limit or none, a sheet's bytes, and what conlist_ignoring_case prints
  prints_folded_by : Option ℕ → List ℕ → List String → Trial
  -- a comparison, a limit and tables, and what is printed for them
  lists_by : Comparison → ℕ → Tables → List String → Trial
  -- and how many bytes that is
  length_is : Tables → ℕ → Trial
  name : List ℕ → Bool → Trial
  folds : String → String → Trial
  base : String → String → Trial
  pattern : List ℕ → Bool → Trial
  printed : ℕ → String → Trial
  -- a sheet, its refusal or none, how many bytes and rows of each letter were read, the lent tables afterwards
  reads : List ℕ → Option Refusal → List ℕ → Tables → Trial
  -- tables, and their refusal or none; the same of refusal 10 alone
  checks : Tables → Option Refusal → Trial
  checks10 : Tables → Option Refusal → Trial
  -- a question and an accepted model, and what is found
  resolves : List String → Resolved → Trial
  -- an accepted model, the names of the asking package and of the group: the features and the number of visits
  expands : Tables → ℕ → ℕ → List String → ℕ → Trial
  -- room for features and an expansion: 13, 11 or neither, and what is left of it
  stops : ℕ → Expansion → Option Refusal → ℕ → ℕ → Trial
  -- tables, the names of the asking package and of the group, the inverse flag: the refusal or none, and the output of features afterwards
  expands_into : Tables → ℕ → ℕ → Bool → Option Refusal → List ℕ → Trial
  -- a comparison, an accepted model, a component and a name: the children that are found
  children_by : Comparison → Tables → ℕ → String → List ℕ → Trial
  -- by a comparison, of an accepted model the rows under a limit are the rows without one; they are not
  whole_by : Comparison → ℕ → Tables → Trial
  cut_by : Comparison → ℕ → Tables → Trial
  -- 02 (xiii): an accepted model and a component: the walk along the link table from its first child on
  walks : Tables → ℕ → List ℕ → Trial
  -- a comparison, of the traced listing and of both a limit, tables, the refusal or none, the outputs afterwards: the link table, rows and diagnostics; of the group listing also
  -- composed names; of both, the link table and all five
  traces_by : Comparison → ℕ → Tables → Option Refusal → (links rows diags : List ℕ) → Trial
  groups_by : Comparison → Tables → Option Refusal → (links rows diags names : List ℕ) → Trial
  both_by : Comparison → ℕ → Tables → Option Refusal → (links : List ℕ) → List (List ℕ) → Trial
  -- 02 (xi): under a limit, the selections of tables and whether they are cut
  grows : ℕ → Tables → List (List ℕ) → Bool → Trial
  -- the refusal or none, the number of selections and whether they are cut; a number, the refusal or none, the outputs of M rows and of the name
  counts_modes : Tables → Option Refusal → ℕ → Bool → Trial
  selects : Tables → ℕ → Option Refusal → List ℕ → List ℕ → Trial
  -- a sheet's bytes, and what modes prints; and mode for a number
  modes_prints : List ℕ → List String → Trial
  mode_prints : List ℕ → ℕ → List String → Trial
  -- the group listing of connections whose ends are expanded
  joins : Room → ℕ → Tables → List GroupConnection → Option Refusal → Trial

-- without a limit that is named
abbrev pub prints : List ℕ → List String → Trial
prints = prints_by None

abbrev pub prints_folded : List ℕ → List String → Trial
prints_folded = prints_folded_by None

abbrev pub fills : List ℕ → List ℕ → Trial
fills = fills_by usual_limit

-- by bytes, as the ported entry compares; and folded, as the second one
abbrev pub lists : Tables → List String → Trial
lists = lists_by same_bytes usual_limit

abbrev pub lists_folded : Tables → List String → Trial
lists_folded = lists_by same_folded usual_limit

abbrev pub children : Tables → ℕ → String → List ℕ → Trial
children = children_by same_bytes

abbrev pub children_folded : Tables → ℕ → String → List ℕ → Trial
children_folded = children_by same_folded

abbrev pub whole : Tables → Trial
whole = whole_by same_bytes usual_limit

abbrev pub whole_folded : Tables → Trial
whole_folded = whole_by same_folded usual_limit

abbrev pub cut : Tables → Trial
cut = cut_by same_bytes usual_limit

abbrev pub cut_folded : Tables → Trial
cut_folded = cut_by same_folded usual_limit

abbrev pub traces : Tables → Option Refusal → (links rows diags : List ℕ) → Trial
traces = traces_by same_bytes usual_limit

abbrev pub traces_folded : Tables → Option Refusal → (links rows diags : List ℕ) → Trial
traces_folded = traces_by same_folded usual_limit

abbrev pub groups : Tables → Option Refusal → (links rows diags names : List ℕ) → Trial
groups = groups_by same_bytes

abbrev pub groups_folded : Tables → Option Refusal → (links rows diags names : List ℕ) → Trial
groups_folded = groups_by same_folded

abbrev pub both : Tables → Option Refusal → (links : List ℕ) → List (List ℕ) → Trial
both = both_by same_bytes usual_limit

abbrev pub both_folded : Tables → Option Refusal → (links : List ℕ) → List (List ℕ) → Trial
both_folded = both_by same_folded usual_limit

abbrev pub Means : Trial → Type 0
Means (prints_by limit sheet list) = conlist limit sheet ≡ text list
Means (fills_by k sheet out) = text_after k (length out) sheet ≡ out
Means (lends ns) = lengths lent ≡ ns
Means (pads sheet r padded) = (refusal_before sheet ≡ r) × (padded_sheet sheet ≡ padded)
Means (prints_folded_by limit sheet list) = conlist_ignoring_case limit sheet ≡ text list
Means (lists_by same k m list) = listed same k m ≡ text list
Means (length_is m n) = length (listed same_bytes usual_limit m) ≡ n
Means (name s b) = good_name s ≡ b
Means (folds s t) = folded (bytes_of s) ≡ bytes_of t
Means (base s t) = base_name (bytes_of s) ≡ bytes_of t
Means (pattern s b) = is_one_to_one s ≡ b
Means (printed n s) = column n ≡ bytes_of s
Means (reads sheet r used m) =
    (refusal_of (read_sheet (lent_of m) sheet) ≡ r) × (counts (read_sheet (lent_of m) sheet) ≡ used) × (lent_after m (read_sheet (lent_of m) sheet) ≡ lent_tables m)
Means (checks m r) = first_of (faults m) ≡ r
Means (checks10 m r) = first_of (faults10 m) ≡ r
Means (resolves ls r) = T (accepted (model ls)) × (resolve (model ls) (asked_from (question ls)) (asked_for (question ls)) ≡ r)
Means (expands m g u fs visits) = T (accepted m) × (feature_texts m (expand m g u) ≡ map bytes_of fs) × ((expand m g u).visits ≡ visits)
Means (stops room x r fs visits) =
    (refusal_of (expansion_within room x) ≡ r)
    × (feature_count (expansion_within room x) ≡ fs)
    × (visit_count (expansion_within room x) ≡ visits)
Means (expands_into m g u inverse r out) =
    (refusal_of (expand_answer (length out / feature_numbers) m g u inverse) ≡ r)
    × (output (length out) expansion_numbers (expand_answer (length out / feature_numbers) m g u inverse) ≡ out)
Means (children_by same m c s l) = T (accepted m) × (found_children same m c (bytes_of s) ≡ l)
Means (whole_by same k m) = T (accepted m) × (rows same k m ≡ unlimited same m)
Means (cut_by same k m) = T (accepted m) × (rows same k m ≡ unlimited same m → ⊥)
Means (walks m c l) = T (accepted m) × (walk (link_table m) (c_count m) (first_in (link_table m) c) ≡ l)
Means (traces_by same k m r ls rs ds) =
    (refusal_of (traced_in same k m ls rs ds) ≡ r)
    × (output (length ls) (links_of m) (traced_in same k m ls rs ds) ≡ ls)
    × (output (length rs) (traced_row_numbers m) (traced_in same k m ls rs ds) ≡ rs)
    × (output (length ds) traced_diag_numbers (traced_in same k m ls rs ds) ≡ ds)
Means (groups_by same m r ls rs ds ns) =
    (refusal_of (group_in same m ls rs ds ns) ≡ r)
    × (output (length ls) (links_of m) (group_in same m ls rs ds ns) ≡ ls)
    × (output (length rs) group_row_numbers (group_in same m ls rs ds ns) ≡ rs)
    × (output (length ds) group_diag_numbers (group_in same m ls rs ds ns) ≡ ds)
    × (output (length ns) composed_names (group_in same m ls rs ds ns) ≡ ns)
Means (both_by same k m r ls out) =
    (refusal_of (both_in same k m ls out) ≡ r)
    × (output (length ls) (links_of m) (both_in same k m ls out) ≡ ls)
    × (both_outputs m out (both_in same k m ls out) ≡ out)
Means (grows limit m ss b) = (selections_of limit (modal m) ≡ ss) × (is_cut limit (modal m) ≡ b)
Means (counts_modes m r n b) = (refusal_of (modes_answer m) ≡ r) × (mode_count (modes_answer m) ≡ n) × (modes_cut (modes_answer m) ≡ b)
Means (selects m k r rs ns) =
    (refusal_of (selection_answer (length rs) (length ns) m k) ≡ r)
    × (output (length rs) selection_rows (selection_answer (length rs) (length ns) m k) ≡ rs)
    × (output (length ns) selection_name (selection_answer (length rs) (length ns) m k) ≡ ns)
Means (modes_prints sheet list) = modes sheet ≡ text list
Means (mode_prints sheet k list) = mode k sheet ≡ text list
Means (joins space names m bs r) = refusal_of (group_of space names m bs) ≡ r

-- ---- equal, by a test, and the laws of the tests

-- a test that tells equal values, of the entries of two lists
module _ {A : Type 0} (test : A → A → Bool) (tells : (x y : A) → T (test x y) → x ≡ y) (owns : (x : A) → T (test x x)) where
  decides : (xs ys : List A) → (pointwise test xs ys ≡ true → xs ≡ ys) × (xs ≡ ys → pointwise test xs ys ≡ true)
  decides = pointwise_decides (λ x y. (λ e. tells x y (subst T (sym e) tt), λ e. is_true (test x y) (subst (λ (z : A). T (test x z)) e (owns x))))

  same-by : (xs ys : List A) → T (pointwise test xs ys) → xs ≡ ys
  same-by xs ys t = (decides xs ys).0 (is_true (pointwise test xs ys) t)

  by-same : (xs ys : List A) → xs ≡ ys → T (pointwise test xs ys)
  by-same xs ys e = subst T (sym ((decides xs ys).1 e)) tt

abbrev same_lists : List (List ℕ) → List (List ℕ) → Bool
same_lists l r = pointwise same_bytes l r

same-lists : (l r : List (List ℕ)) → T (same_lists l r) → l ≡ r
same-lists = same-by same_bytes same-bytes bytes-same

-- a value that its code gives back is known by its code
module _ {A : Type 0} (code : A → List ℕ) (decoded : List ℕ → A) (gives_back : (a : A) → decoded (code a) ≡ a) where
  by_code : (a b : A) → T (same_bytes (code a) (code b)) → a ≡ b
  by_code a b t = sym (gives_back a) ∙ ap decoded (same-bytes (code a) (code b) t) ∙ gives_back b

abbrev place_code : ℕ → Place → List ℕ
place_code n nowhere = n ∷ []
place_code n (line k) = n ∷ k ∷ []
place_code n (row l i) = n ∷ i ∷ number_of l ∷ []

abbrev refusal_code : Option Refusal → List ℕ
refusal_code None = []
refusal_code (Some r) = place_code r.number r.place

abbrev decoded_refusal : List ℕ → Option Refusal
decoded_refusal [] = None
decoded_refusal (n ∷ []) = Some (refusal n nowhere)
decoded_refusal (n ∷ k ∷ []) = Some (refusal n (line k))
decoded_refusal (n ∷ i ∷ l ∷ ls) = Some (refusal n (row (get_or letters l letter_n) i))

letter-back : (l : Letter) → get_or letters (number_of l) letter_n ≡ l
letter-back letter_n = refl
letter-back letter_c = refl
letter-back letter_f = refl
letter-back letter_x = refl
letter-back letter_p = refl
letter-back letter_i = refl
letter-back letter_t = refl
letter-back letter_q = refl
letter-back letter_u = refl
letter-back letter_e = refl
letter-back letter_r = refl
letter-back letter_m = refl

place-back : (n : ℕ) (p : Place) → decoded_refusal (place_code n p) ≡ Some (refusal n p)
place-back n nowhere = refl
place-back n (line k) = refl
place-back n (row l i) = ap (λ h. Some (refusal n (row h i))) (letter-back l)

refusal-back : (r : Option Refusal) → decoded_refusal (refusal_code r) ≡ r
refusal-back None = refl
refusal-back (Some r) = place-back r.number r.place

abbrev same_refusal : Option Refusal → Option Refusal → Bool
same_refusal a b = same_bytes (refusal_code a) (refusal_code b)

same-refusal : (a b : Option Refusal) → T (same_refusal a b) → a ≡ b
same-refusal a b t = by_code refusal_code decoded_refusal refusal-back a b t

abbrev found_code : Resolved → List ℕ
found_code unresolved = []
found_code (component_type i) = i ∷ []
found_code (component_impl i) = i ∷ 0 ∷ []
found_code (group_type i) = i ∷ 0 ∷ 0 ∷ []

abbrev decoded_found : List ℕ → Resolved
decoded_found [] = unresolved
decoded_found (i ∷ []) = component_type i
decoded_found (i ∷ a ∷ []) = component_impl i
decoded_found (i ∷ a ∷ b ∷ l) = group_type i

found_back : (r : Resolved) → decoded_found (found_code r) ≡ r
found_back unresolved = refl
found_back (component_type i) = refl
found_back (component_impl i) = refl
found_back (group_type i) = refl

abbrev same_found : Resolved → Resolved → Bool
same_found a b = same_bytes (found_code a) (found_code b)

same-found : (a b : Resolved) → T (same_found a b) → a ≡ b
same-found a b t = by_code found_code decoded_found found_back a b t

-- rows
abbrev same_row : Row → Row → Bool
same_row r t =
    eqb r.conn t.conn && (eqb r.kind t.kind && (eqb r.src t.src && (eqb r.dst t.dst && (same_bytes r.path t.path && (same_bytes r.name t.name && (same_bytes r.src_name t.src_name && same_bytes r.dst_name t.dst_name))))))

abbrev same_rows : List Row → List Row → Bool
same_rows l r = pointwise same_row l r

same_row_lem : (r t : Row) → T (same_row r t) → r ≡ t
same_row_lem r t h =
    λ i.
    record {
      conn = eqb→eq r.conn t.conn (search and_left) i;
      kind = eqb→eq r.kind t.kind (search (and_left, and_right)) i;
      src = eqb→eq r.src t.src (search (and_left, and_right)) i;
      dst = eqb→eq r.dst t.dst (search (and_left, and_right)) i;
      path = same-bytes r.path t.path (search (and_left, and_right)) i;
      name = same-bytes r.name t.name (search (and_left, and_right)) i;
      src_name = same-bytes r.src_name t.src_name (search (and_left, and_right) depth 9) i;
      dst_name = same-bytes r.dst_name t.dst_name (search (and_left, and_right) depth 9) i;
    }

row_same : (r : Row) → T (same_row r r)
row_same r =
    search (and_both, eqb_refl r.conn, eqb_refl r.kind, eqb_refl r.src, eqb_refl r.dst, bytes-same r.path, bytes-same r.name, bytes-same r.src_name, bytes-same r.dst_name) depth 9

same-rows : (l r : List Row) → T (same_rows l r) → l ≡ r
same-rows = same-by same_row same_row_lem row_same

rows_same : (l r : List Row) → l ≡ r → T (same_rows l r)
rows_same = by-same same_row same_row_lem row_same

-- ---- the test and its law

same-bool : (a b : Bool) → T (beq a b) → a ≡ b
same-bool true true t = refl
same-bool true false t = absurd t
same-bool false true t = absurd t
same-bool false false t = refl

abbrev pub passes : Trial → Bool
passes (prints_by limit sheet list) = same_bytes (conlist limit sheet) (text list)
passes (fills_by k sheet out) = same_bytes (text_after k (length out) sheet) out
passes (lends ns) = same_bytes (lengths lent) ns
passes (pads sheet r padded) = same_refusal (refusal_before sheet) r && same_bytes (padded_sheet sheet) padded
passes (prints_folded_by limit sheet list) = same_bytes (conlist_ignoring_case limit sheet) (text list)
passes (lists_by same k m list) = same_bytes (listed same k m) (text list)
passes (length_is m n) = eqb (length (listed same_bytes usual_limit m)) n
passes (name s b) = beq (good_name s) b
passes (folds s t) = same_bytes (folded (bytes_of s)) (bytes_of t)
passes (base s t) = same_bytes (base_name (bytes_of s)) (bytes_of t)
passes (pattern s b) = beq (is_one_to_one s) b
passes (printed n s) = same_bytes (column n) (bytes_of s)
passes (reads sheet r used m) =
    same_refusal (refusal_of (read_sheet (lent_of m) sheet)) r
    && (same_bytes (counts (read_sheet (lent_of m) sheet)) used && same_lists (lent_after m (read_sheet (lent_of m) sheet)) (lent_tables m))
passes (checks m r) = same_refusal (first_of (faults m)) r
passes (checks10 m r) = same_refusal (first_of (faults10 m)) r
passes (resolves ls r) = accepted (model ls) && same_found (resolve (model ls) (asked_from (question ls)) (asked_for (question ls))) r
passes (expands m g u fs visits) = accepted m && (same_lists (feature_texts m (expand m g u)) (map bytes_of fs) && eqb (expand m g u).visits visits)
passes (stops room x r fs visits) =
    same_refusal (refusal_of (expansion_within room x)) r
    && (eqb (feature_count (expansion_within room x)) fs && eqb (visit_count (expansion_within room x)) visits)
passes (expands_into m g u inverse r out) =
    same_refusal (refusal_of (expand_answer (length out / feature_numbers) m g u inverse)) r
    && same_bytes (output (length out) expansion_numbers (expand_answer (length out / feature_numbers) m g u inverse)) out
passes (children_by same m c s l) = accepted m && same_bytes (found_children same m c (bytes_of s)) l
passes (whole_by same k m) = accepted m && same_rows (rows same k m) (unlimited same m)
passes (cut_by same k m) = accepted m && not (same_rows (rows same k m) (unlimited same m))
passes (walks m c l) = accepted m && same_bytes (walk (link_table m) (c_count m) (first_in (link_table m) c)) l
passes (traces_by same k m r ls rs ds) =
    same_refusal (refusal_of (traced_in same k m ls rs ds)) r
    && (same_bytes (output (length ls) (links_of m) (traced_in same k m ls rs ds)) ls
    && (same_bytes (output (length rs) (traced_row_numbers m) (traced_in same k m ls rs ds)) rs
    && same_bytes (output (length ds) traced_diag_numbers (traced_in same k m ls rs ds)) ds))
passes (groups_by same m r ls rs ds ns) =
    same_refusal (refusal_of (group_in same m ls rs ds ns)) r
    && (same_bytes (output (length ls) (links_of m) (group_in same m ls rs ds ns)) ls
    && (same_bytes (output (length rs) group_row_numbers (group_in same m ls rs ds ns)) rs
    && (same_bytes (output (length ds) group_diag_numbers (group_in same m ls rs ds ns)) ds
    && same_bytes (output (length ns) composed_names (group_in same m ls rs ds ns)) ns)))
passes (both_by same k m r ls out) =
    same_refusal (refusal_of (both_in same k m ls out)) r
    && (same_bytes (output (length ls) (links_of m) (both_in same k m ls out)) ls && same_lists (both_outputs m out (both_in same k m ls out)) out)
passes (grows limit m ss b) = same_lists (selections_of limit (modal m)) ss && beq (is_cut limit (modal m)) b
passes (counts_modes m r n b) = same_refusal (refusal_of (modes_answer m)) r && (eqb (mode_count (modes_answer m)) n && beq (modes_cut (modes_answer m)) b)
passes (selects m k r rs ns) =
    same_refusal (refusal_of (selection_answer (length rs) (length ns) m k)) r
    && (same_bytes (output (length rs) selection_rows (selection_answer (length rs) (length ns) m k)) rs
    && same_bytes (output (length ns) selection_name (selection_answer (length rs) (length ns) m k)) ns)
passes (modes_prints sheet list) = same_bytes (modes sheet) (text list)
passes (mode_prints sheet k list) = same_bytes (mode k sheet) (text list)
passes (joins space names m bs r) = same_refusal (refusal_of (group_of space names m bs)) r

meant : (t : Trial) → T (passes t) → Means t
meant (prints_by limit sheet list) t = same-bytes (conlist limit sheet) (text list) t
meant (fills_by k sheet out) t = same-bytes (text_after k (length out) sheet) out t
meant (lends ns) t = same-bytes (lengths lent) ns t
meant (pads sheet r padded) t = (same-refusal _ r (search and_left), same-bytes _ padded (search and_right))
meant (prints_folded_by limit sheet list) t = same-bytes (conlist_ignoring_case limit sheet) (text list) t
meant (lists_by same k m list) t = same-bytes (listed same k m) (text list) t
meant (length_is m n) t = eqb→eq (length (listed same_bytes usual_limit m)) n t
meant (name s b) t = same-bool (good_name s) b t
meant (folds s r) t = same-bytes (folded (bytes_of s)) (bytes_of r) t
meant (base s r) t = same-bytes (base_name (bytes_of s)) (bytes_of r) t
meant (pattern s b) t = same-bool (is_one_to_one s) b t
meant (printed n s) t = same-bytes (column n) (bytes_of s) t
meant (reads sheet r used m) t = (
  same-refusal _ r (search and_left),
  same-bytes _ used (search (and_left, and_right)),
  same-lists _ (lent_tables m) (search (and_left, and_right)),
)
meant (checks m r) t = same-refusal (first_of (faults m)) r t
meant (checks10 m r) t = same-refusal (first_of (faults10 m)) r t
meant (resolves ls r) t = (
  and_left (accepted (model ls)) _ t,
  same-found (resolve (model ls) (asked_from (question ls)) (asked_for (question ls))) r (and_right (accepted (model ls)) _ t),
)
meant (expands m g u fs visits) t = (and_left (accepted m) _ t, same-lists _ (map bytes_of fs) (search (and_left, and_right)), eqb→eq _ visits (search (and_left, and_right)))
meant (stops room x r fs visits) t =
    (same-refusal _ r (search and_left), eqb→eq _ fs (search (and_left, and_right)), eqb→eq _ visits (search (and_left, and_right)))
meant (expands_into m g u inverse r out) t = (same-refusal _ r (search and_left), same-bytes _ out (search and_right))
meant (children_by same m c s l) t = (and_left (accepted m) _ t, same-bytes (found_children same m c (bytes_of s)) l (and_right (accepted m) _ t))
meant (whole_by same k m) t = (and_left (accepted m) _ t, same-rows (rows same k m) (unlimited same m) (and_right (accepted m) _ t))
meant (cut_by same k m) t = (
  and_left (accepted m) (not (same_rows (rows same k m) (unlimited same m))) t,
  (λ e. T_not (same_rows (rows same k m) (unlimited same m)) (and_right (accepted m) (not (same_rows (rows same k m) (unlimited same m))) t) (rows_same (rows same k m) (unlimited same m) e)),
)
meant (walks m c l) t = (and_left (accepted m) _ t, same-bytes _ l (and_right (accepted m) _ t))
meant (traces_by same k m r ls rs ds) t = (
  same-refusal _ r (search and_left),
  same-bytes _ ls (search (and_left, and_right)),
  same-bytes _ rs (search (and_left, and_right)),
  same-bytes _ ds (search (and_left, and_right)),
)
meant (groups_by same m r ls rs ds ns) t = (
  same-refusal _ r (search and_left),
  same-bytes _ ls (search (and_left, and_right)),
  same-bytes _ rs (search (and_left, and_right)),
  same-bytes _ ds (search (and_left, and_right)),
  same-bytes _ ns (search (and_left, and_right)),
)
meant (both_by same k m r ls out) t = (same-refusal _ r (search and_left), same-bytes _ ls (search (and_left, and_right)), same-lists _ out (search (and_left, and_right)))
meant (grows limit m ss b) t = (same-lists _ ss (search and_left), same-bool _ b (search and_right))
meant (counts_modes m r n b) t = (same-refusal _ r (search and_left), eqb→eq _ n (search (and_left, and_right)), same-bool (modes_cut (modes_answer m)) b (search and_right))
meant (selects m k r rs ns) t =
    (same-refusal _ r (search and_left), same-bytes _ rs (search (and_left, and_right)), same-bytes _ ns (search (and_left, and_right)))
meant (modes_prints sheet list) t = same-bytes (modes sheet) (text list) t
meant (mode_prints sheet k list) t = same-bytes (mode k sheet) (text list) t
meant (joins space names m bs r) t = same-refusal (refusal_of (group_of space names m bs)) r t

-- ---- a table of trials

abbrev pub every : List Trial → Bool
every [] = true
every (t ∷ ts) = passes t && every ts

pub all-meant : (ts : List Trial) → T (every ts) → All Means ts
all-meant [] t = tt
all-meant (x ∷ xs) t = (meant x (and_left (passes x) (every xs) t), all-meant xs (and_right (passes x) (every xs) t))
