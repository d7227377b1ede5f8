-- The call's answer and outputs, case by case. Assumes nothing.
use mathlib.Core.Bool.{Bool, true, false, not}
use mathlib.Core.Logic.{◌⊎◌, inl, inr}
use mathlib.Core.Path.{◌≡◌, refl, sym, ap, ap₂, ◌∙◌, subst}
use mathlib.Core.List.{List, [], ◌++◌, append-nil}
use Prim.Native.Nat.{ℕ, ◌+◌, ◌/◌, ◌≤◌, ◌<◌}
use native.Mathlib.Omega.{arith}
use lib.Dec.{T}
use lib.ListN.{length, take, drop}
use lib.Seq.{sets, sets-eq, take_at, length-take-le}
use borrow.Author.Tests.{lt-ltb, le-ltb}
use Rattle.std.specs.Prelude.{Option, Some, Result, Ok, Err, ok_or, is_err, IsErrAnd}
use Rattle.as5506.specs.Lists.{each, total, same_bytes, zeros}
use Rattle.as5506.specs.declared.Refusal.{Refusal as Told}
use Rattle.as5506.specs.declared.Listed.{Listed}
use Rattle.as5506.specs.Tables.{Tables}
use Rattle.as5506.specs.Names.{Comparison}
use Rattle.as5506.specs.Answers.{Refusal, Answer, given, refused, refusal, nowhere, told, handed}
use Rattle.as5506.specs.Refusals.{accepted}
use Rattle.as5506.specs.Rows.{Row}
use Rattle.as5506.specs.GroupList.{group_connections, overrun, Match, matches, rows_matched, diags_matched}
use Rattle.as5506.specs.Listing.{GroupList, Room, row_names, group_within, group_list_of, group_of, group_on, group_answer}
use Rattle.as5506.specs.Layout.{row_numbers, diag_numbers, room_in, links_in, links_of, group_block, diag_block, group_row_numbers, group_diag_numbers, composed_names, output}
use Rattle.as5506.proofs.Laws.{All, each-length, zeros-length}
use Rattle.as5506.proofs.Answers.{no-refusal, is_given, ok-not-err, hands-refused, came-given, came-refused, passed, none-told, some-told}
use Rattle.lent.specs.Answered.{AnswerIn}
use Rattle.lent.specs.Printed.{Printed}
use Rattle.lent.proofs.Sets.{sets-whole, sets_behind}
use Rattle.lent.proofs.Pieces.{printed-by, printed-some, printed-none}
use Rattle.lent.proofs.Answered.{given-in, refused-in, keeps, clears}
use Rattle.sink.specs.declared.Tally.{Tally}
use Rattle.child_links.specs.Linked.{LinkedInto}
use Rattle.child_links.proofs.Answers.{accepted-is, refused-on, links-given, links-walked}
use Rattle.group_match.specs.Matching.{match_pieces, note_pieces, MatchedInto}
use Rattle.group_names.specs.Pairs.{Pair}
use Rattle.group_names.specs.Pieces.{pairs_back}
use Rattle.group_names.specs.Compose.{Composed}
use Rattle.group_names.proofs.Blocks.{pair_block, Short, pairs-back}
use Rattle.group_names.proofs.Named.{names-printed, all-rows}
use Rattle.group_list.specs.Answer.{listed, answer_for, answer_of, NamesStay, Lists, ListsLinked, GroupListedInto}
use Rattle.group_list.proofs.Short.{pairs-short}
use Rattle.group_list.proofs.Matches.{told_over, told-done, pairs_of, pair-blocks, pairs-length, rows-of-pairs, rows-number, rows-length, note-blocks, notes-length}

-- ---- THE ORDER 13, 11, 14, 12

module _ (room : Room) (names : ℕ) (g : GroupList) where
  abbrev bytes : ℕ
  bytes = total (λ (r : Row). length (row_names r)) g.rows

  within-13 : group_within room names true g ≡ refused (refusal 13 nowhere)
  unfolding group_within
  within-13 = refl

  within-11 : room.rows < length g.rows → group_within room names false g ≡ refused (refusal 11 nowhere)
  unfolding group_within
  within-11 h = rw (lt-ltb room.rows (length g.rows) h)

  within-14 : length g.rows ≤ room.rows → names < bytes → group_within room names false g ≡ refused (refusal 14 nowhere)
  unfolding group_within
  within-14 h i = rw (le-ltb room.rows (length g.rows) h, lt-ltb names bytes i)

  within-12 : length g.rows ≤ room.rows → bytes ≤ names → room.diags < length g.diags → group_within room names false g ≡ refused (refusal 12 nowhere)
  unfolding group_within
  within-12 h i j = rw (le-ltb room.rows (length g.rows) h, le-ltb names bytes i, lt-ltb room.diags (length g.diags) j)

  within-given : length g.rows ≤ room.rows → bytes ≤ names → length g.diags ≤ room.diags → group_within room names false g ≡ given g
  unfolding group_within
  within-given h i j = rw (le-ltb room.rows (length g.rows) h, le-ltb names bytes i, le-ltb room.diags (length g.diags) j)

-- ---- accepted tables: rows and diags are the outputs at entry, rows₁ and diags₁ what matching left in them

module _ (same : Comparison) (m : Tables) (rows names diags : List ℕ) where
  abbrev the_answer : Answer GroupList
  the_answer = answer_of same m rows names diags

  abbrev the_matches : List Match
  the_matches = matches m (group_connections same m)

  abbrev the_pairs : List Pair
  the_pairs = pairs_of the_matches

  abbrev the_rows : List Row
  the_rows = rows_matched m the_matches

  abbrev the_list : GroupList
  the_list = group_list_of m the_matches

  -- what the listing ensures: its answer, and what the outputs hold
  abbrev Leaves : Result Listed Told → List ℕ → List ℕ → List ℕ → Type 0
  Leaves z rows' names' diags' = Lists the_answer rows names diags z rows' names' diags'

  refused-for : (number : ℕ) (z : Result Listed Told) → the_answer ≡ refused (refusal number nowhere) → z ≡ Err (told (refusal number nowhere))
      → (rows' names' diags' : List ℕ) → NamesStay z names names' → Leaves z rows' names' diags'
  refused-for number z e f rows' names' diags' s =
      let r : Refusal = refusal number nowhere in
      record {
        answer = f ∙ sym (ap (handed listed) e);
        in_rows = refused-in group_row_numbers the_answer rows rows' r e;
        in_names = refused-in composed_names the_answer names names' r e;
        in_diagnostics = refused-in group_diag_numbers the_answer diags diags' r e;
        stay = s;
      }

  -- the output of names is as it was
  untouched : (z : Result Listed Told) → NamesStay z names names
  unfolding NamesStay
  untouched (Ok l) = tt
  untouched (Err r) = λ h. refl

  -- or the refusal is neither 13 nor 11
  composed-before : (number : ℕ) (z : Result Listed Told) → z ≡ Err (told (refusal number nowhere)) → (number ≡ 13 → ⊥) → (number ≡ 11 → ⊥)
      → (names' : List ℕ) → NamesStay z names names'
  unfolding NamesStay
  composed-before number z e a b names' = rw e (λ h. go h)
    where
      go : (number ≡ 13) ⊎ (number ≡ 11) → names' ≡ names
      go (inl h) = absurd (a h)
      go (inr h) = absurd (b h)

  -- matching answered q: r₁ is that as a Result, in which nothing is told as s₁
  module _ (ok : T (accepted m)) (rows₁ diags₁ : List ℕ) (q : Option Tally) (e : MatchedInto same m rows diags q rows₁ diags₁) (s₁ : Told) (r₁ : Result Tally Told) (e₁ : r₁ ≡ ok_or q s₁) where
    short : All Short the_pairs
    short = pairs-short same m ok

    -- 13
    pub lists-13 : (x : Told) → r₁ ≡ Err x → (z : Result Listed Told) → IsErrAnd z (λ y. y ≡ x) → s₁ ≡ told (refusal 13 nowhere) → (rows' diags' : List ℕ) → Leaves z rows' names diags'
    unfolding group_of
    lists-13 x g z i j rows' diags' =
        let h = none-told q s₁ x (sym e₁ ∙ g) in
        let over : overrun (group_connections same m) ≡ true = told_over m (group_connections same m) rows diags rows₁ diags₁ q e h.0 in
        refused-for 13 z (ap (λ (b : Bool). group_within (room_in (length rows) (length diags)) (length names) b the_list) over ∙ within-13 _ _ the_list) (passed z x i ∙ ap Err (h.1 ∙ j))
        rows' names diags' (untouched z)

    -- r₂ and s₂ are so of how much of the rows is used
    module _ (t : Tally) (f₁ : r₁ ≡ Ok t) (s₂ : Told) (r₂ : Result ℕ Told) (e₂ : r₂ ≡ ok_or t.used s₂) where
      f : q ≡ Some t
      f = some-told q s₁ t (sym e₁ ∙ f₁)

      abbrev blocks : List ℕ
      blocks = each pair_block the_pairs

      answer-is : the_answer ≡ group_within (room_in (length rows) (length diags)) (length names) false the_list
      unfolding group_of
      answer-is = ap (λ (b : Bool). group_within (room_in (length rows) (length diags)) (length names) b the_list) (told-done m (group_connections same m) rows diags rows₁ diags₁ q e t f).0

      rows_printed : Printed blocks rows t.used rows₁
      rows_printed = printed-by (match_pieces the_matches) rows rows₁ t.used blocks (pair-blocks the_matches) (told-done m (group_connections same m) rows diags rows₁ diags₁ q e t f).1

      notes-printed : Printed (each diag_block (diags_matched the_matches)) diags t.noted diags₁
      notes-printed =
          printed-by (note_pieces the_matches) diags diags₁ t.noted (each diag_block (diags_matched the_matches)) (note-blocks the_matches)
          (told-done m (group_connections same m) rows diags rows₁ diags₁ q e t f).2

      row_count : length the_list.rows ≡ length the_pairs
      unfolding group_list_of
      row_count = rows-number m the_matches

      -- 11
      pub lists-11 : (x : Told) → r₂ ≡ Err x → (z : Result Listed Told) → IsErrAnd z (λ y. y ≡ x) → s₂ ≡ told (refusal 11 nowhere) → (rows' diags' : List ℕ) → Leaves z rows' names diags'
      lists-11 x g z i j rows' diags' =
          let h = none-told t.used s₂ x (sym e₂ ∙ g) in
          refused-for 11 z (answer-is ∙ within-11 _ _ the_list (omega (arith, printed-none rows_printed h.0, pairs-length the_pairs short, row_count))) (passed z x i ∙ ap Err (h.1 ∙ j))
          rows' names diags' (untouched z)

      module _ (used : ℕ) (f₂ : r₂ ≡ Ok used) where
        rows_fit : (length blocks ≤ length rows) × (used ≡ length blocks) × (rows₁ ≡ sets rows 0 blocks)
        rows_fit = printed-some rows_printed (some-told t.used s₂ used (sym e₂ ∙ f₂))

        -- the matches are the first of the rows
        pub used_within : used ≤ length rows₁
        used_within = omega (arith, rows_fit.0, rows_fit.1, rows_printed.size)

        pub used_front : used ≡ length (take used rows₁)
        used_front = sym (length-take-le used rows₁ used_within)

        pair-count : used / row_numbers ≡ length the_pairs
        pair-count = omega (arith, rows_fit.1, pairs-length the_pairs short)

        row_room : length the_list.rows ≤ length rows / row_numbers
        row_room = omega (arith, rows_fit.0, pairs-length the_pairs short, row_count)

        front : take used rows₁ ≡ blocks
        front =
            ap₂ take rows_fit.1 (rows_fit.2 ∙ sets-eq blocks rows 0 (omega (arith, rows_fit.0)))
            ∙ take_at blocks (drop (0 + length blocks) rows) (length blocks) refl

        -- and are read back from their blocks
        pairs-are : pairs_back (length blocks / row_numbers) blocks ≡ the_pairs
        pairs-are = ap₂ pairs_back (omega (arith, pairs-length the_pairs short)) (sym (append-nil blocks)) ∙ pairs-back the_pairs short []

        -- composing left part and names₂, and answered y: r₃ and s₃ are of that
        module _ (part names₂ : List ℕ) (y : Option ℕ) (w : Composed m (pairs_back (length (take used rows₁) / row_numbers) (take used rows₁)) (take used rows₁) names y part names₂)
            (s₃ : Told) (r₃ : Result ℕ Told) (e₃ : r₃ ≡ ok_or y s₃) where
          name-bytes : total (λ (r : Row). length (row_names r)) the_list.rows ≡ length (each row_names the_rows)
          unfolding group_list_of
          name-bytes = sym (each-length row_names the_rows)

          composed : Composed m the_pairs blocks names y part names₂
          composed =
              subst (λ (ps : List Pair). Composed m ps blocks names y part names₂) pairs-are
              (subst (λ (l : List ℕ). Composed m (pairs_back (length l / row_numbers) l) l names y part names₂) front w)

          names-put : Printed (each row_names the_rows) names y names₂
          names-put =
              subst (λ (rs : List Row). Printed (each row_names rs) names y names₂) (rows-of-pairs m the_matches) (names-printed m the_pairs blocks names y part names₂ composed)

          -- 14
          pub lists-14 : (x : Told) → r₃ ≡ Err x → (z : Result Listed Told) → IsErrAnd z (λ y. y ≡ x) → s₃ ≡ told (refusal 14 nowhere) → (rows' names' diags' : List ℕ) → Leaves z rows' names' diags'
          lists-14 x g z i j rows' names' diags' =
              let h = none-told y s₃ x (sym e₃ ∙ g) in
              let r : z ≡ Err (told (refusal 14 nowhere)) = passed z x i ∙ ap Err (h.1 ∙ j) in
              refused-for 14 z (answer-is ∙ within-14 _ _ the_list row_room (rw name-bytes (printed-none names-put h.0))) r
              rows' names' diags' (composed-before 14 z r (λ e. omega (arith, e)) (λ e. omega (arith, e)) names')

          -- r₄ and s₄ are of how much of the diagnostics is used
          module _ (k : ℕ) (f₃ : r₃ ≡ Ok k) (s₄ : Told) (r₄ : Result ℕ Told) (e₄ : r₄ ≡ ok_or t.noted s₄) where
            names-fit : (length (each row_names the_rows) ≤ length names) × (k ≡ length (each row_names the_rows)) × (names₂ ≡ sets names 0 (each row_names the_rows))
            names-fit = printed-some names-put (some-told y s₃ k (sym e₃ ∙ f₃))

            -- 12
            pub lists-12 : (x : Told) → r₄ ≡ Err x → (z : Result Listed Told) → IsErrAnd z (λ y. y ≡ x) → s₄ ≡ told (refusal 12 nowhere) → (rows' names' diags' : List ℕ) → Leaves z rows' names' diags'
            unfolding group_list_of
            lists-12 x g z i j rows' names' diags' =
                let h = none-told t.noted s₄ x (sym e₄ ∙ g) in
                let r : z ≡ Err (told (refusal 12 nowhere)) = passed z x i ∙ ap Err (h.1 ∙ j) in
                refused-for 12 z (answer-is ∙ within-12 _ _ the_list row_room (rw name-bytes names-fit.0) (omega (arith, printed-none notes-printed h.0, notes-length (diags_matched the_matches)))) r
                rows' names' diags' (composed-before 12 z r (λ e. omega (arith, e)) (λ e. omega (arith, e)) names')

            size : length (each group_block the_rows) ≡ length blocks
            size = omega (arith, rows-length m the_matches, pairs-length the_pairs short, rows-number m the_matches)

            -- the rows stand in place of their matches
            part-is : part ≡ each group_block the_rows
            part-is =
                all-rows m the_pairs blocks names y part names₂ composed (rw (rows-of-pairs m the_matches) names-fit.0)
                ∙ ap (λ (rs : List Row). sets blocks 0 (each group_block rs)) (rows-of-pairs m the_matches)
                ∙ sets-whole (each group_block the_rows) blocks size

            rows_are : part ++ drop used rows₁ ≡ sets rows 0 (each group_block the_rows)
            rows_are =
                let ends : used ≡ 0 + length (each group_block the_rows) = omega (arith, rows_fit.1, size) in
                ap₂ ◌++◌ part-is (ap (drop used) rows_fit.2 ∙ sets_behind blocks rows used 0 (omega (arith, rows_fit.1)) ∙ ap (λ (j : ℕ). drop j rows) ends)
                ∙ sym (sets-eq (each group_block the_rows) rows 0 (omega (arith, size, rows_fit.0)))

            -- all fit
            pub lists-all : (n : ℕ) → r₄ ≡ Ok n → Leaves (Ok (record { rows = used / row_numbers; diagnostics = n / diag_numbers })) (part ++ drop used rows₁) names₂ diags₁
            unfolding group_list_of group_row_numbers composed_names group_diag_numbers NamesStay
            lists-all n f₄ =
                let d = printed-some notes-printed (some-told t.noted s₄ n (sym e₄ ∙ f₄)) in
                let a : the_answer ≡ given the_list = answer-is ∙ within-given _ _ the_list row_room (rw name-bytes names-fit.0) (omega (arith, d.0, notes-length (diags_matched the_matches))) in
                let c : n / diag_numbers ≡ length (diags_matched the_matches) = omega (arith, d.1, notes-length (diags_matched the_matches)) in
                record {
                  answer = ap₂ (λ (k l : ℕ). Ok (record { rows = k; diagnostics = l })) (pair-count ∙ sym row_count) c ∙ sym (ap (handed listed) a);
                  in_rows = given-in group_row_numbers the_answer rows (part ++ drop used rows₁) the_list a (omega (arith, size, rows_fit.0)) rows_are;
                  in_names = given-in composed_names the_answer names names₂ the_list a names-fit.0 names-fit.2;
                  in_diagnostics = given-in group_diag_numbers the_answer diags diags₁ the_list a d.0 d.2;
                  stay = tt;
                }

-- ---- ANY TABLES: q is what checking and linking answers, and links₁ the link table that it leaves

module _ (m : Tables) (links rows names diags : List ℕ) (q : Result (Unit {0}) Told) (links₁ : List ℕ) (k : LinkedInto m links q links₁) where
  abbrev all_of_it : Answer GroupList
  all_of_it = answer_for m links rows names diags

  abbrev LeavesLinked : Result Listed Told → List ℕ → List ℕ → List ℕ → List ℕ → Type 0
  LeavesLinked z links' rows' names' diags' = ListsLinked all_of_it m links rows names diags z links' rows' names' diags'

  -- the tables or the link table are refused
  pub links-refused : (r : Told) → q ≡ Err r → (z : Result Listed Told) → IsErrAnd z (λ y. y ≡ r) → (rows' names' diags' : List ℕ) → LeavesLinked z links₁ rows' names' diags'
  unfolding group_answer group_on
  links-refused r i z j rows' names' diags' =
      let x = refused-on m links q links₁ k (group_on same_bytes (room_in (length rows) (length diags)) (length names) m) (λ x fs. refl) r i in
      record {
        answer = hands-refused listed z all_of_it x.0 x.1 r (passed z r j) x.2;
        linked = λ l f. absurd (ok-not-err l r (sym f ∙ passed z r j));
        in_rows = refused-in group_row_numbers all_of_it rows rows' x.0 x.1;
        in_names = refused-in composed_names all_of_it names names' x.0 x.1;
        in_diagnostics = refused-in group_diag_numbers all_of_it diags diags' x.0 x.1;
      }

  -- they are not
  pub links-filled : q ≡ Ok tt → (z : Result Listed Told) (rows' names' diags' : List ℕ) → Lists (answer_of same_bytes m rows names diags) rows names diags z rows' names' diags'
      → LeavesLinked z links₁ rows' names' diags'
  unfolding group_answer group_on
  links-filled i z rows' names' diags' w =
      let a : answer_of same_bytes m rows names diags ≡ all_of_it = sym (ap (group_on same_bytes (room_in (length rows) (length diags)) (length names) m) (accepted-is m links q links₁ k i)) in
      record {
        answer = w.answer ∙ ap (handed listed) a;
        linked = λ l f. k.linked i;
        in_rows = subst (λ (b : Answer GroupList). AnswerIn group_row_numbers b rows rows') a w.in_rows;
        in_names = subst (λ (b : Answer GroupList). AnswerIn composed_names b names names') a w.in_names;
        in_diagnostics = subst (λ (b : Answer GroupList). AnswerIn group_diag_numbers b diags diags') a w.in_diagnostics;
      }

-- ---- THE CALL: links, rows, names and diags are the outputs at entry, rows₁, names₁ and diags₁ the cleared ones, links₂, rows₂, names₂ and diags₂ what the
-- listing left in them

module _ (m : Tables) (links rows names diags rows₁ names₁ diags₁ : List ℕ) (e : rows₁ ≡ zeros (length rows)) (f : names₁ ≡ zeros (length names)) (g : diags₁ ≡ zeros (length diags))
    (z : Result Listed Told) (links₂ rows₂ names₂ diags₂ : List ℕ) (w : ListsLinked (answer_for m links rows₁ names₁ diags₁) m links rows₁ names₁ diags₁ z links₂ rows₂ names₂ diags₂)
    (s : length links₂ ≡ length links) where
  abbrev whole : Answer GroupList
  whole = answer_for m links rows names diags

  same_answer : answer_for m links rows₁ names₁ diags₁ ≡ whole
  same_answer =
      ap₂ (λ (n l : ℕ). group_answer same_bytes (links_in (length links)) (room_in n l) (length names₁) m) (zeros-length rows₁ (length rows) e) (zeros-length diags₁ (length diags) g)
      ∙ ap (λ (s : ℕ). group_answer same_bytes (links_in (length links)) (room_in (length rows) (length diags)) s m) (zeros-length names₁ (length names) f)

  told-whole : z ≡ handed listed whole
  told-whole = w.answer ∙ ap (handed listed) same_answer

  -- an output that was cleared and holds the answer
  written : (numbers : GroupList → List ℕ) (out out' : List ℕ) (n : ℕ) → T (is_given whole) → out ≡ zeros n
      → AnswerIn numbers (answer_for m links rows₁ names₁ diags₁) out out' → out' ≡ output n numbers whole
  written numbers out out' n t zero w = keeps numbers whole out out' n t zero (subst (λ (a : Answer GroupList). AnswerIn numbers a out out') same_answer w)

  pub given-call : is_err z ≡ false → GroupListedInto m links rows names diags z links₂ rows₂ names₂ diags₂
  given-call j =
      let t : T (is_given whole) = came-given listed whole (ap is_err (sym told-whole) ∙ j) in
      let o = no-refusal z j in
      record {
        answer = told-whole;
        written-links = links-given m links₂ (w.linked o.0 o.1) whole (length links) t s;
        written-rows = written group_row_numbers rows₁ rows₂ (length rows) t e w.in_rows;
        written-names = written composed_names names₁ names₂ (length names) t f w.in_names;
        written-diagnostics = written group_diag_numbers diags₁ diags₂ (length diags) t g w.in_diagnostics;
        children-by-links = λ l h. links-walked m links₂ (w.linked l h);
      }

  -- a refusal, with zeros in the outputs
  pub refused-call : is_err z ≡ true → length rows₂ ≡ length rows₁ → length names₂ ≡ length names₁ → length diags₂ ≡ length diags₁ → (links₃ rows₃ names₃ diags₃ : List ℕ)
      → links₃ ≡ zeros (length links₂) → rows₃ ≡ zeros (length rows₂) → names₃ ≡ zeros (length names₂) → diags₃ ≡ zeros (length diags₂)
      → GroupListedInto m links rows names diags z links₃ rows₃ names₃ diags₃
  refused-call j k l n links₃ rows₃ names₃ diags₃ x u v y =
      let t : T (not (is_given whole)) = came-refused listed whole (ap is_err (sym told-whole) ∙ j) in
      record {
        answer = told-whole;
        written-links = x ∙ ap zeros s ∙ clears (links_of m) whole (length links) t;
        written-rows = u ∙ ap zeros (k ∙ zeros-length rows₁ (length rows) e) ∙ clears group_row_numbers whole (length rows) t;
        written-names = v ∙ ap zeros (l ∙ zeros-length names₁ (length names) f) ∙ clears composed_names whole (length names) t;
        written-diagnostics = y ∙ ap zeros (n ∙ zeros-length diags₁ (length diags) g) ∙ clears group_diag_numbers whole (length diags) t;
        children-by-links = λ l h. absurd (subst T (sym j ∙ ap is_err h) tt);
      }
