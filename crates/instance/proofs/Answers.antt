-- The call's answer and outputs, case by case. Assumes nothing.
use mathlib.Core.Bool.{true, false}
use mathlib.Core.Logic.{◌↔◌}
use mathlib.Core.Path.{◌≡◌, refl, sym, ap, ap₂, ◌∙◌, subst}
use mathlib.Core.List.{List, [], ◌++◌}
use Prim.Native.Nat.{ℕ, ◌/◌, ◌≤◌, ◌<◌}
use native.Mathlib.Nat.{zero-add, zero-mul, mul-le-mul_right, le_trans, div-mul-le_self}
use lib.Dec.{T, ltb}
use lib.ListN.{length}
use lib.Seq.{sets}
use borrow.Author.Tests.{lt-ltb, le-ltb}
use Rattle.std.specs.Prelude.{Option, Some, Result, Ok, Err, is_err, IsErrAnd}
use Rattle.std.specs.Option.{ok_or}
use Rattle.as5506.specs.Lists.{each, same_bytes, zeros}
use Rattle.as5506.specs.declared.Refusal.{Refusal as Told}
use Rattle.as5506.specs.declared.Listed.{Listed}
use Rattle.as5506.specs.declared.step_limit.StepLimit.{StepLimit}
use Rattle.as5506.specs.Tables.{Tables}
use Rattle.as5506.specs.Names.{Comparison}
use Rattle.as5506.specs.Answers.{Refusal, Answer, given, refused, refusal, nowhere, told, handed}
use Rattle.as5506.specs.Tracing.{traced, traced_diags, unlimited, largest_limit}
use Rattle.as5506.specs.Followed.{NoneHasNext}
use Rattle.as5506.specs.Listing.{TracedList, Room, traced_list, traced_within, limit_over, faults_linked, traced_on, traced_answer}
use Rattle.as5506.specs.Layout.{links_in, row_numbers, diag_numbers, room_in, traced_block, diag_block, traced_row_numbers, traced_diag_numbers, output, rows_back}
use Rattle.as5506.proofs.Laws.{zeros-length}
use Rattle.as5506.proofs.Answers.{is_given, handed-ok, hands-refused, ok-not-err, came-given, no-refusal, passed, none-told, some-told}
use Rattle.as5506.proofs.Allowed.{limit-refused}
use Rattle.as5506.proofs.Output.{demand-three-output}
use Rattle.lent.specs.Answered.{AnswerIn}
use Rattle.lent.proofs.Answered.{given-in, refused-in, keeps}
use Rattle.child_links.specs.Linked.{LinkedInto}
use Rattle.child_links.proofs.Answers.{accepted-is, refused-on, links-given, links-walked}
use Rattle.output.specs.Blocks.{Written}
use Rattle.output.proofs.Writing.{overs, counts, whole-all, holds-all}
use Rattle.instance.specs.Answer.{listed, answer_for, TracedInto}
use Rattle.instance.specs.Outputs.{answer_of, Lists, ListsLinked}

-- ---- THE ORDER 11, 12

module _ (room : Room) (l : TracedList) where
  within-11 : room.rows < length l.rows → traced_within room l ≡ refused (refusal 11 nowhere)
  unfolding traced_within
  within-11 h = rw (lt-ltb room.rows (length l.rows) h)

  within-12 : length l.rows ≤ room.rows → room.diags < length l.diags → traced_within room l ≡ refused (refusal 12 nowhere)
  unfolding traced_within
  within-12 h g = rw (le-ltb room.rows (length l.rows) h, lt-ltb room.diags (length l.diags) g)

  within-given : length l.rows ≤ room.rows → length l.diags ≤ room.diags → traced_within room l ≡ given l
  unfolding traced_within
  within-given h g = rw (le-ltb room.rows (length l.rows) h, le-ltb room.diags (length l.diags) g)

-- ---- a list whose blocks of w numbers were to be written from the front of an output, and the refusal t where they found no room

module _ {A : Type 0} (w : ℕ) (block : A → List ℕ) (l : List A) (out : List ℕ) (q : Option ℕ) (out' : List ℕ) (v : Written w block l out 0 q out')
    (t : Told) (z : Result ℕ Told) (e : z ≡ ok_or q t) where
  over : (r : Told) → z ≡ Err r → (r ≡ t) × (length out / w < length l)
  over r f =
      let n = none-told q t r (sym e ∙ f) in
      (n.1, subst (λ (k : ℕ). length out / w < k) (zero-add (length l)) (overs (subst (λ (p : Option ℕ). Written w block l out 0 p out') n.0 v)))

  fit : (k : ℕ) → z ≡ Ok k → (k ≡ length l) × (length l ≤ length out / w) × (length (each block l) ≤ length out) × (out' ≡ sets out 0 (each block l))
  fit k f =
      let u : Written w block l out 0 (Some k) out' = subst (λ (p : Option ℕ). Written w block l out 0 p out') (some-told q t k (sym e ∙ f)) v in
      let c = counts u in
      let number : k ≡ length l = c.0 ∙ zero-add (length l) in
      let room : length l ≤ length out / w = subst (λ (n : ℕ). n ≤ length out / w) number c.1 in (
        number,
        room,
        rw (whole-all u) (le_trans (mul-le-mul_right w room) (div-mul-le_self (length out) w)),
        holds-all u ∙ ap (λ (n : ℕ). sets out n (each block l)) (zero-mul w),
      )

-- ---- accepted tables: rows and diags are the outputs at entry, p is what is told of the rows, and rows₁ what is left of them

module _ (same : Comparison) (k : ℕ) (m : Tables) (rows diags : List ℕ) where
  abbrev room : Room
  room = room_in (length rows) (length diags)

  abbrev the_answer : Answer TracedList
  the_answer = answer_of same k m rows diags

  abbrev Leaves : Result Listed Told → List ℕ → List ℕ → Type 0
  Leaves z rows' diags' = Lists the_answer m rows diags z rows' diags'

  refuses : (x : Refusal) → the_answer ≡ refused x → (r : Told) → r ≡ told x → (z : Result Listed Told) → IsErrAnd z (λ y. y ≡ r) → (rows' diags' : List ℕ) → Leaves z rows' diags'
  refuses x f r g z h rows' diags' =
      record {
        answer = hands-refused listed z the_answer x f r (passed z r h) g;
        in_rows = refused-in (traced_row_numbers m) the_answer rows rows' x f;
        in_diagnostics = refused-in traced_diag_numbers the_answer diags diags' x f;
      }

  module _ (p : Option ℕ) (rows₁ : List ℕ) (v : Written row_numbers (traced_block m) (traced same k m) rows 0 p rows₁)
      (t : Told) (g : t ≡ told (refusal 11 nowhere)) (y : Result ℕ Told) (h : y ≡ ok_or p t) where
    rows_written : Written row_numbers (traced_block m) (traced_list same k m).rows rows 0 p rows₁
    unfolding traced_list
    rows_written = v

    -- 11: the rows do not fit
    pub lists-11 : (r : Told) → y ≡ Err r → (z : Result Listed Told) → IsErrAnd z (λ y. y ≡ r) → (rows' diags' : List ℕ) → Leaves z rows' diags'
    lists-11 r i =
        let o = over row_numbers (traced_block m) (traced_list same k m).rows rows p rows₁ rows_written t y h r i in
        refuses (refusal 11 nowhere) (within-11 room (traced_list same k m) o.1) r (o.0 ∙ g)

    -- the rows fit: p' is what is told of the diagnostics, and diags₁ what is left of them
    module _ (c : ℕ) (i : y ≡ Ok c) (p' : Option ℕ) (diags₁ : List ℕ) (w : (n : ℕ) → p ≡ Some n → Written diag_numbers diag_block (traced_diags same m) diags 0 p' diags₁)
        (t' : Told) (g' : t' ≡ told (refusal 12 nowhere)) (y' : Result ℕ Told) (h' : y' ≡ ok_or p' t') where
      rows_fit : (c ≡ length (traced_list same k m).rows) × (length (traced_list same k m).rows ≤ room.rows) × (length (traced_row_numbers m (traced_list same k m)) ≤ length rows) × (rows₁ ≡ sets rows 0 (traced_row_numbers m (traced_list same k m)))
      unfolding traced_row_numbers
      rows_fit = fit row_numbers (traced_block m) (traced_list same k m).rows rows p rows₁ rows_written t y h c i

      diags-written : Written diag_numbers diag_block (traced_list same k m).diags diags 0 p' diags₁
      unfolding traced_list
      diags-written = w c (some-told p t c (sym h ∙ i))

      -- 12: the diagnostics do not fit
      pub lists-12 : (r : Told) → y' ≡ Err r → (z : Result Listed Told) → IsErrAnd z (λ y. y ≡ r) → (rows' diags' : List ℕ) → Leaves z rows' diags'
      lists-12 r j =
          let o = over diag_numbers diag_block (traced_list same k m).diags diags p' diags₁ diags-written t' y' h' r j in
          refuses (refusal 12 nowhere) (within-12 room (traced_list same k m) rows_fit.1 o.1) r (o.0 ∙ g')

      -- both fit
      pub lists-both : (d : ℕ) → y' ≡ Ok d → Leaves (Ok (record { rows = c; diagnostics = d })) rows₁ diags₁
      unfolding traced_diag_numbers
      lists-both d j =
          let s = fit diag_numbers diag_block (traced_list same k m).diags diags p' diags₁ diags-written t' y' h' d j in
          let a : the_answer ≡ given (traced_list same k m) = within-given room (traced_list same k m) rows_fit.1 s.1 in
          record {
            answer = ap₂ (λ (n l : ℕ). Ok (record { rows = n; diagnostics = l })) rows_fit.0 s.0 ∙ sym (ap (handed listed) a);
            in_rows = given-in (traced_row_numbers m) the_answer rows rows₁ (traced_list same k m) a rows_fit.2 rows_fit.3;
            in_diagnostics = given-in traced_diag_numbers the_answer diags diags₁ (traced_list same k m) a s.2 s.3;
          }

-- ---- any tables, under the limit k

module _ (k : ℕ) (m : Tables) (links rows diags : List ℕ) where
  abbrev all_of_it : Answer TracedList
  all_of_it = answer_for k m links rows diags

  -- the call refuses: the outputs may hold anything
  call-refuses : (x : Refusal) → all_of_it ≡ refused x → (r : Told) → r ≡ told x → (z : Result Listed Told) → IsErrAnd z (λ y. y ≡ r)
      → (links' rows' diags' : List ℕ) → ListsLinked all_of_it m rows diags z links' rows' diags'
  call-refuses x e r f z h links' rows' diags' =
      record {
        lists = record {
          answer = hands-refused listed z all_of_it x e r (passed z r h) f;
          in_rows = refused-in (traced_row_numbers m) all_of_it rows rows' x e;
          in_diagnostics = refused-in traced_diag_numbers all_of_it diags diags' x e;
        };
        linked = λ l g. absurd (ok-not-err l r (sym g ∙ passed z r h));
      }

  -- 19, whatever the tables; q is what the number is taken for
  pub over-refused : (q : Result StepLimit Told) → is_err q ≡ ltb largest_limit k → (is_err q ≡ true → q ≡ Err (told (refusal 19 nowhere))) → (r : Told) → q ≡ Err r
      → (z : Result Listed Told) → IsErrAnd z (λ y. y ≡ r) → (links' rows' diags' : List ℕ) → ListsLinked all_of_it m rows diags z links' rows' diags'
  unfolding traced_answer traced_on
  over-refused q over is r f z h links' rows' diags' =
      let x = limit-refused k q over is r f in
      call-refuses (refusal 19 nowhere) (ap (λ fs. traced_on same_bytes k (room_in (length rows) (length diags)) m (fs ++ faults_linked (links_in (length links)) m)) x.0) r x.1 z h links' rows' diags'

  -- the limit is allowed: the answer is what goes on where tables and link table have no fault
  within : limit_over k ≡ [] → all_of_it ≡ traced_on same_bytes k (room_in (length rows) (length diags)) m (faults_linked (links_in (length links)) m)
  unfolding traced_answer
  within e = ap (λ fs. traced_on same_bytes k (room_in (length rows) (length diags)) m (fs ++ faults_linked (links_in (length links)) m)) e

  -- q is what checking and linking answers, and links₁ the link table that it leaves
  module _ (a : limit_over k ≡ []) (q : Result (Unit {0}) Told) (links₁ : List ℕ) (e : LinkedInto m links q links₁) where
    -- the tables or the link table are refused
    pub links-refused : (r : Told) → q ≡ Err r → (z : Result Listed Told) → IsErrAnd z (λ y. y ≡ r) → (rows' diags' : List ℕ) → ListsLinked all_of_it m rows diags z links₁ rows' diags'
    unfolding traced_on
    links-refused r f z h rows' diags' =
        let x = refused-on m links q links₁ e (traced_on same_bytes k (room_in (length rows) (length diags)) m) (λ x fs. refl) r f in
        call-refuses x.0 (within a ∙ x.1) r x.2 z h links₁ rows' diags'

    -- they are not; j: the steps of the limit that is taken
    pub links-filled : q ≡ Ok tt → {j : ℕ} → j ≡ k → {z : Result Listed Told} {rows' diags' : List ℕ} → Lists (answer_of same_bytes j m rows diags) m rows diags z rows' diags'
        → ListsLinked all_of_it m rows diags z links₁ rows' diags'
    unfolding traced_on
    links-filled f s {z} {rows'} {diags'} w =
        record {
          lists = subst (λ (a : Answer TracedList). Lists a m rows diags z rows' diags')
              (ap (λ (n : ℕ). answer_of same_bytes n m rows diags) s
              ∙ sym (within a ∙ ap (traced_on same_bytes k (room_in (length rows) (length diags)) m) (accepted-is m links q links₁ e f))) w;
          linked = λ l g. e.linked f;
        }

-- ---- THE CALL: links, rows and diags are the outputs at entry, rows₁ and diags₁ the cleared ones, links₂, rows₂ and diags₂ what was written into them

module _ (k : ℕ) (m : Tables) (links rows diags rows₁ diags₁ : List ℕ) (e : rows₁ ≡ zeros (length rows)) (f : diags₁ ≡ zeros (length diags)) (z : Result Listed Told) (links₂ rows₂ diags₂ : List ℕ)
    (h : ListsLinked (answer_for k m links rows₁ diags₁) m rows₁ diags₁ z links₂ rows₂ diags₂)
    (s : length links₂ ≡ length links) where
  abbrev answer : Answer TracedList
  answer = answer_for k m links rows diags

  same_answer : answer_for k m links rows₁ diags₁ ≡ answer
  same_answer = ap₂ (λ (r d : ℕ). traced_answer same_bytes k (links_in (length links)) (room_in r d) m) (zeros-length rows₁ (length rows) e) (zeros-length diags₁ (length diags) f)

  told-answer : z ≡ handed listed answer
  told-answer = h.lists.answer ∙ ap (handed listed) same_answer

  -- demand 3 of rows that are handed back
  limited : (out : List ℕ) → out ≡ output (length rows) (traced_row_numbers m) answer → (l : Listed) → z ≡ Ok l → (rows_back m l.rows out ≡ unlimited same_bytes m) ↔ NoneHasNext same_bytes k m
  limited out u l g =
      let x = handed-ok listed z answer told-answer l g in
      subst (λ (y : Listed). (rows_back m y.rows out ≡ unlimited same_bytes m) ↔ NoneHasNext same_bytes k m) (sym x.2)
      (subst (λ (o : List ℕ). (rows_back m (length x.0.rows) o ≡ unlimited same_bytes m) ↔ NoneHasNext same_bytes k m) (sym (u ∙ ap (output (length rows) (traced_row_numbers m)) x.1))
      (demand-three-output same_bytes k (links_in (length links)) (room_in (length rows) (length diags)) m x.0 (length rows) x.1))

  -- a list is given
  pub given-call : is_err z ≡ false → TracedInto k m links rows diags z links₂ rows₂ diags₂
  given-call g =
      record {
        answer = told-answer;
        written-links = links-given m links₂ (h.linked came.0 came.1) answer (length links) t s;
        written-rows = written-rows;
        written-diagnostics = keeps traced_diag_numbers answer diags₁ diags₂ (length diags) t f (subst (λ (a : Answer TracedList). AnswerIn traced_diag_numbers a diags₁ diags₂) same_answer h.lists.in_diagnostics);
        children-by-links = λ l g. links-walked m links₂ (h.linked l g);
        step-limit = limited rows₂ written-rows;
      }
    where
      came : (l : Listed) × (z ≡ Ok l)
      came = no-refusal z g

      t : T (is_given answer)
      t = came-given listed answer (ap is_err (sym told-answer) ∙ g)

      written-rows : rows₂ ≡ output (length rows) (traced_row_numbers m) answer
      written-rows = keeps (traced_row_numbers m) answer rows₁ rows₂ (length rows) t e (subst (λ (a : Answer TracedList). AnswerIn (traced_row_numbers m) a rows₁ rows₂) same_answer h.lists.in_rows)
