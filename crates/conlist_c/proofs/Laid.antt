-- From a listing in the front of the numbers that are lent for records to all of them, and to the records. Assumes nothing.
use mathlib.Core.Path.{◌≡◌, refl, sym, ap, subst, ◌∙◌}
use mathlib.Core.List.{List, ◌++◌, append_assoc}
use Prim.Native.Nat.{ℕ, ◌+◌, ◌-◌, ◌/◌, ◌≤◌, min}
use native.Mathlib.Omega.{arith}
use lib.ListN.{length, take, drop, length-append, length-replicate, replicate-append-replicate}
use lib.Seq.{length-take-le}
use Rattle.as5506.specs.Lists.{each, same_bytes, zeros, padded}
use Rattle.as5506.specs.Tables.{Tables}
use Rattle.as5506.specs.Names.{Comparison}
use Rattle.as5506.specs.Answers.{Answer, given, refused}
use Rattle.as5506.specs.Rows.{Diag}
use Rattle.as5506.specs.Listing.{Room, TracedList, GroupList, BothLists, traced_answer, group_answer, both_answer}
use Rattle.as5506.specs.Layout.{links_in, diag_numbers, diag_block, room_in, output, traced_diag_numbers, group_diag_numbers, of_traced, of_group}
use Rattle.as5506.proofs.Laws.{zeros-length}
use Rattle.lent.proofs.Sets.{drop-zeros}
use Rattle.instance.specs.Answer.{answer_for as traced_here}
use Rattle.group_list.specs.Answer.{answer_for as group_here}
use Rattle.listing.specs.Answer.{Outputs, outputs, answer_for as both_here}
use Rattle.listing.proofs.Given.{Holds, traced_fit, group-fit, both-fit}
use Rattle.conlist_c.specs.declared.diagnostic.Diagnostic.{Diagnostic}
use Rattle.conlist_c.specs.Told.{TracedTold, GroupTold, BothTold}
use Rattle.conlist_c.specs.Records.{records_from, records}
use Rattle.conlist_c.specs.WithRecords.{room_with, traced_for, group_for, both_for, TracedRecords, GroupRecords, BothRecords}
use Rattle.conlist_c.proofs.Records.{records-of, records-refused}

-- ---- the front of the numbers, and zeros behind it

-- `part` is the front as a listing found it, part' as it left it; `cleared` all of the n numbers, zeros. They are enough for `room` diagnostics
pub record Front (n room end : ℕ) (part part' cleared : List ℕ) : Type 0 where
  pub within : end ≤ n
  pub enough : end / diag_numbers ≡ room
  pub size : length part ≡ end
  pub same : length part' ≡ end
  pub zero : cleared ≡ zeros n

-- as much as was asked for
pub front-size : (n end : ℕ) (cleared : List ℕ) → end ≤ n → cleared ≡ zeros n → end ≡ length (take end cleared)
front-size n end cleared h e = sym (length-take-le end cleared (omega (arith, h, zeros-length cleared n e)))

pub front : (n room end : ℕ) (cleared part' : List ℕ) → (end ≤ n) × (end / diag_numbers ≡ room) → cleared ≡ zeros n → length part' ≡ length (take end cleared)
    → Front n room end (take end cleared) part' cleared
front n room end cleared part' h e k =
    let size = sym (front-size n end cleared h.0 e) in
    record { within = h.0; enough = h.1; size = size; same = k ∙ size; zero = e }

laid : {A : Type 0} (f : A → List ℕ) (a : Answer A) (n end : ℕ) (part' : List ℕ) → end ≤ n → length part' ≡ end → part' ≡ output end f a
    → part' ++ drop end (zeros n) ≡ output n f a
unfolding padded
laid f (given x) n end part' h l e =
    let k : length (f x) ≤ end = omega (arith, sym l ∙ ap length e ∙ length-append (f x) (zeros (end - length (f x))), length-replicate {A = ℕ} (end - length (f x)) 0) in
    let r : end - length (f x) + (n - end) ≡ n - length (f x) = omega (arith, h, k) in
    ap (λ (p : List ℕ). p ++ drop end (zeros n)) e ∙ ap (λ (q : List ℕ). (f x ++ zeros (end - length (f x))) ++ q) (drop-zeros end n)
    ∙ append_assoc (f x) (zeros (end - length (f x))) (zeros (n - end))
    ∙ ap (λ (q : List ℕ). f x ++ q) (replicate-append-replicate {A = ℕ} (end - length (f x)) (n - end) 0 ∙ ap zeros r)
laid f (refused r) n end part' h l e =
    let s : end + (n - end) ≡ n = omega (arith, h) in
    ap (λ (p : List ℕ). p ++ drop end (zeros n)) e ∙ ap (λ (q : List ℕ). zeros end ++ q) (drop-zeros end n) ∙ replicate-append-replicate {A = ℕ} end (n - end) 0 ∙ ap zeros s

-- all of the numbers hold what the front does
all_hold : {A : Type 0} (f : A → List ℕ) (a : Answer A) (n room end : ℕ) (part part' cleared : List ℕ) → Front n room end part part' cleared → part' ≡ output (length part) f a
    → part' ++ drop end cleared ≡ output n f a
all_hold f a n room end part part' cleared h e =
    ap (λ (l : List ℕ). part' ++ drop end l) h.zero ∙ laid f a n end part' h.within h.same (e ∙ ap (λ (k : ℕ). output k f a) h.size)

-- the room in the front is that of the records
front-room : (rows n count end : ℕ) (part part' cleared : List ℕ) → Front n (min count (n / diag_numbers)) end part part' cleared → room_in rows (length part) ≡ room_with rows n count
front-room rows n count end part part' cleared h =
    let e : length part / diag_numbers ≡ min count (n / diag_numbers) = ap (λ (k : ℕ). k / diag_numbers) h.size ∙ h.enough in
    λ i. record { rows = (room_in rows n).rows; diags = e i }

-- ---- each listing

pub traced-laid : (k : ℕ) (m : Tables) (links rows numbers : List ℕ) (count end : ℕ) (part part' cleared told' links' rows' : List ℕ)
    → Front (length numbers) (min count (length numbers / diag_numbers)) end part part' cleared
    → TracedTold (traced_here k m links rows part) k m links rows part told' links' rows' part'
    → TracedTold (traced_for k m links rows numbers count) k m links rows numbers told' links' rows' (part' ++ drop end cleared)
traced-laid k m links rows numbers count end part part' cleared told' links' rows' f h =
    subst (λ (room : Room). TracedTold (traced_answer same_bytes k (links_in (length links)) room m) k m links rows numbers told' links' rows' (part' ++ drop end cleared)) (front-room (length rows) (length numbers) count end part part' cleared f)
    (record {
      told = h.told;
      outputs-hold = record {
        answer = refl;
        written-links = h.outputs-hold.written-links;
        written-rows = h.outputs-hold.written-rows;
        written-diagnostics = all_hold traced_diag_numbers (traced_here k m links rows part) (length numbers) _ end part part' cleared f h.outputs-hold.written-diagnostics;
        children-by-links = h.outputs-hold.children-by-links;
        step-limit = h.outputs-hold.step-limit;
      };
    })

pub group-laid : (m : Tables) (links rows names numbers : List ℕ) (count end : ℕ) (part part' cleared told' links' rows' names' : List ℕ)
    → Front (length numbers) (min count (length numbers / diag_numbers)) end part part' cleared
    → GroupTold (group_here m links rows names part) m links rows names part told' links' rows' names' part'
    → GroupTold (group_for m links rows names numbers count) m links rows names numbers told' links' rows' names' (part' ++ drop end cleared)
group-laid m links rows names numbers count end part part' cleared told' links' rows' names' f h =
    subst (λ (room : Room). GroupTold (group_answer same_bytes (links_in (length links)) room (length names) m) m links rows names numbers told' links' rows' names' (part' ++ drop end cleared))
    (front-room (length rows) (length numbers) count end part part' cleared f)
    (record {
      told = h.told;
      outputs-hold = record {
        answer = refl;
        written-links = h.outputs-hold.written-links;
        written-rows = h.outputs-hold.written-rows;
        written-names = h.outputs-hold.written-names;
        written-diagnostics = all_hold group_diag_numbers (group_here m links rows names part) (length numbers) _ end part part' cleared f h.outputs-hold.written-diagnostics;
        children-by-links = h.outputs-hold.children-by-links;
      };
    })

pub both-laid : (same : Comparison) (k : ℕ) (m : Tables) (links rows numbers grows names gnumbers : List ℕ) (count gcount end gend : ℕ) (part part' cleared gpart gpart' gcleared told' links' rows' grows' names' : List ℕ)
    → Front (length numbers) (min count (length numbers / diag_numbers)) end part part' cleared
    → Front (length gnumbers) (min gcount (length gnumbers / diag_numbers)) gend gpart gpart' gcleared
    → BothTold same (both_here same k m (outputs links rows part grows names gpart)) k m (outputs links rows part grows names gpart) told' (outputs links' rows' part' grows' names' gpart')
    → BothTold same (both_for same k m (outputs links rows numbers grows names gnumbers) count gcount) k m (outputs links rows numbers grows names gnumbers) told'
    (outputs links' rows' (part' ++ drop end cleared) grows' names' (gpart' ++ drop gend gcleared))
both-laid same k m links rows numbers grows names gnumbers count gcount end gend part part' cleared gpart gpart' gcleared told' links' rows' grows' names' f g h =
    let wanted : Answer BothLists = both_here same k m (outputs links rows part grows names gpart) in
    let here : Room → Room → Type 0
    = λ (room room' : Room). BothTold same (both_answer same k (links_in (length links)) room room' (length names) m) k m (outputs links rows numbers grows names gnumbers) told'
    (outputs links' rows' (part' ++ drop end cleared) grows' names' (gpart' ++ drop gend gcleared)) in
    subst (λ (room : Room). here room (room_with (length grows) (length gnumbers) gcount)) (front-room (length rows) (length numbers) count end part part' cleared f)
    (subst (λ (room : Room). here (room_in (length rows) (length part)) room) (front-room (length grows) (length gnumbers) gcount gend gpart gpart' gcleared g)
    (record {
      told = h.told;
      outputs-hold = record {
        answer = refl;
        written-links = h.outputs-hold.written-links;
        written-rows = h.outputs-hold.written-rows;
        written-diagnostics = all_hold (of_traced traced_diag_numbers) wanted (length numbers) _ end part part' cleared f h.outputs-hold.written-diagnostics;
        written-group-rows = h.outputs-hold.written-group-rows;
        written-names = h.outputs-hold.written-names;
        written-group-diagnostics = all_hold (of_group group_diag_numbers) wanted (length gnumbers) _ gend gpart gpart' gcleared g h.outputs-hold.written-group-diagnostics;
        children-by-links = h.outputs-hold.children-by-links;
        step-limit = h.outputs-hold.step-limit;
      };
    }))

-- ---- the records that are filled from the numbers

filled-records : {A : Type 0} (diags : A → List Diag) (f : A → List ℕ) (a : Answer A) (numbers' : List ℕ) (n k : ℕ) → ((x : A) → f x ≡ each diag_block (diags x))
    → Holds (λ x. length (diags x) ≤ k) a → numbers' ≡ output n f a → records_from numbers' 0 k ≡ records k diags a
filled-records diags f (given x) numbers' n k same h e = records-of (diags x) numbers' n k (e ∙ ap (padded n) (same x)) h
filled-records diags f (refused r) numbers' n k same h e = records-refused numbers' n k e

-- what holds of an answer that is given, weakened
holds-map : {A : Type 0} (P Q : A → Type 0) (a : Answer A) → ((x : A) → P x → Q x) → Holds P a → Holds Q a
holds-map P Q (given x) g h = g x h
holds-map P Q (refused r) g h = tt

-- no more than the records are room for
under : (rows n count k : ℕ) → k ≤ (room_with rows n count).diags → k ≤ count
under rows n count k h = omega (arith, h)

pub traced-records : (k : ℕ) (m : Tables) (links rows numbers : List ℕ) (out : List Diagnostic) (told' links' rows' numbers' : List ℕ) (out' : List Diagnostic)
    → TracedTold (traced_for k m links rows numbers (length out)) k m links rows numbers told' links' rows' numbers' → out' ≡ records_from numbers' 0 (length out)
    → TracedRecords k m links rows numbers out told' links' rows' numbers' out'
unfolding traced_diag_numbers
traced-records k m links rows numbers out told' links' rows' numbers' out' h e =
    let room : Room = room_with (length rows) (length numbers) (length out) in
    record {
      as-numbers = h;
      as-records = e ∙ filled-records (λ (l : TracedList). l.diags) traced_diag_numbers (traced_answer same_bytes k (links_in (length links)) room m) numbers' (length numbers) (length out) (λ x. refl)
          (holds-map _ _ (traced_answer same_bytes k (links_in (length links)) room m) (λ x t. under (length rows) (length numbers) (length out) (length x.diags) t.diags) (traced_fit same_bytes k (links_in (length links)) room m)) h.outputs-hold.written-diagnostics;
    }

pub group-records : (m : Tables) (links rows names numbers : List ℕ) (out : List Diagnostic) (told' links' rows' names' numbers' : List ℕ) (out' : List Diagnostic)
    → GroupTold (group_for m links rows names numbers (length out)) m links rows names numbers told' links' rows' names' numbers' → out' ≡ records_from numbers' 0 (length out)
    → GroupRecords m links rows names numbers out told' links' rows' names' numbers' out'
unfolding group_diag_numbers
group-records m links rows names numbers out told' links' rows' names' numbers' out' h e =
    let room : Room = room_with (length rows) (length numbers) (length out) in
    record {
      as-numbers = h;
      as-records = e ∙ filled-records (λ (g : GroupList). g.diags) group_diag_numbers (group_answer same_bytes (links_in (length links)) room (length names) m) numbers' (length numbers) (length out) (λ x. refl)
          (holds-map _ _ (group_answer same_bytes (links_in (length links)) room (length names) m) (λ x t. under (length rows) (length numbers) (length out) (length x.diags) t.diags) (group-fit same_bytes (links_in (length links)) room (length names) m))
          h.outputs-hold.written-diagnostics;
    }

pub both-records : (same : Comparison) (k : ℕ) (m : Tables) (o : Outputs) (out group-out : List Diagnostic) (told' : List ℕ) (p : Outputs) (out' group-out' : List Diagnostic)
    → BothTold same (both_for same k m o (length out) (length group-out)) k m o told' p → out' ≡ records_from p.diags 0 (length out) → group-out' ≡ records_from p.group-diags 0 (length group-out)
    → BothRecords same k m o out group-out told' p out' group-out'
unfolding traced_diag_numbers group_diag_numbers
both-records same k m o out group-out told' p out' group-out' h e g =
    let a : Answer BothLists = both_for same k m o (length out) (length group-out) in
    let fits = both-fit same k (links_in (length o.links)) (room_with (length o.rows) (length o.diags) (length out)) (room_with (length o.group-rows) (length o.group-diags) (length group-out)) (length o.names) m in
    record {
      as-numbers = h;
      as-records = e ∙ filled-records (λ (b : BothLists). b.traced.diags) (of_traced traced_diag_numbers) a p.diags (length o.diags) (length out) (λ x. refl)
          (holds-map _ _ a (λ x t. under (length o.rows) (length o.diags) (length out) (length x.traced.diags) t.traced.diags) fits) h.outputs-hold.written-diagnostics;
      as-group-records = g ∙ filled-records (λ (b : BothLists). b.group.diags) (of_group group_diag_numbers) a p.group-diags (length o.group-diags) (length group-out) (λ x. refl)
          (holds-map _ _ a (λ x t. under (length o.group-rows) (length o.group-diags) (length group-out) (length x.group.diags) t.group.diags) fits) h.outputs-hold.written-group-diagnostics;
    }
