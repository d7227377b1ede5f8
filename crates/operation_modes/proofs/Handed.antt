-- The words of 02 (xi) about selections, of what the two calls hand back: from their contracts alone. Assumes nothing.
use mathlib.Core.Bool.{Bool, true, false, not}
use mathlib.Core.Logic.{◌↔◌}
use mathlib.Core.Path.{◌≡◌, refl, sym, ap, ap₂, ◌∙◌, subst}
use mathlib.Core.List.{List, [], ◌∷◌, ◌++◌}
use Prim.Native.Nat.{ℕ, ◌<◌, ◌≤◌}
use native.Mathlib.Decide.{dec_le}
use native.Mathlib.Omega.{arith}
use borrow.Author.Tests.{lt-ltb, le-ltb}
use lib.Dec.{T, ltb, ltb→lt}
use lib.ListN.{length, get_or, take, length-replicate}
use Rattle.std.specs.Prelude.{Ok}
use Rattle.as5506.specs.Lists.{is_nil, zeros, padded}
use Rattle.as5506.specs.Tables.{Tables}
use Rattle.as5506.specs.Answers.{Refusal, given, fault, told, handed}
use Rattle.as5506.specs.Refusals.{faults, accepted}
use Rattle.as5506.specs.Followed.{In}
use Rattle.as5506.specs.Layout.{output}
use Rattle.as5506.specs.Modes.{modal, is_cut, selection_limit, selections, joined_name, modes_counted, modes_on, modes_answer, Selection, selection_at, selection_within, selection_on, selection_answer}
use Rattle.as5506.specs.Combined.{Lacks}
use Rattle.as5506.proofs.Answers.{refused-not, unless-given, unless-nil, handed-ok, ok-same, ok-not-err}
use Rattle.as5506.proofs.Members.{at_in, in-at}
use Rattle.as5506.proofs.Modes.{given-once, none-without-modes, cut-if-lacking}
use Rattle.lent.proofs.Padded.{padded-front}
use Rattle.operation_modes.specs.declared.Modes.{Modes}
use Rattle.operation_modes.specs.declared.Selected.{Selected}
use Rattle.operation_modes.specs.Answer.{modes_told, selected, selected_rows, selected_name}
use Rattle.operation_modes.specs.Handed.{Hands, HandedOnce, CountedNone, CutHanded, HandedBelow}
use Rattle.operation_modes.proofs.Calls.{counted-answer, selected-answer}

-- ---- what a call hands back is the selection at its number

-- what is given: the tables are accepted, the number is below the number of selections
answer-given : (a b : ℕ) (m : Tables) (k : ℕ) (s : Selection) → selection_answer a b m k ≡ given s → (k < length (selections m)) × (s ≡ selection_at m k)
unfolding selection_answer selection_on selection_within
answer-given a b m k s = go (faults m)
  where
    go : (fs : List Refusal) → selection_on a b m k fs ≡ given s → (k < length (selections m)) × (s ≡ selection_at m k)
    go (r ∷ fs) e = absurd (refused-not r s e)
    go [] e = (
      below (ltb k (length (selections m))) refl
          (unless-nil (fault 20 (not (ltb k (length (selections m)))) ++ fault 11 (ltb a (length (selection_at m k).rows)) ++ fault 14 (ltb b (length (selection_at m k).name))) (selection_at m k) s e),
      unless-given (fault 20 (not (ltb k (length (selections m)))) ++ fault 11 (ltb a (length (selection_at m k).rows)) ++ fault 14 (ltb b (length (selection_at m k).name))) (selection_at m k) s e,
    )
      where
        below : (t : Bool) → ltb k (length (selections m)) ≡ t
            → T (is_nil (fault 20 (not t) ++ fault 11 (ltb a (length (selection_at m k).rows)) ++ fault 14 (ltb b (length (selection_at m k).name)))) → k < length (selections m)
        below true q n = ltb→lt k (length (selections m)) (subst T (sym q) tt)
        below false q n = absurd n

pub hands-selection : (m : Tables) (k : ℕ) (s : List ℕ) → Hands m k s → (k < length (selections m)) × (s ≡ get_or (selections m) k [])
unfolding selection_at
hands-selection m k s h =
    let a = handed-ok selected _ _ h.call.answer _ refl in
    let g = answer-given (length h.rows) (length h.name) m k a.0 a.1 in (
      g.0,
      sym h.handed ∙ ap₂ take (ap (λ (z : Selected). z.rows) a.2) (h.call.written-rows ∙ ap (output (length h.rows) selected_rows) a.1) ∙ padded-front (length h.rows) a.0.rows ∙ ap selected_rows g.1,
    )

-- a call with outputs that are long enough hands it back
pub selection-handed : (m : Tables) (k : ℕ) → T (accepted m) → k < length (selections m) → Hands m k (get_or (selections m) k [])
unfolding selection_on selection_within selection_at
selection-handed m k ok h =
    record {
      rows = zeros (length s);
      name = zeros (length (joined_name m s));
      number = length s;
      bytes = length (joined_name m s);
      rows' = padded (length (zeros (length s))) s;
      name' = padded (length (zeros (length (joined_name m s)))) (joined_name m s);
      call = record { answer = sym (ap (handed selected) e); written-rows = sym (ap (output (length (zeros (length s))) selected_rows) e); written-name = sym (ap (output (length (zeros (length (joined_name m s)))) selected_name) e) };
      handed = padded-front (length (zeros (length s))) s;
    }
  where
    s : List ℕ
    s = get_or (selections m) k []

    e : selection_answer (length (zeros (length s))) (length (zeros (length (joined_name m s)))) m k ≡ given (selection_at m k)
    e =
        selected-answer m (length (zeros (length s))) (length (zeros (length (joined_name m s)))) k ok
        ∙ rw (lt-ltb k (length (selections m)) h, le-ltb (length (zeros (length s))) (length s) (omega (arith, length-replicate {A = ℕ} (length s) 0)), le-ltb (length (zeros (length (joined_name m s)))) (length (joined_name m s)) (omega (arith, length-replicate {A = ℕ} (length (joined_name m s)) 0)))

-- ---- THE THEOREMS

pub handed-once : (m : Tables) → HandedOnce m
handed-once m i j d s a b = go (dec_le i j) (hands-selection m i s a) (hands-selection m j s b)
  where
    go : Dec (i ≤ j) → (i < length (selections m)) × (s ≡ get_or (selections m) i []) → (j < length (selections m)) × (s ≡ get_or (selections m) j []) → ⊥
    go (yes h) p q = given-once m i j (omega (arith, h, d)) q.0 (sym p.1 ∙ q.1)
    go (no h) p q = given-once m j i (omega (arith, h)) p.0 (sym q.1 ∙ p.1)

pub counted_none : (m : Tables) → CountedNone m
unfolding modes_counted
counted_none m ok e =
    let n = none-without-modes m e in
    ap (handed modes_told) (counted-answer m ok) ∙ ap₂ (λ (k : ℕ) (b : Bool). Ok (record { number = k; cut = b })) n.0 n.1

-- the tables of a call that gives a count are accepted, and it is the definition's
counted-given : (m : Tables) (z : Modes) → handed modes_told (modes_answer m) ≡ Ok z → T (accepted m) × (z ≡ modes_told (modes_counted m))
unfolding modes_answer modes_on accepted
counted-given m z e = go (faults m) e
  where
    go : (fs : List Refusal) → handed modes_told (modes_on m fs) ≡ Ok z → T (is_nil fs) × (z ≡ modes_told (modes_counted m))
    go [] e = (tt, sym (ok-same _ _ e))
    go (r ∷ fs) e = absurd (ok-not-err z (told r) (sym e))

pub cut-handed : (m : Tables) → CutHanded m
unfolding modes_counted
cut-handed m h n b e = (
  (λ t. let l = exactly.0 (subst T (sym b-is) t) in (l.0, l.1, (λ k a. let p = hands-selection m k l.0 a in l.2 (subst (λ (s : List ℕ). In s (selections m)) (sym p.1) (at_in (selections m) [] k p.0))))),
  (λ l. subst T b-is (exactly.1 (l.0, l.1, (λ i. let p = in-at l.0 (selections m) [] i in l.2 p.0 (subst (Hands m p.0) (sym p.2) (selection-handed m p.0 ok p.1)))))),
)
  where
    ok : T (accepted m)
    ok = (counted-given m _ e).0

    exactly : T (is_cut selection_limit (modal m)) ↔ Lacks (modal m) (selections m)
    exactly = cut-if-lacking m ok h

    b-is : is_cut selection_limit (modal m) ≡ b
    b-is = sym (ap (λ (z : Modes). z.cut) (counted-given m _ e).1)

pub handed-below : (m : Tables) → HandedBelow m
unfolding modes_counted
handed-below m n b e k = (
  (λ l. (get_or (selections m) k [], selection-handed m k ok (omega (arith, l, n-is)))),
  (λ h. omega (arith, (hands-selection m k h.0 h.1).0, n-is)),
)
  where
    ok : T (accepted m)
    ok = (counted-given m _ e).0

    n-is : length (selections m) ≡ n
    n-is = sym (ap (λ (z : Modes). z.number) (counted-given m _ e).1)
