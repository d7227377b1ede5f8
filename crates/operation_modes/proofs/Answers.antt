-- The number of selections, and the ways out of the call for one. Assumes nothing.
use mathlib.Core.Bool.{not}
use mathlib.Core.Path.{◌≡◌, refl, sym, ap, ap₂, ◌∙◌, subst}
use mathlib.Core.List.{List, [], ◌∷◌}
use Prim.Native.Nat.{ℕ, suc, ◌+◌, ◌%◌, ◌≤◌, ◌<◌}
use native.Mathlib.Decide.{dec_le}
use native.Mathlib.Omega.{arith}
use borrow.Author.Tests.{lt-ltb, le-ltb}
use lib.Dec.{T, ltb, ltb→lt}
use lib.ListN.{length, get_or, take, drop}
use lib.Seq.{sets, sets-eq, take-append_seam}
use Rattle.std.specs.Prelude.{Option, Some, None, Result, Ok, Err}
use Rattle.std.specs.Option.{ok_or}
use Rattle.as5506.specs.Lists.{up_to, keep, is_nil}
use Rattle.as5506.specs.Tables.{Tables, modes_of, count, letter_c}
use Rattle.as5506.specs.Answers.{nowhere, refusal, Answer, given, refused, told, handed}
use Rattle.as5506.specs.declared.Refusal.{Refusal as Told}
use Rattle.as5506.specs.Modes.{modal, selection_limit, is_cut, combinations, selections, joined_name, Selection, selection_at, selection_within, selection_on, modes_counted}
use Rattle.as5506.specs.Digits.{counted, pick}
use Rattle.as5506.proofs.Laws.{map_same, up_to-all}
use Rattle.as5506.proofs.Modes.{no-modes, number-some, number-over, by_digits}
use Rattle.lent.specs.Printed.{Printed}
use Rattle.lent.proofs.Answered.{given-in, refused-in}
use Rattle.lent.proofs.Pieces.{printed-some, printed-none}
use Rattle.operation_modes.specs.declared.combine.Combined.{Combined}
use Rattle.operation_modes.specs.declared.Selected.{Selected}
use Rattle.operation_modes.specs.declared.link.Linked.{Linked}
use Rattle.operation_modes.specs.Linked.{modes_linked, Links, modal_of}
use Rattle.operation_modes.specs.Combining.{Counts, number_of}
use Rattle.operation_modes.specs.Answer.{selected, selected_rows, selected_name, Selects}
use Rattle.operation_modes.proofs.Combining.{number-limit, number-none, number-product}

-- ---- what is linked and combined, of tables whose components are few

module _ {m : Tables} (fit : count m letter_c ≤ 4096) {l : Linked} (links : Links m l) {so : Combined} (s : Counts (modes_linked l) (count m letter_c) so) where
  abbrev modes : ℕ → List ℕ
  modes = modes_linked l

  abbrev front : List (List ℕ)
  front = modal_of modes (up_to so.end)

  modal-is : modal m ≡ modal_of modes (up_to (count m letter_c))
  unfolding modal modal_of
  modal-is =
      sym (ap (keep (λ ms. not (is_nil ms)))
      (map_same modes (modes_of m) (up_to (count m letter_c)) (up_to-all (λ o. modes o ≡ modes_of m o) (count m letter_c) (λ o h. links.are o (omega (arith, h, fit))))))

  front-none : modal m ≡ [] → front ≡ []
  unfolding counted
  front-none e = sym s.all ∙ ap (counted selection_limit 1) (sym modal-is ∙ e)

  front-whole : so.product ≤ 10000 → front ≡ modal m
  front-whole h = ap (λ (k : ℕ). modal_of modes (up_to k)) (s.exact h) ∙ sym modal-is

  -- THE NUMBER OF SELECTIONS
  pub number_is : length (selections m) ≡ number_of so
  unfolding combinations
  number_is = go (modal m) refl (dec_le so.product 10000)
    where
      some : (ls : List (List ℕ)) (ms : List ℕ) (rest : List (List ℕ)) → ls ≡ ms ∷ rest → (length ls ≡ 0 → ⊥) × T (not (is_nil ls))
      some ls ms rest e = rw e ((λ z. omega (arith, z)), tt)

      go : (ls : List (List ℕ)) → modal m ≡ ls → Dec (so.product ≤ 10000) → length (selections m) ≡ number_of so
      go [] e d =
          let none : front ≡ [] = front-none e in
          (no-modes m (rw e tt)).0 ∙ number-none so (omega (arith, s.product_is ∙ ap combinations none)) (s.chosen_is ∙ ap length none)
      go (ms ∷ rest) e (yes h) =
          let p : so.product ≡ combinations (modal m) = s.product_is ∙ ap combinations (front-whole h) in
          number-some m (some (modal m) ms rest e).1 (omega (arith, h, p)) ∙ sym p
          ∙ number-product so h (λ z. (some (modal m) ms rest e).0 (ap length (sym (front-whole h)) ∙ sym s.chosen_is ∙ z))
      go (ms ∷ rest) e (no h) =
          number-over m (some (modal m) ms rest e).1
          (ltb→lt 10000 (combinations (modal m)) (subst T (sym (lt-ltb 10000 so.product (omega (arith, h))) ∙ s.over ∙ ap (is_cut selection_limit) (sym modal-is)) tt))
          ∙ number-limit so (omega (arith, h))

  pub cut-is : ltb 10000 so.product ≡ is_cut selection_limit (modal m)
  cut-is = s.over ∙ ap (is_cut selection_limit) (sym modal-is)

  pub number_counted : (modes_counted m).number ≡ number_of so
  unfolding modes_counted
  number_counted = number_is

  pub cut_counted : (modes_counted m).cut ≡ ltb 10000 so.product
  unfolding modes_counted
  cut_counted = sym cut-is

  -- ---- the selection at number k

  pick-length : (l : List (List ℕ)) (k : ℕ) → length (pick l k) ≡ length l
  unfolding pick
  pick-length [] k = refl
  pick-length (ms ∷ l) k = ap suc (pick-length l (k % combinations l))

  module _ (k : ℕ) (out name : List ℕ) where
    abbrev chosen : List ℕ
    chosen = get_or (selections m) k []

    abbrev wanted : Answer Selection
    wanted = selection_on (length out) (length name) m k []

    refuses : (number : ℕ) → wanted ≡ refused (refusal number nowhere) → {t : Told} → t ≡ told (refusal number nowhere) → {out' name' : List ℕ} → Selects wanted out name (Err t) out' name'
    refuses number e f {out'} {name'} =
        record {
          answer = ap Err f ∙ sym (ap (handed selected) e);
          in_rows = refused-in selected_rows wanted out out' (refusal number nowhere) e;
          in-name = refused-in selected_name wanted name name' (refusal number nowhere) e;
        }

    module _ {number : ℕ} (e : number ≡ number_of so) where
      -- 20
      pub selects-20 : number ≤ k → {t : Told} → t ≡ told (refusal 20 nowhere) → {out' name' : List ℕ} → Selects wanted out name (Err t) out' name'
      unfolding selection_on selection_within
      selects-20 h = refuses 20 (rw (le-ltb k (length (selections m)) (omega (arith, e, h, number_is))))

      module _ (h : k < number) where
        there : k < length (selections m)
        there = omega (arith, e, h, number_is)

        chosen_is : chosen ≡ pick front k
        chosen_is = by_digits m k there ∙ ap (λ (l : List (List ℕ)). pick l k) (ap (counted selection_limit 1) modal-is ∙ s.all)

        chosen-length : length chosen ≡ so.chosen
        chosen-length = ap length chosen_is ∙ pick-length front k ∙ sym s.chosen_is

        -- 11
        pub selects-11 : length out < so.chosen → {t : Told} → t ≡ told (refusal 11 nowhere) → {out' name' : List ℕ} → Selects wanted out name (Err t) out' name'
        unfolding selection_on selection_within selection_at
        selects-11 i =
            refuses 11 (rw (lt-ltb k (length (selections m)) there, lt-ltb (length out) (length chosen) (omega (arith, i, chosen-length))))

        -- the rows are written, and the name joined
        module _ (i : so.chosen ≤ length out) {out₁ : List ℕ} (w : out₁ ≡ sets out 0 (pick front k))
            {z : Option ℕ} {name₁ : List ℕ} (j : Printed (joined_name m (take so.chosen out₁)) name z name₁)
            {t : Told} (f : t ≡ told (refusal 14 nowhere)) {q : Result ℕ Told} (g : q ≡ ok_or z t) where
          room : length chosen ≤ length out
          room = omega (arith, i, chosen-length)

          rows_are : out₁ ≡ sets out 0 chosen
          rows_are = w ∙ ap (sets out 0) (sym chosen_is)

          front-is : take so.chosen out₁ ≡ chosen
          front-is = ap₂ take (sym chosen-length) rows_are ∙ ap (take (length chosen)) (sets-eq chosen out 0 (omega (arith, room))) ∙ take-append_seam chosen (drop (0 + length chosen) out)

          joined : Printed (joined_name m chosen) name z name₁
          joined = subst (λ (l : List ℕ). Printed (joined_name m l) name z name₁) front-is j

          -- 14
          pub selects-14 : {r : Told} → q ≡ Err r → {x : Result Selected Told} → x ≡ Err r → Selects wanted out name x out₁ name₁
          unfolding selection_on selection_within selection_at
          selects-14 {r} u v =
              let n : (z ≡ None) × (r ≡ t) = grind arith in
              rw v
              (refuses 14
              (rw (lt-ltb k (length (selections m)) there, le-ltb (length out) (length chosen) room, lt-ltb (length name) (length (joined_name m chosen)) (printed-none joined n.0)))
              (n.1 ∙ f))

          -- all fit
          pub selects-all : {used : ℕ} → q ≡ Ok used → Selects wanted out name (Ok (record { rows = so.chosen; bytes = used })) out₁ name₁
          unfolding selection_on selection_within selection_at
          selects-all {used} u =
              let n : z ≡ Some used = grind arith in
              let p = printed-some joined n in
              let a : wanted ≡ given (selection_at m k) =
              rw (lt-ltb k (length (selections m)) there, le-ltb (length out) (length chosen) room, le-ltb (length name) (length (joined_name m chosen)) p.0) in
              record {
                answer = subst (λ (w : Answer Selection). Ok (record { rows = so.chosen; bytes = used }) ≡ handed selected w) (sym a) (ap₂ (λ (r b : ℕ). Ok (record { rows = r; bytes = b })) (sym chosen-length) p.1);
                in_rows = given-in selected_rows wanted out out₁ (selection_at m k) a room rows_are;
                in-name = given-in selected_name wanted name name₁ (selection_at m k) a p.0 p.2;
              }
