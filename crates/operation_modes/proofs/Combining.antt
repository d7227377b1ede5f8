-- The combinations of modes, one component after the other until they pass the limit, where each component has the modes `modes`. Assumes nothing.
use mathlib.Core.Bool.{Bool, true, false, not, ◌||◌}
use mathlib.Core.Path.{◌≡◌, refl, sym, ap, ◌∙◌}
use mathlib.Core.List.{List, [], ◌∷◌, ◌++◌, map, append_assoc, append-nil}
use Prim.Native.Nat.{ℕ, zero, suc, ◌+◌, ◌-◌, ◌*◌, ◌≤◌, ◌<◌}
use native.Mathlib.Nat.{sub-zero, add-zero, mul_assoc, mul-one, one-mul}
use native.Mathlib.Numerals.{add-one}
use native.Mathlib.Omega.{arith}
use borrow.Author.Tests.{lt-ltb, le-ltb, ltb-true, ltb-false, eqb-true, eqb-false}
use lib.Dec.{T, eqb, ltb}
use lib.ListN.{length, length-append}
use Rattle.std.proofs.Math.Bool.{or-false}
use Rattle.std.proofs.lemmas.Bool.Decides.{nat_tests}
use Rattle.as5506.specs.Lists.{span, up_to, put_if, is_nil}
use Rattle.as5506.specs.Modes.{selection_limit, is_cut, combinations}
use Rattle.as5506.specs.Digits.{counted_by, counted}
use Rattle.as5506.proofs.Laws.{All, all-of, all_keep}
use Rattle.as5506.proofs.Scans.{span-next, span-done}
use Rattle.as5506.proofs.Modes.{passes, passes-is}
use Rattle.operation_modes.specs.declared.combine.Combined.{Combined}
use Rattle.operation_modes.specs.Linked.{modal_of}
use Rattle.operation_modes.specs.Combining.{next_by, with_next, Counts, number_of}

-- ---- one row more

span_last : (i n : ℕ) → span i (suc n) ≡ span i n ++ ((i + n) ∷ [])
span_last i zero = ap (λ (k : ℕ). k ∷ []) (sym (add-zero i))
span_last i (suc n) = ap (λ (l : List ℕ). i ∷ l) (span_last (suc i) n ∙ ap (λ (k : ℕ). span (suc i) n ++ (k ∷ [])) (omega arith))

up_to-last : (i : ℕ) → up_to (i + 1) ≡ up_to i ++ (i ∷ [])
up_to-last i = ap up_to (add-one i) ∙ span_last 0 i ∙ ap (λ (k : ℕ). up_to i ++ (k ∷ [])) (omega arith)

-- ---- the components that have modes, of the rows of a list

module _ (modes : ℕ → List ℕ) where
  pub modal-full : (rows : List ℕ) → All (λ ms. 0 < length ms) (modal_of modes rows)
  unfolding modal_of
  modal-full rows =
      all_keep (λ ms. Unit {0}) (λ ms. 0 < length ms) (λ ms. not (is_nil ms)) some (map modes rows) (all-of (λ ms. Unit {0}) (λ ms. tt) (map modes rows))
    where
      some : (ms : List ℕ) → T (not (is_nil ms)) → Unit {0} → 0 < length ms
      some [] t u = absurd t
      some (x ∷ ms) t u = omega arith

  abbrev put_modes : List ℕ → List (List ℕ) → List (List ℕ)
  put_modes ms rest = put_if (not (is_nil ms)) ms rest

  put_some : (ms : List ℕ) (rest : List (List ℕ)) → (length ms ≡ 0 → ⊥) → put_modes ms rest ≡ ms ∷ rest
  put_some [] rest h = absurd (h refl)
  put_some (x ∷ ms) rest h = refl

  put_none : (ms : List ℕ) (rest : List (List ℕ)) → length ms ≡ 0 → put_modes ms rest ≡ rest
  put_none [] rest h = refl
  put_none (x ∷ ms) rest h = absurd (omega (arith, h))

  put_append : (ms : List ℕ) (a b : List (List ℕ)) → put_modes ms (a ++ b) ≡ put_modes ms a ++ b
  put_append [] a b = refl
  put_append (x ∷ ms) a b = refl

  modal-append : (a b : List ℕ) → modal_of modes (a ++ b) ≡ modal_of modes a ++ modal_of modes b
  unfolding modal_of
  modal-append [] b = refl
  modal-append (i ∷ a) b = ap (put_modes (modes i)) (modal-append a b) ∙ put_append (modes i) (modal_of modes a) (modal_of modes b)

  module _ (i n : ℕ) (h : i < n) where
    pub rest_some : (length (modes i) ≡ 0 → ⊥) → modal_of modes (span i (n - i)) ≡ modes i ∷ modal_of modes (span (i + 1) (n - (i + 1)))
    unfolding modal_of
    rest_some s = ap (modal_of modes) (span-next i n h) ∙ put_some (modes i) (modal_of modes (span (i + 1) (n - (i + 1)))) s

    pub rest-none : length (modes i) ≡ 0 → modal_of modes (span i (n - i)) ≡ modal_of modes (span (i + 1) (n - (i + 1)))
    unfolding modal_of
    rest-none s = ap (modal_of modes) (span-next i n h) ∙ put_none (modes i) (modal_of modes (span (i + 1) (n - (i + 1)))) s

  pub rest-done : (i n : ℕ) → n ≤ i → modal_of modes (span i (n - i)) ≡ []
  unfolding modal_of
  rest-done i n h = ap (modal_of modes) (span-done i n h)

  front-next : (i : ℕ) → modal_of modes (up_to (i + 1)) ≡ modal_of modes (up_to i) ++ put_modes (modes i) []
  unfolding modal_of
  front-next i = ap (modal_of modes) (up_to-last i) ∙ modal-append (up_to i) (i ∷ [])

  front-some : (i : ℕ) → (length (modes i) ≡ 0 → ⊥) → modal_of modes (up_to (i + 1)) ≡ modal_of modes (up_to i) ++ (modes i ∷ [])
  front-some i s = front-next i ∙ ap (λ (l : List (List ℕ)). modal_of modes (up_to i) ++ l) (put_some (modes i) [] s)

  front-none : (i : ℕ) → length (modes i) ≡ 0 → modal_of modes (up_to (i + 1)) ≡ modal_of modes (up_to i)
  front-none i s = front-next i ∙ ap (λ (l : List (List ℕ)). modal_of modes (up_to i) ++ l) (put_none (modes i) [] s) ∙ append-nil (modal_of modes (up_to i))

-- ---- the combinations of components in front, p in number

combinations-last : (l : List (List ℕ)) (ms : List ℕ) → combinations (l ++ (ms ∷ [])) ≡ combinations l * length ms
unfolding combinations
combinations-last [] ms = mul-one (length ms) ∙ sym (one-mul (length ms))
combinations-last (k ∷ l) ms = ap (λ (n : ℕ). length k * n) (combinations-last l ms) ∙ sym (mul_assoc (length k) (combinations l) (length ms))

-- those that count are those in front, and of the rest those that count where p selections stand before them
abbrev Grown : List (List ℕ) → ℕ → List (List ℕ) → List (List ℕ) → Type 0
Grown ls p front rest =
    (counted selection_limit 1 ls ≡ front ++ counted_by (ltb selection_limit p) (counted selection_limit p rest))
    × (p ≡ combinations front)
    × (passes selection_limit 1 ls ≡ ltb selection_limit p || passes selection_limit p rest)

grown-start : (ls : List (List ℕ)) → Grown ls 1 [] ls
unfolding combinations
grown-start ls = (refl, refl, refl)

grown-step : (ls : List (List ℕ)) (p : ℕ) (front : List (List ℕ)) (ms : List ℕ) (rest : List (List ℕ)) → p ≤ selection_limit → Grown ls p front (ms ∷ rest)
    → Grown ls (p * length ms) (front ++ (ms ∷ [])) rest
unfolding counted passes
grown-step ls p front ms rest h g =
    let f : ltb selection_limit p ≡ false = le-ltb selection_limit p h in (
      g.0 ∙ ap (λ (b : Bool). front ++ counted_by b (counted selection_limit p (ms ∷ rest))) f
          ∙ sym (append_assoc front (ms ∷ []) (counted_by (ltb selection_limit (p * length ms)) (counted selection_limit (p * length ms) rest))),
      ap (λ (k : ℕ). k * length ms) g.1 ∙ sym (combinations-last front ms),
      g.2 ∙ ap (λ (b : Bool). b || passes selection_limit p (ms ∷ rest)) f,
    )

grown-over : (ls : List (List ℕ)) (p : ℕ) (front rest : List (List ℕ)) → selection_limit < p → Grown ls p front rest
    → (counted selection_limit 1 ls ≡ front) × (passes selection_limit 1 ls ≡ ltb selection_limit p)
grown-over ls p front rest h g =
    let t : ltb selection_limit p ≡ true = lt-ltb selection_limit p h in (
      g.0 ∙ ap (λ (b : Bool). front ++ counted_by b (counted selection_limit p rest)) t ∙ append-nil front,
      g.2 ∙ ap (λ (b : Bool). b || passes selection_limit p rest) t ∙ sym t,
    )

grown-end : (ls : List (List ℕ)) (p : ℕ) (front : List (List ℕ)) → Grown ls p front [] → (counted selection_limit 1 ls ≡ front) × (passes selection_limit 1 ls ≡ ltb selection_limit p)
unfolding counted passes
grown-end ls p front g = (g.0 ∙ ap (λ (l : List (List ℕ)). front ++ l) (none (ltb selection_limit p)) ∙ append-nil front, g.2 ∙ or-false (ltb selection_limit p))
  where
    none : (b : Bool) → counted_by b [] ≡ []
    none true = refl
    none false = refl

-- ---- the loop

pub record Combining (modes : ℕ → List ℕ) (n i : ℕ) (so : Combined) : Type 0 where
  pub here : so.end ≡ i
  pub within : i ≤ n
  pub few : so.chosen ≤ i
  pub chosen_is : so.chosen ≡ length (modal_of modes (up_to i))
  pub grown : Grown (modal_of modes (up_to n)) so.product (modal_of modes (up_to i)) (modal_of modes (span i (n - i)))

module _ (modes : ℕ → List ℕ) (n : ℕ) where
  abbrev ls : List (List ℕ)
  ls = modal_of modes (up_to n)

  pub combining_start : Combining modes n 0 (record { product = 1; end = 0; chosen = 0 })
  unfolding modal_of
  combining_start =
      record {
        here = refl;
        within = omega arith;
        few = omega arith;
        chosen_is = refl;
        grown = rw (sub-zero n) (grown-start ls);
      }

  pub combining_turn : {i : ℕ} {so : Combined} → Combining modes n i so → i < n → ltb 10000 so.product ≡ false → {size : ℕ} → size ≡ length (modes i) → {z : Combined} → z ≡ with_next so size → Combining modes n (i + 1) z
  combining_turn {i} {so} s h p {size} e f = rw f (go (eqb size 0) refl)
    where
      go : (b : Bool) → eqb size 0 ≡ b → Combining modes n (i + 1) (next_by b so size)
      go true q =
          let none : length (modes i) ≡ 0 = sym e ∙ eqb-true size 0 q in
          record {
            here = ap (λ (k : ℕ). k + 1) s.here;
            within = omega (arith, h);
            few = omega (arith, s.few);
            chosen_is = s.chosen_is ∙ ap length (sym (front-none modes i none));
            grown = rw (front-none modes i none) (rw (rest-none modes i n h none) at s.grown);
          }
      go false q =
          let some : length (modes i) ≡ 0 → ⊥ = λ (k : length (modes i) ≡ 0). eqb-false size 0 q (e ∙ k) in
          record {
            here = ap (λ (k : ℕ). k + 1) s.here;
            within = omega (arith, h);
            few = omega (arith, s.few);
            chosen_is = omega (arith, s.chosen_is, ap length (front-some modes i some), length-append (modal_of modes (up_to i)) (modes i ∷ []));
            grown =
                rw (e, front-some modes i some)
                (grown-step ls so.product (modal_of modes (up_to i)) (modes i) (modal_of modes (span (i + 1) (n - (i + 1)))) (ltb-false 10000 so.product p) (rw (rest_some modes i n h some) at s.grown));
          }

  cut-is : (p : ℕ) → passes selection_limit 1 ls ≡ ltb selection_limit p → ltb selection_limit p ≡ is_cut selection_limit ls
  cut-is p e = sym e ∙ passes-is selection_limit 1 ls (modal-full modes (up_to n)) (omega arith) ∙ ap (ltb selection_limit) (one-mul (combinations ls))

  -- it ends where the combinations pass the limit, or no component is left
  pub combining-end : (i : ℕ) (so : Combined) → Combining modes n i so → (counted selection_limit 1 ls ≡ modal_of modes (up_to i)) × (passes selection_limit 1 ls ≡ ltb selection_limit so.product)
      → (so.product ≤ selection_limit → i ≡ n) → Counts modes n so
  combining-end i so s g x =
      record {
        within = omega (arith, s.here, s.within);
        exact = λ k. s.here ∙ x k;
        all = rw s.here g.0;
        product_is = rw s.here s.grown.1;
        chosen_is = rw s.here s.chosen_is;
        over = cut-is so.product g.1;
      }

  pub combining_over : (i : ℕ) (so : Combined) → ltb 10000 so.product ≡ true → Combining modes n i so → Counts modes n so
  combining_over i so h s =
      let l : 10000 < so.product = ltb-true 10000 so.product h in
      combining-end i so s (grown-over ls so.product (modal_of modes (up_to i)) (modal_of modes (span i (n - i))) l s.grown) (λ k. absurd (omega (arith, l, k)))

  pub combining_whole : (i : ℕ) (so : Combined) → n ≤ i → Combining modes n i so → Counts modes n so
  combining_whole i so h s =
      combining-end i so s (grown-end ls so.product (modal_of modes (up_to i)) (rw (rest-done modes i n h) at s.grown)) (λ k. omega (arith, h, s.within))

-- ---- how many selections there are, of what is combined

module _ (so : Combined) where
  pub number-limit : 10000 < so.product → 10000 ≡ number_of so
  number-limit h = grind (arith, nat_tests)

  pub number-none : so.product ≤ 10000 → so.chosen ≡ 0 → 0 ≡ number_of so
  number-none h e = grind (arith, nat_tests)

  pub number-product : so.product ≤ 10000 → (so.chosen ≡ 0 → ⊥) → so.product ≡ number_of so
  number-product h e = grind (arith, nat_tests)
