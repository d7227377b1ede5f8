-- 02 (xi): the selections of modes are the first combinations of the components that count; none is given twice; cut means that one is lacking.
-- Assumes nothing.
use mathlib.Core.Bool.{Bool, true, false, not, ◌||◌}
use mathlib.Core.Logic.{◌↔◌, ◌⊎◌, inl, inr}
use mathlib.Core.Path.{◌≡◌, refl, sym, ap, ap₂, ◌∙◌, subst}
use mathlib.Core.List.{List, [], ◌∷◌, ◌++◌, map, append_assoc, append-nil, map-id, map-map}
use Prim.Native.Nat.{ℕ, zero, suc, ◌+◌, ◌*◌, ◌/◌, ◌%◌, ◌≤◌, ◌<◌}
use native.Mathlib.Nat.{le_refl, mul_assoc, mul-one, mul-zero, one-mul, mul_comm, mul-le-mul_left, mul-lt-mul_of_pos_left, div-add-mod, mod-lt, div-lt_iff_lt-mul}
use native.Mathlib.Omega.{arith}
use borrow.Author.Tests.{ltb-true, ltb-false, le-ltb, lt-true}
use lib.Dec.{T, eqb, ltb, ltb→lt, eqb_refl}
use lib.ListN.{length, get_or, take, drop, length-map, length-take}
use lib.Seq.{length-take-le, take_all, get_or-take}
use Rattle.std.proofs.lemmas.List.{get_or-map}
use Rattle.as5506.specs.Lists.{up_to, keep, is_nil, each}
use Rattle.as5506.specs.Tables.{Tables, letter_c, letter_m, rows_of, rows_naming, count, c_count, m_owner, modes_of}
use Rattle.as5506.specs.Followed.{In}
use Rattle.as5506.specs.Modes.{modal, extended, grown_by, grown, selections_of, combinations, is_cut, selection_limit, selections}
use Rattle.as5506.specs.Combined.{GivenOnce, NoneWithoutModes, IsCombination, Lacks, CutIfLacking}
use Rattle.as5506.specs.Digits.{counted_by, counted, pick, ByDigits}
use Rattle.as5506.proofs.Laws.{All, all-at, row_at, all_map, all-of, all_keep, all_in, in_all, all-each, all-mapped, all-mapped-of, each_map, each-each, even-length}
use Rattle.as5506.specs.Refusals.{accepted}
use Rattle.as5506.proofs.Accepted.{mode-owner}
use Rattle.as5506.proofs.Sorted.{in_kept, in-up_to, Ordered, ordered-weaker, ordered-keep, up_to-ordered}
use Rattle.as5506.proofs.Members.{map_each, map-in, each-in, all-take, Apart, ordered-append, ordered-map, ordered-take, not-before, two-places}

-- ---- all combinations, the first component's mode changing slowest

unfoldable pub combos : List (List ℕ) → List (List ℕ)
combos [] = [] ∷ []
combos (ms ∷ rest) = each (λ x. map (λ s. x ∷ s) (combos rest)) ms

combos-length : (ls : List (List ℕ)) → length (combos ls) ≡ combinations ls
unfolding combos combinations
combos-length [] = refl
combos-length (ms ∷ rest) =
    even-length (length (combos rest)) (λ x. map (λ s. x ∷ s) (combos rest)) ms (all-of (λ x. length (map (λ s. x ∷ s) (combos rest)) ≡ length (combos rest)) (λ x. length-map (combos rest) (λ s. x ∷ s)) ms)
    ∙ ap (λ (n : ℕ). length ms * n) (combos-length rest)

-- ---- the growing list

-- each selection so far with each combination of the components that follow
abbrev joins : List (List ℕ) → List (List ℕ) → List (List ℕ)
joins so cs = each (λ s. map (λ t. s ++ t) cs) so

joins-nil : (so : List (List ℕ)) → joins so ([] ∷ []) ≡ so
joins-nil [] = refl
joins-nil (s ∷ so) = ap₂ ◌∷◌ (append-nil s) (joins-nil so)

joins-step : (so : List (List ℕ)) (ms : List ℕ) (c : List (List ℕ)) → joins so (combos (ms ∷ c)) ≡ joins (extended so ms) (combos c)
unfolding combos
joins-step so ms c =
    (λ i. each (λ s. one s i) so)
    ∙ sym (each-each (λ s. map (λ t. s ++ t) (combos c)) (λ s. map (λ x. s ++ (x ∷ [])) ms) so)
  where
    one : (s : List ℕ) → map (λ t. s ++ t) (each (λ x. map (λ t. x ∷ t) (combos c)) ms) ≡ joins (map (λ x. s ++ (x ∷ [])) ms) (combos c)
    one s =
        map_each (λ t. s ++ t) (λ x. map (λ t. x ∷ t) (combos c)) ms
        ∙ (λ i. each (λ x. (map-map (λ t. s ++ t) (λ t. x ∷ t) (combos c) ∙ (λ j. map (λ t. sym (append_assoc s (x ∷ []) t) j) (combos c))) i) ms)
        ∙ sym (each_map (λ s. map (λ t. s ++ t) (combos c)) (λ x. s ++ (x ∷ [])) ms)

extended-length : (so : List (List ℕ)) (ms : List ℕ) → length (extended so ms) ≡ length so * length ms
extended-length so ms = even-length (length ms) (λ s. map (λ x. s ++ (x ∷ [])) ms) so (all-of (λ s. length (map (λ x. s ++ (x ∷ [])) ms) ≡ length ms) (λ s. length-map ms (λ x. s ++ (x ∷ []))) so)

module _ (limit : ℕ) where
  grown-is : (so ls : List (List ℕ)) → length so ≤ limit → grown limit so ls ≡ take limit (joins so (combos (counted limit (length so) ls)))
  unfolding grown counted combos
  grown-is so [] h = sym (ap (take limit) (joins-nil so) ∙ take_all limit so h)
  grown-is so (ms ∷ rest) h =
      by (ltb limit (length (extended so ms))) refl (grown-is (extended so ms) rest)
      ∙ ap (take limit) (sym (joins-step so ms (counted_by (ltb limit (length so * length ms)) (counted limit (length so * length ms) rest))))
    where
      e : length (extended so ms) ≡ length so * length ms
      e = extended-length so ms

      by : (b : Bool) → ltb limit (length (extended so ms)) ≡ b
          → (length (extended so ms) ≤ limit → grown limit (extended so ms) rest ≡ take limit (joins (extended so ms) (combos (counted limit (length (extended so ms)) rest))))
          → grown_by b limit (extended so ms) (λ next. grown limit next rest)
          ≡ take limit (joins (extended so ms) (combos (counted_by (ltb limit (length so * length ms)) (counted limit (length so * length ms) rest))))
      by true q later = rw (sym (ap (ltb limit) e) ∙ q) (sym (ap (take limit) (joins-nil (extended so ms))))
      by false q later =
          rw (sym (ap (ltb limit) e) ∙ q)
          (later (ltb-false limit (length (extended so ms)) q)
          ∙ ap (λ (n : ℕ). take limit (joins (extended so ms) (combos (counted limit n rest)))) e)

  -- THE SELECTIONS ARE THE FIRST COMBINATIONS of the components that count
  pub selections-are : (ms : List ℕ) (rest : List (List ℕ)) → 1 ≤ limit → selections_of limit (ms ∷ rest) ≡ take limit (combos (counted limit 1 (ms ∷ rest)))
  unfolding selections_of
  selections-are ms rest h = grown-is ([] ∷ []) (ms ∷ rest) h ∙ ap (take limit) (alone (combos (counted limit 1 (ms ∷ rest))))
    where
      alone : (cs : List (List ℕ)) → joins ([] ∷ []) cs ≡ cs
      alone cs = append-nil (map (λ t. t) cs) ∙ map-id cs

-- ---- which components count

abbrev Full : List ℕ → Type 0
Full ms = 0 < length ms

pub some-combination : (ls : List (List ℕ)) → All Full ls → 0 < combinations ls
unfolding combinations
some-combination [] t = le_refl 1
some-combination (ms ∷ rest) t = subst (λ (n : ℕ). n < length ms * combinations rest) (mul-zero (length ms)) (mul-lt-mul_of_pos_left (some-combination rest t.1) t.0)

module _ (limit : ℕ) where
  -- all, where the combinations do not pass the limit
  all-count : (n : ℕ) (ls : List (List ℕ)) → All Full ls → n * combinations ls ≤ limit → counted limit n ls ≡ ls
  unfolding counted combinations
  all-count n [] t h = refl
  all-count n (ms ∷ rest) t h = rw (le-ltb limit (n * length ms) small) (ap (λ (r : List (List ℕ)). ms ∷ r) (all-count (n * length ms) rest t.1 whole))
    where
      whole : n * length ms * combinations rest ≤ limit
      whole = subst (λ (k : ℕ). k ≤ limit) (sym (mul_assoc n (length ms) (combinations rest))) h

      small : n * length ms ≤ limit
      small = omega (arith, whole, mul-le-mul_left (n * length ms) (some-combination rest t.1), mul-one (n * length ms))

  -- so many that the limit is passed, where all combinations pass it
  still-over : (n : ℕ) (ls : List (List ℕ)) → n ≤ limit → limit < n * combinations ls → limit < n * combinations (counted limit n ls)
  unfolding counted combinations
  still-over n [] l h = h
  still-over n (ms ∷ rest) l h = by (ltb limit (n * length ms)) refl (still-over (n * length ms) rest)
    where
      by : (b : Bool) → ltb limit (n * length ms) ≡ b → (n * length ms ≤ limit → limit < n * length ms * combinations rest → limit < n * length ms * combinations (counted limit (n * length ms) rest))
          → limit < n * (length ms * combinations (counted_by b (counted limit (n * length ms) rest)))
      by true q later =
          let o = ltb-true limit (n * length ms) q in
          subst (λ (k : ℕ). limit < n * k) (sym (mul-one (length ms))) o
      by false q later =
          subst (λ (k : ℕ). limit < k) (mul_assoc n (length ms) (combinations (counted limit (n * length ms) rest)))
          (later (ltb-false limit (n * length ms) q) (subst (λ (k : ℕ). limit < k) (sym (mul_assoc n (length ms) (combinations rest))) h))

  -- all of them, or fewer
  all-or-fewer : (n : ℕ) (ls : List (List ℕ)) → (counted limit n ls ≡ ls) ⊎ (length (counted limit n ls) < length ls)
  unfolding counted
  all-or-fewer n [] = inl refl
  all-or-fewer n (ms ∷ rest) = by (ltb limit (n * length ms)) (all-or-fewer (n * length ms) rest)
    where
      ended : (rest : List (List ℕ)) → (◌≡◌ {A = List (List ℕ)} (ms ∷ []) (ms ∷ rest)) ⊎ (1 < suc (length rest))
      ended [] = inl refl
      ended (l ∷ ls) = inr (omega arith)

      by : (b : Bool) → (counted limit (n * length ms) rest ≡ rest) ⊎ (length (counted limit (n * length ms) rest) < length rest)
          → (◌≡◌ {A = List (List ℕ)} (ms ∷ counted_by b (counted limit (n * length ms) rest)) (ms ∷ rest)) ⊎ (suc (length (counted_by b (counted limit (n * length ms) rest))) < suc (length rest))
      by true h = ended rest
      by false (inl e) = inl (ap (λ (r : List (List ℕ)). ms ∷ r) e)
      by false (inr l) = inr (omega arith)

  counted-all : (P : List ℕ → Type 0) (n : ℕ) (ls : List (List ℕ)) → All P ls → All P (counted limit n ls)
  unfolding counted
  counted-all P n [] t = tt
  counted-all P n (ms ∷ rest) t = (t.0, by (ltb limit (n * length ms)) (counted-all P (n * length ms) rest t.1))
    where
      by : (b : Bool) → All P (counted limit (n * length ms) rest) → All P (counted_by b (counted limit (n * length ms) rest))
      by true u = tt
      by false u = u

-- ---- none twice

combos-apart : (ls : List (List ℕ)) → All (Ordered Apart) ls → Ordered Apart (combos ls)
unfolding combos
combos-apart [] t = (tt, tt)
combos-apart (ms ∷ rest) t = across ms t.0 (combos-apart rest t.1)
  where
    led : (x y : ℕ) → Apart x y → (cs : List (List ℕ)) (s : List ℕ) → All (λ r. Apart (x ∷ s) r) (map (λ t. y ∷ t) cs)
    led x y h cs s = all-mapped-of (λ r. Apart (x ∷ s) r) (λ t. y ∷ t) (λ t e. h (ap (λ (l : List ℕ). get_or l 0 0) e)) cs

    later : (x : ℕ) (s : List ℕ) (cs : List (List ℕ)) (ys : List ℕ) → All (Apart x) ys → All (λ r. Apart (x ∷ s) r) (each (λ y. map (λ t. y ∷ t) cs) ys)
    later x s cs ys a = all-each (Apart x) (λ r. Apart (x ∷ s) r) (λ y. map (λ t. y ∷ t) cs) (λ y h. led x y h cs s) ys a

    across : (xs : List ℕ) → Ordered Apart xs → Ordered Apart (combos rest) → Ordered Apart (each (λ x. map (λ s. x ∷ s) (combos rest)) xs)
    across [] o c = tt
    across (x ∷ xs) o c =
        ordered-append Apart (map (λ s. x ∷ s) (combos rest)) (each (λ x. map (λ s. x ∷ s) (combos rest)) xs)
        (ordered-map Apart Apart (λ s. x ∷ s) (λ a b h e. h (ap (drop 1) e)) (combos rest) c) (across xs o.1 c)
        (all-mapped-of (λ r. All (Apart r) (each (λ x. map (λ s. x ∷ s) (combos rest)) xs)) (λ s. x ∷ s) (λ s. later x s (combos rest) xs o.0) (combos rest))

-- ---- combinations

-- every combination is there
pub combination-in : (ls : List (List ℕ)) (s : List ℕ) → IsCombination ls s → In s (combos ls)
unfolding combos
combination-in [] [] c = inl refl
combination-in [] (x ∷ s) c = absurd c
combination-in (ms ∷ rest) [] c = absurd c
combination-in (ms ∷ rest) (x ∷ s) c = each-in (λ y. map (λ t. y ∷ t) (combos rest)) x ms (x ∷ s) c.0 (map-in (λ t. x ∷ t) s (combos rest) (combination-in rest s c.1))

-- and nothing else
pub combos-all : (ls : List (List ℕ)) → All (IsCombination ls) (combos ls)
unfolding combos
combos-all [] = (tt, tt)
combos-all (ms ∷ rest) =
    all-each (λ y. In y ms) (IsCombination (ms ∷ rest)) (λ y. map (λ t. y ∷ t) (combos rest))
    (λ y h. all-mapped (IsCombination rest) (IsCombination (ms ∷ rest)) (λ t. y ∷ t) (λ t i. (h, i)) (combos rest) (combos-all rest)) ms (in_all (λ y. In y ms) ms (λ y h. h))

combination-length : (ls : List (List ℕ)) (s : List ℕ) → IsCombination ls s → length s ≡ length ls
combination-length [] [] c = refl
combination-length [] (x ∷ s) c = absurd c
combination-length (ms ∷ rest) [] c = absurd c
combination-length (ms ∷ rest) (x ∷ s) c = ap suc (combination-length rest s c.1)

a-combination : (ls : List (List ℕ)) → All Full ls → (s : List ℕ) × IsCombination ls s
a-combination [] t = ([], tt)
a-combination ([] ∷ rest) t = absurd (omega (arith, t.0))
a-combination ((x ∷ ms) ∷ rest) t = let r = a-combination rest t.1 in (x ∷ r.0, (inl refl, r.1))

-- ---- THE THEOREMS, over components whose modes differ, each with some, and any limit from 1 on

module _ (limit : ℕ) (pos : 1 ≤ limit) (ms : List ℕ) (rest : List (List ℕ)) (full : All Full (ms ∷ rest)) (apart : All (Ordered Apart) (ms ∷ rest)) where
  abbrev ls : List (List ℕ)
  ls = ms ∷ rest

  the-apart : Ordered Apart (combos (counted limit 1 ls))
  the-apart = combos-apart (counted limit 1 ls) (counted-all limit (Ordered Apart) 1 ls apart)

  pub none-twice : Ordered Apart (selections_of limit ls)
  none-twice = rw (selections-are limit ms rest pos) (ordered-take Apart limit (combos (counted limit 1 ls)) the-apart)

  -- a selection has one mode of each component that counts
  pub each-combination : All (IsCombination (counted limit 1 ls)) (selections_of limit ls)
  each-combination =
      rw (selections-are limit ms rest pos) (all-take (IsCombination (counted limit 1 ls)) limit (combos (counted limit 1 ls)) (combos-all (counted limit 1 ls)))

  -- not cut: all combinations
  pub all-given : combinations ls ≤ limit → selections_of limit ls ≡ combos ls
  all-given h =
      selections-are limit ms rest pos
      ∙ ap (λ (cs : List (List ℕ)). take limit (combos cs)) (all-count limit 1 ls full (omega (arith, h, one-mul (combinations ls))))
      ∙ take_all limit (combos ls) (omega (arith, combos-length ls))

  over : limit < combinations ls → limit < length (combos (counted limit 1 ls))
  over h = omega (arith, combos-length (counted limit 1 ls), one-mul (combinations (counted limit 1 ls)), still-over limit 1 ls pos (omega (arith, one-mul (combinations ls))))

  pub lacks-one : limit < combinations ls → Lacks ls (selections_of limit ls)
  lacks-one h = by (all-or-fewer limit 1 ls)
    where
      by : (counted limit 1 ls ≡ ls) ⊎ (length (counted limit 1 ls) < length ls) → Lacks ls (selections_of limit ls)
      by (inl e) = (
        get_or (combos (counted limit 1 ls)) limit [],
        subst (λ (cs : List (List ℕ)). IsCombination cs (get_or (combos (counted limit 1 ls)) limit [])) e (all-at (IsCombination (counted limit 1 ls)) (combos (counted limit 1 ls)) (combos-all (counted limit 1 ls)) [] limit (over h)),
        (λ i. not-before (combos (counted limit 1 ls)) [] limit the-apart (over h) (subst (λ (l : List (List ℕ)). In (get_or (combos (counted limit 1 ls)) limit []) l) (selections-are limit ms rest pos) i)),
      )
      by (inr l) =
          let c = a-combination ls full in (
            c.0,
            c.1,
            (λ i. omega (arith, l, combination-length ls c.0 c.1, combination-length (counted limit 1 ls) c.0 (all_in (IsCombination (counted limit 1 ls)) (selections_of limit ls) each-combination c.0 i))),
          )

  -- CUT IS SAID EXACTLY IF SOME COMBINATION OF ALL COMPONENTS WITH MODES IS LACKING
  pub cut-exactly : T (is_cut limit ls) ↔ Lacks ls (selections_of limit ls)
  cut-exactly = (
    (λ t. lacks-one (ltb→lt limit (combinations ls) t)),
    (λ k. by (ltb limit (combinations ls)) refl k),
  )
    where
      by : (b : Bool) → ltb limit (combinations ls) ≡ b → Lacks ls (selections_of limit ls) → T b
      by true e k = tt
      by false e k =
          k.2
          (subst (λ (l : List (List ℕ)). In k.0 l) (sym (all-given (ltb-false limit (combinations ls) e))) (combination-in ls k.0 k.1))

  -- how many there are
  pub number-whole : combinations ls ≤ limit → length (selections_of limit ls) ≡ combinations ls
  number-whole h = ap length (all-given h) ∙ combos-length ls

  pub number_cut : limit < combinations ls → length (selections_of limit ls) ≡ limit
  number_cut h = ap length (selections-are limit ms rest pos) ∙ length-take-le limit (combos (counted limit 1 ls)) (omega (arith, over h))

-- ---- the selection at a number, as a call computes it

pub combos-at : (ls : List (List ℕ)) → All Full ls → (k : ℕ) → k < combinations ls → get_or (combos ls) k [] ≡ pick ls k
unfolding combos pick combinations
combos-at [] t zero h = refl
combos-at [] t (suc k) h = absurd (omega arith)
combos-at (ms ∷ rest) t k h =
    ap (λ (n : ℕ). get_or (each (λ x. map (λ s. x ∷ s) (combos rest)) ms) n []) split
    ∙ row_at w (λ x. map (λ s. x ∷ s) (combos rest)) ms
    (all-of (λ x. length (map (λ s. x ∷ s) (combos rest)) ≡ w) (λ x. length-map (combos rest) (λ s. x ∷ s) ∙ combos-length rest) ms) 0 [] (k / w) (k % w) ((div-lt_iff_lt-mul pos).1 h) (mod-lt k pos)
    ∙ get_or-map (λ s. get_or ms (k / w) 0 ∷ s) (combos rest) (k % w) [] [] (subst (λ (n : ℕ). k % w < n) (sym (combos-length rest)) (mod-lt k pos))
    ∙ ap (λ (r : List ℕ). get_or ms (k / w) 0 ∷ r) (combos-at rest t.1 (k % w) (mod-lt k pos))
  where
    w : ℕ
    w = combinations rest

    pos : 0 < combinations rest
    pos = some-combination rest t.1

    split : k ≡ k / combinations rest * combinations rest + k % combinations rest
    split = omega (arith, div-add-mod k (combinations rest), mul_comm (combinations rest) (k / combinations rest))

-- whether the growing list, n long before them, passes the limit at one of these components
unfoldable pub passes : ℕ → ℕ → List (List ℕ) → Bool
passes limit n [] = false
passes limit n (ms ∷ rest) = ltb limit (n * length ms) || passes limit (n * length ms) rest

module _ (limit : ℕ) where
  pub passes-is : (n : ℕ) (ls : List (List ℕ)) → All Full ls → n ≤ limit → passes limit n ls ≡ ltb limit (n * combinations ls)
  unfolding passes combinations
  passes-is n [] t h = sym (le-ltb limit (n * 1) (omega (arith, h, mul-one n)))
  passes-is n (ms ∷ rest) t h = by (ltb limit (n * length ms)) refl (passes-is (n * length ms) rest t.1) ∙ ap (ltb limit) (mul_assoc n (length ms) (combinations rest))
    where
      more : n * length ms ≤ n * length ms * combinations rest
      more = omega (arith, mul-le-mul_left (n * length ms) (some-combination rest t.1), mul-one (n * length ms))

      by : (b : Bool) → ltb limit (n * length ms) ≡ b → (n * length ms ≤ limit → passes limit (n * length ms) rest ≡ ltb limit (n * length ms * combinations rest))
          → b || passes limit (n * length ms) rest ≡ ltb limit (n * length ms * combinations rest)
      by true e later = lt-true limit (n * length ms * combinations rest) (omega (arith, more, ltb-true limit (n * length ms) e))
      by false e later = later (ltb-false limit (n * length ms) e)

-- ---- the selections of a model

modes-apart : (m : Tables) (c : ℕ) → Ordered Apart (modes_of m c)
unfolding rows_naming
modes-apart m c =
    ordered-weaker ◌<◌ Apart (λ i j h e. omega (arith, h, e)) (modes_of m c)
    (ordered-keep ◌<◌ (λ i. eqb (m_owner m i) c) (up_to (count m letter_m)) (up_to-ordered (count m letter_m)))

not-nil : (ms : List ℕ) → T (not (is_nil ms)) → Full ms
not-nil [] t = absurd t
not-nil (x ∷ ms) t = omega arith

modal-good : (m : Tables) → All (λ ms. Full ms × Ordered Apart ms) (modal m)
unfolding modal
modal-good m =
    all_keep (Ordered Apart) (λ ms. Full ms × Ordered Apart ms) (λ ms. not (is_nil ms)) (λ ms t o. (not-nil ms t, o)) (map (modes_of m) (rows_of m letter_c))
    (all-mapped-of (Ordered Apart) (modes_of m) (modes-apart m) (rows_of m letter_c))

modal-full : (m : Tables) → All Full (modal m)
modal-full m = all_map (λ ms. Full ms × Ordered Apart ms) Full (λ ms h. h.0) (modal m) (modal-good m)

modal-apart : (m : Tables) → All (Ordered Apart) (modal m)
modal-apart m = all_map (λ ms. Full ms × Ordered Apart ms) (Ordered Apart) (λ ms h. h.1) (modal m) (modal-good m)

limit-some : 1 ≤ selection_limit
limit-some = omega arith

-- what holds of no component, and of some whose modes differ, each with some, holds of those of a model
of-modal : (m : Tables) (P : List (List ℕ) → Type 0) → P [] → ((ms : List ℕ) (rest : List (List ℕ)) → All Full (ms ∷ rest) → All (Ordered Apart) (ms ∷ rest) → P (ms ∷ rest)) → P (modal m)
of-modal m P none some = go (modal m) (modal-full m) (modal-apart m)
  where
    go : (ls : List (List ℕ)) → All Full ls → All (Ordered Apart) ls → P ls
    go [] f a = none
    go (ms ∷ rest) f a = some ms rest f a

-- "None is given twice": of two numbers two selections, as M rows
pub given-once : (m : Tables) → GivenOnce m
unfolding selections selections_of
given-once m i j h l = two-places (selections m) [] i j (of-modal m (λ ls. Ordered Apart (selections_of selection_limit ls)) tt (none-twice selection_limit limit-some)) h l

-- ---- modal is none exactly where there is no M row

none_kept : (xs : List (List ℕ)) → All (λ x. x ≡ []) xs → T (is_nil (keep (λ ms. not (is_nil ms)) xs))
none_kept [] t = tt
none_kept (x ∷ xs) t = rw t.0 (none_kept xs t.1)

pub no_rows : (m : Tables) → count m letter_m ≡ 0 → T (is_nil (modal m))
unfolding modal rows_naming
no_rows m e =
    none_kept (map (modes_of m) (rows_of m letter_c)) (all-mapped-of (λ ms. ms ≡ []) (modes_of m) (λ c. rw e) (rows_of m letter_c))

pub some-rows : (m : Tables) → T (accepted m) → 0 < count m letter_m → T (not (is_nil (modal m)))
unfolding modal rows_naming
some-rows m ok h =
    not-empty (modal m) (modes_of m (m_owner m 0))
    (in_kept (λ ms. not (is_nil ms)) (map (modes_of m) (rows_of m letter_c)) (modes_of m (m_owner m 0))
    (map-in (modes_of m) (m_owner m 0) (rows_of m letter_c) (in-up_to (c_count m) (m_owner m 0) (mode-owner m ok 0 h)))
    (not-empty (modes_of m (m_owner m 0)) 0 (in_kept (λ i. eqb (m_owner m i) (m_owner m 0)) (up_to (count m letter_m)) 0 (in-up_to (count m letter_m) 0 h) (eqb_refl (m_owner m 0)))))
  where
    not-empty : {A : Type 0} (xs : List A) (a : A) → In a xs → T (not (is_nil xs))
    not-empty [] a i = absurd i
    not-empty (x ∷ xs) a i = tt

-- "With no modes at all the number is 0 and nothing is cut"
pub no-modes : (m : Tables) → T (is_nil (modal m)) → (length (selections m) ≡ 0) × (is_cut selection_limit (modal m) ≡ false)
unfolding selections selections_of combinations
no-modes m t = none (modal m) t
  where
    none : (ls : List (List ℕ)) → T (is_nil ls) → (length (selections_of selection_limit ls) ≡ 0) × (is_cut selection_limit ls ≡ false)
    none [] t = (refl, refl)
    none (ms ∷ rest) t = absurd t

-- "else cut is said exactly if some combination of all components with modes is lacking"
pub cut-said : (m : Tables) → T (not (is_nil (modal m))) → T (is_cut selection_limit (modal m)) ↔ Lacks (modal m) (selections m)
unfolding selections
cut-said m =
    of-modal m (λ ls. T (not (is_nil ls)) → T (is_cut selection_limit ls) ↔ Lacks ls (selections_of selection_limit ls)) (λ t. absurd t)
    (λ ms rest f a t. cut-exactly selection_limit limit-some ms rest f a)

-- how many there are
pub number-some : (m : Tables) → T (not (is_nil (modal m))) → combinations (modal m) ≤ selection_limit → length (selections m) ≡ combinations (modal m)
unfolding selections
number-some m =
    of-modal m (λ ls. T (not (is_nil ls)) → combinations ls ≤ selection_limit → length (selections_of selection_limit ls) ≡ combinations ls) (λ t. absurd t)
    (λ ms rest f a t. number-whole selection_limit limit-some ms rest f a)

pub number-over : (m : Tables) → T (not (is_nil (modal m))) → selection_limit < combinations (modal m) → length (selections m) ≡ selection_limit
unfolding selections
number-over m =
    of-modal m (λ ls. T (not (is_nil ls)) → selection_limit < combinations ls → length (selections_of selection_limit ls) ≡ selection_limit) (λ t. absurd t)
    (λ ms rest f a t. number_cut selection_limit limit-some ms rest f a)

pub none-without-modes : (m : Tables) → NoneWithoutModes m
none-without-modes m e = no-modes m (no_rows m e)

pub cut-if-lacking : (m : Tables) → CutIfLacking m
cut-if-lacking m ok h = cut-said m (some-rows m ok h)

-- the selection at a number
pub by_digits : (m : Tables) → ByDigits m
unfolding selections selections_of
by_digits m k h = of-modal m (λ ls. k < length (selections_of selection_limit ls) → get_or (selections_of selection_limit ls) k [] ≡ pick (counted selection_limit 1 ls) k) (λ l. absurd (omega arith)) at h
  where
    at : (ms : List ℕ) (rest : List (List ℕ)) → All Full (ms ∷ rest) → All (Ordered Apart) (ms ∷ rest) → k < length (selections_of selection_limit (ms ∷ rest))
        → get_or (selections_of selection_limit (ms ∷ rest)) k [] ≡ pick (counted selection_limit 1 (ms ∷ rest)) k
    at ms rest f a l =
        let cs = counted selection_limit 1 (ms ∷ rest) in
        let e = selections-are selection_limit ms rest limit-some in
        let n : k < length (take selection_limit (combos cs)) = subst (λ (x : List (List ℕ)). k < length x) e l in
        ap (λ (x : List (List ℕ)). get_or x k []) e
        ∙ get_or-take selection_limit (combos cs) k [] (omega (arith, n, length-take selection_limit (combos cs)))
        ∙ combos-at cs (counted-all selection_limit Full 1 (ms ∷ rest) f) k (omega (arith, n, length-take selection_limit (combos cs), combos-length cs))
