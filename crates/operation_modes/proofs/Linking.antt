-- The modes of each component, linked in one pass over the M rows. Assumes nothing.
use mathlib.Core.Bool.{Bool, true, false}
use mathlib.Core.Path.{◌≡◌, refl, sym, ap, ap₂, ◌∙◌, subst}
use mathlib.Core.List.{List, ◌∷◌}
use Prim.Native.Nat.{ℕ, zero, suc, ◌+◌, ◌-◌, ◌≤◌, ◌<◌}
use native.Mathlib.Nat.{sub-zero}
use native.Mathlib.Numerals.{add-one}
use native.Mathlib.Omega.{arith}
use borrow.Author.Tests.{eq-eqb, ne_eqb, eqb-true, eqb-false}
use lib.Dec.{eqb}
use lib.ListN.{length, get_or, set, length-set}
use lib.Seq.{get_or-set_same, get_or-set_other}
use Rattle.as5506.specs.Lists.{span, zeros, keep}
use Rattle.as5506.specs.Tables.{Tables, rows_naming, m_owner, modes_of, letter_m, count}
use Rattle.as5506.proofs.Laws.{All, all_keep, zeros-length}
use Rattle.as5506.proofs.Scans.{keep-hit, keep-miss, keep-done}
use Rattle.lent.proofs.Sets.{get_or-zeros, placed}
use Rattle.operation_modes.specs.declared.link.Linked.{Linked}
use Rattle.operation_modes.specs.Linked.{chain, modes_linked, unlinked, put_before, Links}

-- ---- chains

pub chain_length : (next : List ℕ) (v k : ℕ) → length (chain next v k) ≡ k
unfolding chain
chain_length next v zero = refl
chain_length next v (suc k) = ap suc (chain_length next (get_or next v 0) k)

-- the first mode of a chain, and each one behind another
pub chain_first : (next : List ℕ) (v n : ℕ) → 0 < n → get_or (chain next v n) 0 0 ≡ v
unfolding chain
chain_first next v zero h = absurd (omega (arith, h))
chain_first next v (suc n) h = refl

pub chain_next : (next : List ℕ) (v n k : ℕ) → k + 1 < n → get_or (chain next v n) (k + 1) 0 ≡ get_or next (get_or (chain next v n) k 0) 0
unfolding chain
chain_next next v zero k h = absurd (omega (arith, h))
chain_next next v (suc n) zero h = chain_first next (get_or next v 0) n (omega (arith, h))
chain_next next v (suc n) (suc k) h = let e : suc k + 1 ≡ suc (k + 1) = omega arith in rw e (chain_next next (get_or next v 0) n k (omega (arith, h)))

-- a link of a mode before the chain leaves it alone
chain_kept : (next : List ℕ) (j w v k : ℕ) → All (λ x. j < x) (chain next v k) → chain (set next j w) v k ≡ chain next v k
unfolding chain
chain_kept next j w v zero t = refl
chain_kept next j w v (suc k) t =
    ap (λ (l : List ℕ). v ∷ l)
    (ap (λ (u : ℕ). chain (set next j w) u k) (get_or-set_other next j v w 0 (λ e. omega (arith, e, t.0))) ∙ chain_kept next j w (get_or next v 0) k t.1)

pub linked_length : (l : Linked) (o : ℕ) → length (modes_linked l o) ≡ get_or l.sizes o 0
unfolding modes_linked
linked_length l o = chain_length l.next (get_or l.first o 0) (get_or l.sizes o 0)

-- ---- the modes of component o from M row i on

module _ (m : Tables) where
  abbrev pub behind : ℕ → ℕ → List ℕ
  behind o i = keep (λ j. eqb (m_owner m j) o) (span i (count m letter_m - i))

  behind-all : (o : ℕ) → behind o 0 ≡ modes_of m o
  unfolding rows_naming
  behind-all o = ap (λ (n : ℕ). keep (λ j. eqb (m_owner m j) o) (span 0 n)) (sub-zero (count m letter_m))

  behind-after : (o i j : ℕ) → j < i → All (λ x. j < x) (behind o i)
  behind-after o i j h =
      all_keep (λ x. j < x) (λ x. j < x) (λ x. eqb (m_owner m x) o) (λ x t p. p) (span i (count m letter_m - i)) (go i (count m letter_m - i) h)
    where
      go : (i n : ℕ) → j < i → All (λ x. j < x) (span i n)
      go i zero h = tt
      go i (suc n) h = (h, go (suc i) n (omega (arith, h)))

  -- ---- the loop: the modes from M row i on are linked

  pub record Linking (i : ℕ) (l : Linked) : Type 0 where
    pub within : i ≤ count m letter_m
    pub first-size : length l.first ≡ 4096
    pub next-size : count m letter_m ≤ length l.next
    pub sizes-size : length l.sizes ≡ 4096
    pub are : (o : ℕ) → o < 4096 → modes_linked l o ≡ behind o i
    pub few : (o : ℕ) → get_or l.sizes o 0 + i ≤ count m letter_m

  pub linking_start : {l : Linked} → l ≡ unlinked → count m letter_m ≤ 4096 → Linking (count m letter_m) l
  unfolding modes_linked chain
  linking_start e h =
      rw e
      (record {
        within = omega arith;
        first-size = zeros-length (zeros 4096) 4096 refl;
        next-size = omega (arith, h, zeros-length (zeros 4096) 4096 refl);
        sizes-size = zeros-length (zeros 4096) 4096 refl;
        are = λ o k. ap (chain (zeros 4096) (get_or (zeros 4096) o 0)) (get_or-zeros 4096 o)
            ∙ sym (keep-done (λ j. eqb (m_owner m j) o) (count m letter_m) (count m letter_m) (omega arith));
        few = λ o. omega (arith, get_or-zeros 4096 o);
      })

  pub linking_end : (i : ℕ) (l : Linked) → i ≤ 0 → Linking i l → Links m l
  linking_end i l z s =
      record {
        are = λ o h. s.are o h ∙ ap (behind o) (omega (arith, z)) ∙ behind-all o;
        few = λ o. omega (arith, s.few o, linked_length l o);
      }

  -- mode j is put before those of its component that follow it
  module _ (j : ℕ) (l : Linked) (s : Linking (j + 1) l) where
    abbrev owner : ℕ
    owner = m_owner m j

    abbrev next₁ : List ℕ
    next₁ = set l.next j (get_or l.first owner 0)

    -- what was linked before
    kept : (o : ℕ) → o < 4096 → chain next₁ (get_or l.first o 0) (get_or l.sizes o 0) ≡ behind o (j + 1)
    unfolding modes_linked
    kept o h =
        chain_kept l.next j (get_or l.first owner 0) (get_or l.first o 0) (get_or l.sizes o 0) (rw (s.are o h) (behind-after o (j + 1) j (omega arith))) ∙ s.are o h

    linked-own : owner < 4096 → modes_linked (put_before l owner j) owner ≡ behind owner j
    unfolding modes_linked chain
    linked-own h =
        ap₂ (chain next₁) (get_or-set_same l.first owner j 0 (omega (arith, h, s.first-size)))
        (get_or-set_same l.sizes owner (get_or l.sizes owner 0 + 1) 0 (omega (arith, h, s.sizes-size)) ∙ add-one (get_or l.sizes owner 0))
        ∙ ap (λ (v : ℕ). j ∷ chain next₁ v (get_or l.sizes owner 0)) (get_or-set_same l.next j (get_or l.first owner 0) 0 (omega (arith, s.within, s.next-size)))
        ∙ ap (λ (r : List ℕ). j ∷ r) (kept owner h)
        ∙ sym (keep-hit (λ k. eqb (m_owner m k) owner) j (count m letter_m) (omega (arith, s.within)) (eq-eqb owner owner refl))

    linked-other : (o : ℕ) → o < 4096 → (o ≡ owner → ⊥) → modes_linked (put_before l owner j) o ≡ behind o j
    unfolding modes_linked
    linked-other o h d =
        ap₂ (chain next₁) (get_or-set_other l.first owner o j 0 d) (get_or-set_other l.sizes owner o (get_or l.sizes owner 0 + 1) 0 d)
        ∙ kept o h
        ∙ sym (keep-miss (λ k. eqb (m_owner m k) o) j (count m letter_m) (omega (arith, s.within)) (ne_eqb owner o (λ e. d (sym e))))

    linked_one : Linking j (put_before l owner j)
    linked_one =
        record {
          within = omega (arith, s.within);
          first-size = length-set l.first owner j ∙ s.first-size;
          next-size = omega (arith, length-set l.next j (get_or l.first owner 0), s.next-size);
          sizes-size = length-set l.sizes owner (get_or l.sizes owner 0 + 1) ∙ s.sizes-size;
          are = λ o h. go o h (eqb o owner) refl;
          few = λ o. placed l.sizes owner (get_or l.sizes owner 0 + 1) o (λ v. v + j ≤ count m letter_m) (omega (arith, s.few o)) (λ f. omega (arith, s.few owner));
        }
      where
        go : (o : ℕ) → o < 4096 → (b : Bool) → eqb o owner ≡ b → modes_linked (put_before l owner j) o ≡ behind o j
        go o h true q = let d : o ≡ owner = eqb-true o owner q in rw d (linked-own (omega (arith, d, h)))
        go o h false q = linked-other o h (eqb-false o owner q)

  -- a turn, with row i - 1
  pub linking_turn : {i : ℕ} {l l' : Linked} {owner : ℕ} → Linking i l → 0 < i → owner ≡ m_owner m (i - 1) → l' ≡ put_before l owner (i - 1) → Linking (i - 1) l'
  linking_turn {i} {l} s h e f = rw (f, e) (linked_one (i - 1) l (subst (λ (k : ℕ). Linking k l) (omega (arith, h)) s))

  pub linking_room : (i : ℕ) (l : Linked) → 0 < i → Linking i l → count m letter_m ≤ 4096 → (o : ℕ) → get_or l.sizes o 0 < 4096
  linking_room i l h s few o = omega (arith, s.few o, few, h)
