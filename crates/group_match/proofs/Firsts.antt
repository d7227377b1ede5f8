-- First appearances: what a walk keeps of a destination, that it finds room, and that the first feature of a name is among them. Assumes nothing.
use mathlib.Core.Bool.{Bool, true, false}
use mathlib.Core.Path.{◌≡◌, refl}
use mathlib.Core.List.{List, [], ◌∷◌, map}
use Prim.Native.Nat.{ℕ, zero, suc, ◌+◌, ◌≤◌, ◌<◌}
use native.Mathlib.Omega.{arith}
use lib.Dec.{eqb}
use lib.ListN.{length, get_or, set, length-set}
use borrow.Author.Tests.{eqb-true, eqb-false}
use Rattle.std.specs.Prelude.{Option}
use Rattle.as5506.specs.Lists.{keep, put_if, first_of}
use Rattle.as5506.specs.Tables.{Tables}
use Rattle.as5506.specs.Groups.{Feature}
use Rattle.as5506.specs.Layout.{feature_block}
use Rattle.as5506.proofs.Laws.{All}
use Rattle.lent.specs.Append.{append, append_all}
use Rattle.lent.proofs.Sets.{placed}
use Rattle.sink.specs.declared.Purpose.TheVariants.{First}
use Rattle.sink.specs.Take.{Held, first_by, taken}
use Rattle.group_walk.specs.Run.{take_all}
use Rattle.group_match.specs.Firsts.{firsts_by, firsts}
use Rattle.group_match.proofs.Range.{Fine}

-- ---- a walk writes their blocks

module _ (m : Tables) where
  abbrev Wrote : List Feature → Held → List Feature → Type 0
  Wrote fs h gs = (take_all (taken First m) fs h).out ≡ append_all (map feature_block gs) h.out

  wrote_by : (b : Bool) (f : Feature) (fs : List Feature) (h : Held) → ((h : Held) → Wrote fs h (firsts h.memo fs))
      → (take_all (taken First m) fs (first_by b f h)).out
      ≡ append_all (map feature_block (firsts_by b f (firsts (set h.memo f.name 1) fs) (firsts h.memo fs))) h.out
  unfolding first_by firsts_by append_all
  wrote_by true f fs h rest = rest (record { memo = set h.memo f.name 1; out = append (feature_block f) h.out; notes = h.notes })
  wrote_by false f fs h rest = rest h

  pub wrote-firsts : (fs : List Feature) (h : Held) → Wrote fs h (firsts h.memo fs)
  unfolding take_all taken firsts append_all
  wrote-firsts [] h = refl
  wrote-firsts (f ∷ fs) h = wrote_by (eqb (get_or h.memo f.name 0) 0) f fs h (wrote-firsts fs)

-- ---- there are no more of them than names

abbrev is_free : ℕ → ℕ
is_free zero = 1
is_free (suc v) = 0

-- the names that have not come
abbrev free : List ℕ → ℕ
free [] = 0
free (v ∷ l) = is_free v + free l

free_all : (l : List ℕ) → free l ≤ length l
free_all [] = omega arith
free_all (zero ∷ l) = omega (arith, free_all l)
free_all (suc v ∷ l) = omega (arith, free_all l)

free-set : (l : List ℕ) (i : ℕ) → i < length l → get_or l i 0 ≡ 0 → free (set l i 1) + 1 ≡ free l
free-set [] i h e = absurd (omega arith)
free-set (v ∷ l) zero h e = rw e (omega arith)
free-set (v ∷ l) (suc i) h e = omega (arith, free-set l i (omega arith) e)

few-by : (b : Bool) (f : Feature) (fs : List Feature) (memo : List ℕ) → eqb (get_or memo f.name 0) 0 ≡ b → f.name < length memo
    → length (firsts (set memo f.name 1) fs) ≤ free (set memo f.name 1) → length (firsts memo fs) ≤ free memo
    → length (firsts_by b f (firsts (set memo f.name 1) fs) (firsts memo fs)) ≤ free memo
unfolding firsts_by
few-by true f fs memo e h new old = omega (arith, new, free-set memo f.name h (eqb-true (get_or memo f.name 0) 0 e))
few-by false f fs memo e h new old = old

firsts-free : (fs : List Feature) (memo : List ℕ) → All (Fine (length memo)) fs → length (firsts memo fs) ≤ free memo
unfolding firsts
firsts-free [] memo t = omega arith
firsts-free (f ∷ fs) memo t =
    few-by (eqb (get_or memo f.name 0) 0) f fs memo refl t.0.name_below
    (firsts-free fs (set memo f.name 1) (rw (length-set memo f.name 1) t.1)) (firsts-free fs memo t.1)

pub firsts-few : (fs : List Feature) (memo : List ℕ) → All (Fine (length memo)) fs → length (firsts memo fs) ≤ length memo
firsts-few fs memo t = omega (arith, firsts-free fs memo t, free_all memo)

-- ---- what holds of all features holds of them

module _ (P : Feature → Type 0) where
  all-by : (b : Bool) (f : Feature) (new old : List Feature) → P f → All P new → All P old → All P (firsts_by b f new old)
  unfolding firsts_by
  all-by true f new old p t u = (p, t)
  all-by false f new old p t u = u

  pub all_firsts : (fs : List Feature) (memo : List ℕ) → All P fs → All P (firsts memo fs)
  unfolding firsts
  all_firsts [] memo t = tt
  all_firsts (f ∷ fs) memo t =
      all-by (eqb (get_or memo f.name 0) 0) f (firsts (set memo f.name 1) fs) (firsts memo fs) t.0
      (all_firsts fs (set memo f.name 1) t.1) (all_firsts fs memo t.1)

-- ---- the first feature whose name passes a test is one of them

abbrev pub named : (ℕ → Bool) → List Feature → Option Feature
named p fs = first_of (keep (λ f. p f.name) fs)

module _ (p : ℕ → Bool) where
  -- no marked name passes
  abbrev pub Passed : List ℕ → Type 0
  Passed memo = (k : ℕ) → (get_or memo k 0 ≡ 0 → ⊥) → p k ≡ false

  module _ (f : Feature) (new old fs : List Feature) where
    kept_by : (t : Bool) → p f.name ≡ t → (p f.name ≡ false → named p new ≡ named p fs)
        → first_of (put_if t f (keep (λ f. p f.name) new)) ≡ first_of (put_if t f (keep (λ f. p f.name) fs))
    kept_by true q same = refl
    kept_by false q same = same q

    first_by_lem : (b : Bool) → (b ≡ false → p f.name ≡ false) → (p f.name ≡ false → named p new ≡ named p fs) → named p old ≡ named p fs
        → named p (firsts_by b f new old) ≡ named p (f ∷ fs)
    unfolding firsts_by
    first_by_lem true came new-same old-same = kept_by (p f.name) refl new-same
    first_by_lem false came new-same old-same = let e : p f.name ≡ false = came refl in rw e old-same

marked : (p : ℕ → Bool) (memo : List ℕ) (x : ℕ) → p x ≡ false → Passed p memo → Passed p (set memo x 1)
marked p memo x q h k = placed memo x 1 k (λ v. (v ≡ 0 → ⊥) → p k ≡ false) (h k) (λ e z. rw (← e) q)

pub first-of-firsts : (p : ℕ → Bool) (fs : List Feature) (memo : List ℕ) → Passed p memo → named p (firsts memo fs) ≡ named p fs
unfolding firsts
first-of-firsts p [] memo h = refl
first-of-firsts p (f ∷ fs) memo h =
    first_by_lem p f (firsts (set memo f.name 1) fs) (firsts memo fs) fs (eqb (get_or memo f.name 0) 0)
    (λ e. h f.name (eqb-false (get_or memo f.name 0) 0 e))
    (λ q. first-of-firsts p fs (set memo f.name 1) (marked p memo f.name q h)) (first-of-firsts p fs memo h)
