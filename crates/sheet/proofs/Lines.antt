-- The lines of a sheet: the first one. Assumes nothing.
use mathlib.Core.Bool.{Bool, true, false, cond}
use mathlib.Core.List.{List, [], ◌∷◌}
use mathlib.Core.Path.{◌≡◌, refl, sym, ap, ◌∙◌}
use Prim.Native.Nat.{ℕ, zero, suc, ◌+◌, ◌-◌, ◌≤◌, ◌<◌}
use native.Mathlib.Nat.{not-suc-le-zero}
use native.Mathlib.Numerals.{add-one}
use native.Mathlib.Omega.{arith}
use borrow.Author.Tests.{eq-eqb, ne_eqb}
use lib.Dec.{eqb}
use lib.ListN.{length, take, drop, get_or, length-drop}
use lib.Seq.{take_all}
use Rattle.as5506.specs.Sheet.{ended, unended, line_feed, line_with, lines_of}
use Rattle.sheet.specs.Steps.{index_of}

-- ---- a search

pub index_found : (s : List ℕ) (b i : ℕ) → i < length s → get_or s i 0 ≡ b → ((k : ℕ) → k < i → get_or s k 0 ≡ b → ⊥) → i ≡ index_of b s
unfolding index_of
index_found [] b i h e z = absurd (not-suc-le-zero h)
index_found (x ∷ s) b zero h e z = rw (eq-eqb x b e)
index_found (x ∷ s) b (suc i) h e z =
    rw (ne_eqb x b (z 0 (omega arith))) (ap suc (index_found s b i (omega arith) e (λ k g. z (suc k) (omega arith))))

-- what the code splits behind the first LF
pub first_split : (s : List ℕ) (i : ℕ) → (i < length s) × (get_or s i 0 ≡ 10) × ((k : ℕ) → k < i → get_or s k 0 ≡ 10 → ⊥)
    → (index_of line_feed s < length s) × (take i s ≡ take (index_of line_feed s) s) × (take (length s - (i + 1)) (drop (i + 1) s) ≡ drop (index_of line_feed s + 1) s)
first_split s i h =
    rw (sym (index_found s line_feed i h.0 h.1 h.2)) (h.0, refl, take_all (length s - (i + 1)) (drop (i + 1) s) (omega (arith, length-drop (i + 1) s)))

pub index_none : (s : List ℕ) (b : ℕ) → ((k : ℕ) → k < length s → get_or s k 0 ≡ b → ⊥) → index_of b s ≡ length s
unfolding index_of
index_none [] b z = refl
index_none (x ∷ s) b z = rw (ne_eqb x b (z 0 (omega arith))) (ap suc (index_none s b (λ k g. z (suc k) (omega arith))))

pub index-within : (s : List ℕ) (b : ℕ) → index_of b s ≤ length s
unfolding index_of
index-within [] b = omega arith
index-within (x ∷ s) b = go (eqb x b) (index-within s b)
  where
    go : (t : Bool) → index_of b s ≤ length s → cond t 0 (suc (index_of b s)) ≤ suc (length s)
    go true h = omega arith
    go false h = omega arith

-- ---- the first line of s

ended-case : (t : Bool) (b : ℕ) (s : List ℕ)
    → (index_of line_feed s < length s → lines_of s ≡ ended (take (index_of line_feed s) s) ∷ lines_of (drop (suc (index_of line_feed s)) s))
    → cond t 0 (suc (index_of line_feed s)) < suc (length s)
    → line_with t b (lines_of s)
    ≡ ended (take (cond t 0 (suc (index_of line_feed s))) (b ∷ s)) ∷ lines_of (drop (suc (cond t 0 (suc (index_of line_feed s)))) (b ∷ s))
unfolding line_with
ended-case true b s ih h = refl
ended-case false b s ih h = ap (line_with false b) (ih (omega arith))

lines-ended : (s : List ℕ) → index_of line_feed s < length s → lines_of s ≡ ended (take (index_of line_feed s) s) ∷ lines_of (drop (suc (index_of line_feed s)) s)
unfolding lines_of index_of
lines-ended [] h = absurd (not-suc-le-zero h)
lines-ended (b ∷ s) h = ended-case (eqb b line_feed) b s (lines-ended s) h

unended-case : (t : Bool) (b : ℕ) (s : List ℕ) → (0 < length s → index_of line_feed s ≡ length s → lines_of s ≡ unended s ∷ [])
    → cond t 0 (suc (index_of line_feed s)) ≡ suc (length s) → line_with t b (lines_of s) ≡ unended (b ∷ s) ∷ []
unfolding line_with lines_of
unended-case true b s ih h = absurd (omega arith)
unended-case false b [] ih h = refl
unended-case false b (x ∷ s) ih h = ap (line_with false b) (ih (omega arith) (omega arith))

lines-unended : (s : List ℕ) → 0 < length s → index_of line_feed s ≡ length s → lines_of s ≡ unended s ∷ []
unfolding lines_of index_of
lines-unended [] h e = absurd (not-suc-le-zero h)
lines-unended (b ∷ s) h e = unended-case (eqb b line_feed) b s (lines-unended s) e

-- ---- the first line of s, whose LF stands at `stop`, or the end

pub no_lines : (s : List ℕ) → length s ≡ 0 → lines_of s ≡ []
unfolding lines_of
no_lines [] h = refl
no_lines (b ∷ s) h = absurd (omega arith)

module _ (s : List ℕ) where
  abbrev pub stop_of : ℕ
  stop_of = index_of line_feed s

  pub last_line : 0 < length s → stop_of ≡ length s → lines_of s ≡ unended s ∷ []
  last_line h e = lines-unended s h e

  pub next-line : stop_of < length s → lines_of s ≡ ended (take stop_of s) ∷ lines_of (drop (stop_of + 1) s)
  next-line h = lines-ended s h ∙ ap (λ (n : ℕ). ended (take stop_of s) ∷ lines_of (drop n s)) (sym (add-one stop_of))
