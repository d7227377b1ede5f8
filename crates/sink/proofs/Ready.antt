-- WHAT CALLERS GET: what a walk relies on holds after each feature too. Assumes nothing.
use mathlib.Core.Path.{◌≡◌, refl, subst}
use mathlib.Core.List.{List}
use Prim.Native.Nat.{ℕ, zero, suc, ◌≤◌}
use Rattle.std.specs.Prelude.{Option, Some, None}
use lib.ListN.{set}
use Rattle.as5506.specs.Tables.{Tables}
use Rattle.as5506.specs.Groups.{Feature as Meant}
use Rattle.lent.proofs.Sets.{placed}
use Rattle.sink.specs.declared.Matching.{Matching}
use Rattle.sink.specs.declared.Purpose.{Purpose}
use Rattle.sink.specs.declared.Purpose.TheVariants.{Count, All, First, Match}
use Rattle.sink.specs.Take.{Held, kept_count, partner_of, code_of, match_by, taken, Remembered, Memory, Ready}

coded : (v : ℕ) (a : Option ℕ) → v ≡ code_of a → Remembered v a
coded zero a e = tt
coded (suc v) a e = e

-- the memory keeps the search's answer
pub remembers : (m : Tables) (kept memo : List ℕ) (name : ℕ) → Memory m kept memo → Memory m kept (set memo name (code_of (partner_of m kept name)))
unfolding Memory
remembers m kept memo name known k =
    placed memo name (code_of (partner_of m kept name)) k (λ v. Remembered v (partner_of m kept k)) (known k)
    (λ e. subst (λ (j : ℕ). Remembered (code_of (partner_of m kept name)) (partner_of m kept j)) e (coded _ (partner_of m kept name) refl))

match-memo : (a : Option ℕ) (k : Matching) (f : Meant) (h : Held) → (match_by a k f h).memo ≡ set h.memo f.name (code_of a)
unfolding match_by
match-memo None k f h = refl
match-memo (Some i) k f h = refl

pub taken-ready : (p : Purpose) (m : Tables) (f : Meant) (h : Held) → Ready p m h.memo → Ready p m (taken p m f h).memo
unfolding Ready taken
taken-ready Count m f h r = tt
taken-ready All m f h r = tt
taken-ready First m f h r = tt
taken-ready (Match k) m f h r = (r.0, rw (match-memo (partner_of m k.kept.now f.name) k f h) (remembers m k.kept.now h.memo f.name r.1))

-- what a match asks for
pub match_few : (p : Purpose) (q : Matching) (m : Tables) (memo : List ℕ) → p ≡ Match q → Ready p m memo → kept_count q.kept.now ≤ 4096
unfolding Ready
match_few p q m memo e r = (subst (λ (x : Purpose). Ready x m memo) e r).0

pub match_memory : (p : Purpose) (q : Matching) (m : Tables) (memo : List ℕ) → p ≡ Match q → Ready p m memo → Memory m q.kept.now memo
unfolding Ready
match_memory p q m memo e r = (subst (λ (x : Purpose). Ready x m memo) e r).1
