-- Laws of the table of powers: each entry is the power of its place. Assumes nothing.
use mathlib.Core.Path.{◌≡◌, sym, ap, ◌∙◌}
use Rattle.std.specs.Prelude.{List, [], ◌∷◌}
use Prim.Native.Nat.{ℕ, zero, suc, ◌*◌, ◌^◌, ◌<◌}
use native.Mathlib.Nat.{mul_assoc, pow-suc}
use native.Mathlib.Omega.{arith}
use lib.Dec.{T, eqb, eqb→eq}
use lib.ListN.{length, get_or}
use Rattle.decimal.specs.Powers.{tenfold, PowersOfTen}
use Rattle.as5506.proofs.Laws.{and_left, and_right}

-- at place k stands p, k times tenfold
tenfold-at : (p : ℕ) (l : List ℕ) → T (tenfold p l) → (k : ℕ) → k < length l → get_or l k 0 ≡ 10 ^ k * p
unfolding tenfold
tenfold-at p [] t k h = absurd (omega (arith, h))
tenfold-at p (x ∷ xs) t zero h = eqb→eq x p (and_left (eqb x p) (tenfold (10 * p) xs) t) ∙ omega arith
tenfold-at p (x ∷ xs) t (suc k) h =
    tenfold-at (10 * p) xs (and_right (eqb x p) (tenfold (10 * p) xs) t) k (omega (arith, h))
    ∙ sym (mul_assoc (10 ^ k) 10 p) ∙ ap (λ (q : ℕ). q * p) (sym (pow-suc 10 k))

-- THE TABLE'S RULE: at place k stands ten to the k
pub power_at : {table : List ℕ} → PowersOfTen table → (k : ℕ) → k < 20 → get_or table k 0 ≡ 10 ^ k
power_at {table} p k h = tenfold-at 1 table p.rule k (omega (arith, p.twenty, h)) ∙ omega arith
