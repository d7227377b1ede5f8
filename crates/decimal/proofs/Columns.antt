-- Laws of numbers over the end of columns. Assumes nothing.
use mathlib.Core.Path.{◌≡◌, sym, ap}
use mathlib.Core.List.{List, [], ◌++◌}
use Prim.Native.Nat.{ℕ, zero, suc, ◌-◌, ◌≤◌}
use native.Mathlib.Nat.{sub-zero, zero-sub, suc-sub-suc}
use native.Mathlib.Omega.{arith}
use lib.ListN.{length, take, drop, replicate, length-drop}
use lib.Seq.{drop-nil, take_all}
use Rattle.as5506.specs.Fields.{space}
use Rattle.as5506.specs.Text.{digits, column}

-- what is left of columns behind so many of them, as a part of the columns' length
pub columns-left : (k : ℕ) (cs : List ℕ) → take (length cs) (drop k cs) ≡ drop k cs
columns-left k cs = let e : length (drop k cs) ≤ length cs = rw (length-drop k cs) (omega arith) in take_all (length cs) (drop k cs) e

-- over no columns
pub decimal_bare : (n : ℕ) → digits n ≡ drop (length (digits n)) [] ++ digits n
decimal_bare n = rw (drop-nil {A = ℕ} (length (digits n)))

drop-replicate : (k n : ℕ) (a : ℕ) → drop k (replicate n a) ≡ replicate (n - k) a
drop-replicate zero n a = rw (sub-zero n)
drop-replicate (suc k) zero a = rw (zero-sub (suc k))
drop-replicate (suc k) (suc n) a = rw (suc-sub-suc n k) (drop-replicate k n a)

-- over six spaces
pub decimal_column : (n : ℕ) → column n ≡ drop (length (digits n)) (replicate 6 space) ++ digits n
unfolding column
decimal_column n = ap (λ (l : List ℕ). l ++ digits n) (sym (drop-replicate (length (digits n)) 6 space))
