-- Laws of `records_from ns i n`, the n records from record i of the numbers ns on. For the reader: `records-of` and `records-refused`, from what a
-- listing leaves in its output of diagnostics to the records. Assumes nothing.
use mathlib.Core.Path.{◌≡◌, refl, sym, ap, ap₂, ◌∙◌}
use mathlib.Core.List.{List, [], ◌∷◌, ◌++◌, map}
use Prim.Native.Nat.{ℕ, zero, suc, ◌+◌, ◌-◌, ◌*◌, ◌≤◌, ◌<◌}
use native.Mathlib.Nat.{sub-zero, suc-sub-suc}
use native.Mathlib.Omega.{arith}
use lib.ListN.{length, get_or, replicate}
use lib.Seq.{ext_get_or}
use Rattle.as5506.specs.Lists.{each, zeros, padded}
use Rattle.as5506.specs.Rows.{Diag}
use Rattle.as5506.specs.Layout.{diag_block}
use Rattle.lent.proofs.Padded.{padded-none, padded-at}
use Rattle.conlist_c.specs.declared.diagnostic.Diagnostic.{Diagnostic}
use Rattle.conlist_c.specs.Records.{record_at, records_from, record_of, blank}

-- ---- as many as are asked for, each in its place

pub records-length : (ns : List ℕ) (i n : ℕ) → length (records_from ns i n) ≡ n
unfolding records_from
records-length ns i zero = refl
records-length ns i (suc n) = ap suc (records-length ns (suc i) n)

pub records-at : (ns : List ℕ) (i n k : ℕ) (d : Diagnostic) → k < n → get_or (records_from ns i n) k d ≡ record_at ns (i + k)
unfolding records_from
records-at ns i zero k d h = absurd (omega arith)
records-at ns i (suc n) zero d h = ap (record_at ns) (omega arith)
records-at ns i (suc n) (suc k) d h = records-at ns (suc i) n k d (omega arith) ∙ ap (record_at ns) (omega arith)

-- a list that has each record below i, and so all, in its place
pub records_are : (ns : List ℕ) (ys : List Diagnostic) (n i : ℕ) → length ys ≡ n → n ≤ i → ((k : ℕ) → k < i → get_or ys k (record_at ns 0) ≡ record_at ns k) → ys ≡ records_from ns 0 n
records_are ns ys n i e past h =
    ext_get_or (record_at ns 0) ys (records_from ns 0 n) (e ∙ sym (records-length ns 0 n)) (λ k l. let m : k < n = omega (arith, l, e) in h k (omega (arith, m, past)) ∙ ap (record_at ns) (omega arith) ∙ sym (records-at ns 0 n k (record_at ns 0) m))

-- ---- one record

-- a record whose four numbers stand in its places
pub record_is : (ns : List ℕ) (i a b c d : ℕ) → a ≡ get_or ns (i * 4) 0 → b ≡ get_or ns (i * 4 + 1) 0 → c ≡ get_or ns (i * 4 + 2) 0 → d ≡ get_or ns (i * 4 + 3) 0
    → record { code = a; connection = b; first = c; second = d } ≡ record_at ns i
unfolding record_at
record_is ns i a b c d p q r s = λ j. record { code = p j; connection = q j; first = r j; second = s j }

-- numbers that agree in every place have the same records
same-record : (ns ms : List ℕ) → ((k : ℕ) → get_or ns k 0 ≡ get_or ms k 0) → (i : ℕ) → record_at ns i ≡ record_at ms i
unfolding record_at
same-record ns ms e i = record_is ms i _ _ _ _ (e (i * 4)) (e (i * 4 + 1)) (e (i * 4 + 2)) (e (i * 4 + 3))

-- behind a diagnostic's block the records are those of the rest
next-record : (d : Diag) (ns : List ℕ) (i : ℕ) → record_at (diag_block d ++ ns) (suc i) ≡ record_at ns i
unfolding record_at diag_block
next-record d ns i =
    record_is ns i _ _ _ _
    (behind (suc i * 4) (i * 4) (omega arith))
    (behind (suc i * 4 + 1) (i * 4 + 1) (omega arith))
    (behind (suc i * 4 + 2) (i * 4 + 2) (omega arith))
    (behind (suc i * 4 + 3) (i * 4 + 3) (omega arith))
  where
    behind : (p k : ℕ) → p ≡ suc (suc (suc (suc k))) → get_or (diag_block d ++ ns) p 0 ≡ get_or ns k 0
    behind p k e = ap (λ (q : ℕ). get_or (diag_block d ++ ns) q 0) e

-- ---- one record after the other

same-records : (ns ms : List ℕ) → ((k : ℕ) → get_or ns k 0 ≡ get_or ms k 0) → (i n : ℕ) → records_from ns i n ≡ records_from ms i n
unfolding records_from
same-records ns ms e i zero = refl
same-records ns ms e i (suc n) = ap₂ ◌∷◌ (same-record ns ms e i) (same-records ns ms e (suc i) n)

next-records : (d : Diag) (ns : List ℕ) (i n : ℕ) → records_from (diag_block d ++ ns) (suc i) n ≡ records_from ns i n
unfolding records_from
next-records d ns i zero = refl
next-records d ns i (suc n) = ap₂ ◌∷◌ (next-record d ns i) (next-records d ns (suc i) n)

-- ---- of diagnostics

no-records : (i n : ℕ) → records_from [] i n ≡ replicate n blank
unfolding records_from record_at
no-records i zero = refl
no-records i (suc n) = ap (λ (l : List Diagnostic). blank ∷ l) (no-records (suc i) n)

blocks : (ds : List Diag) (n : ℕ) → length ds ≤ n → records_from (each diag_block ds) 0 n ≡ map record_of ds ++ replicate (n - length ds) blank
unfolding records_from record_at record_of diag_block
blocks [] n h = rw (sub-zero n) (no-records 0 n)
blocks (d ∷ ds) zero h = absurd (omega arith)
blocks (d ∷ ds) (suc n) h = rw (suc-sub-suc n (length ds)) (ap (λ (l : List Diagnostic). record_of d ∷ l) (next-records d (each diag_block ds) 0 n ∙ blocks ds n (omega arith)))

-- THE DIAGNOSTICS COME BACK IN THE CALLER'S RECORDS: where a listing has left the diagnostics ds in its output of n numbers, k records, of which there
-- are enough, are those of ds, and zeros behind them
pub records-of : (ds : List Diag) (numbers : List ℕ) (n k : ℕ) → numbers ≡ padded n (each diag_block ds) → length ds ≤ k
    → records_from numbers 0 k ≡ map record_of ds ++ replicate (k - length ds) blank
records-of ds numbers n k e h =
    ap (λ (l : List ℕ). records_from l 0 k) e ∙ same-records (padded n (each diag_block ds)) (each diag_block ds) (padded-at n (each diag_block ds)) 0 k ∙ blocks ds k h

-- after a refusal, which leaves zeros, every record is zeros
pub records-refused : (numbers : List ℕ) (n k : ℕ) → numbers ≡ zeros n → records_from numbers 0 k ≡ replicate k blank
records-refused numbers n k e =
    ap (λ (l : List ℕ). records_from l 0 k) (e ∙ sym (padded-none n)) ∙ same-records (padded n []) [] (padded-at n []) 0 k ∙ no-records 0 k
