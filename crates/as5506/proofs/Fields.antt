-- What a field of few columns can say, and the fields of a line one by one. Assumes nothing.
use mathlib.Core.Bool.{Bool, true, false, not, ◌&&◌, cond, and_assoc}
use mathlib.Core.Path.{◌≡◌, refl, sym, ap, ap₂, ◌∙◌, subst}
use mathlib.Core.List.{List, [], ◌∷◌, ◌++◌, append_assoc}
use Prim.Native.Nat.{ℕ, zero, suc, ◌+◌, ◌-◌, ◌*◌, ◌^◌, ◌≤◌, ◌<◌}
use native.Mathlib.Nat.{mul-le-mul_right, mul_assoc, lt_of_lt_of_le, pow-succ', pow-le-pow_right}
use native.Mathlib.Omega.{arith}
use borrow.Author.Tests.{lt-ltb}
use lib.Dec.{T, eqb, leb, ltb, leb→le}
use lib.ListN.{length, get_or, take, drop, replicate, length-append, length-drop}
use lib.Seq.{take_at, drop_at, take-append-le, drop-append-le}
use Rattle.as5506.specs.Lists.{all_of, same_bytes, bytes_of}
use Rattle.as5506.specs.Tables.{two_to32}
use Rattle.as5506.specs.Columns.{Column, needed, optional, long, field_bytes, field_cells, line_bytes, row_cells}
use Rattle.as5506.specs.Fields.{space, unspaced, digit, decimal_from, is_decimal, is_number, Field, value, dash, bad, field_by, field_of, fits, numbers_of, fields_fit, field_numbers}
use Rattle.as5506.proofs.Laws.{and_left, and_right}

-- ---- the spaces in front

unspaced-padded : (n : ℕ) (f : List ℕ) → unspaced (replicate n space ++ f) ≡ unspaced f
unfolding unspaced
unspaced-padded zero f = refl
unspaced-padded (suc n) f = unspaced-padded n f

-- SPACES IN FRONT OF A FIELD SAY NOTHING
pub padded-field : (n : ℕ) (f : List ℕ) → field_of (replicate n space ++ f) ≡ field_of f
unfolding field_of
padded-field n f = ap (λ (u : List ℕ). field_by (same_bytes u (bytes_of "-")) (is_number u) u) (unspaced-padded n f)

unspaced-short : (s : List ℕ) → length (unspaced s) ≤ length s
unfolding unspaced
unspaced-short [] = omega arith
unspaced-short (b ∷ bs) = go (eqb b space) (unspaced-short bs)
  where
    go : (c : Bool) → length (unspaced bs) ≤ length bs → length (cond c (unspaced bs) (b ∷ bs)) ≤ suc (length bs)
    go true h = omega arith
    go false h = omega arith

-- ---- a number of few digits

-- digits that continue v give less than v + 1 followed by as many zeros
decimal-below : (v : ℕ) (s : List ℕ) → T (all_of digit s) → decimal_from v s < suc v * 10 ^ length s
unfolding decimal_from
decimal-below v [] t = omega arith
decimal-below v (b ∷ bs) t =
    let here = and_left (digit b) (all_of digit bs) t in
    let low = leb→le b 57 (and_right (leb 48 b) (leb b 57) here) in
    let rest = decimal-below (v * 10 + (b - 48)) bs (and_right (digit b) (all_of digit bs) t) in
    let h : suc (v * 10 + (b - 48)) ≤ suc v * 10 = omega (arith, low) in
    let g : suc (v * 10 + (b - 48)) * 10 ^ length bs ≤ suc v * 10 * 10 ^ length bs = mul-le-mul_right (10 ^ length bs) h in
    let e : suc v * 10 * 10 ^ length bs ≡ suc v * 10 ^ suc (length bs) = mul_assoc (suc v) 10 (10 ^ length bs) ∙ ap (λ (n : ℕ). suc v * n) (sym (pow-succ' 10 (length bs))) in
    subst (λ (n : ℕ). decimal_from (v * 10 + (b - 48)) bs < n) e (lt_of_lt_of_le rest g)

-- a field that is a number below n, or none
abbrev pub Below : ℕ → Field → Type 0
Below n (value v) = v < n
Below n dash = Unit {0}
Below n bad = Unit {0}

below_by : (n : ℕ) (a b : Bool) (s : List ℕ) → (T b → decimal_from 0 s < n) → Below n (field_by a b s)
below_by n true b s h = tt
below_by n false true s h = h tt
below_by n false false s h = tt

all_digits : (s : List ℕ) → T (is_decimal s) → T (all_of digit s)
unfolding is_decimal
all_digits s t =
    and_left (all_of digit s) (not (eqb (get_or s 0 0) 48 && leb 2 (length s))) (and_right (leb 1 (length s)) (all_of digit s && not (eqb (get_or s 0 0) 48 && leb 2 (length s))) t)

-- a field of at most k columns is a number of at most k digits
short-field : (k : ℕ) (f : List ℕ) → length f ≤ k → Below (10 ^ k) (field_of f)
unfolding field_of is_number
short-field k f h = below_by (10 ^ k) (same_bytes (unspaced f) (bytes_of "-")) (is_number (unspaced f)) (unspaced f) low
  where
    low : T (is_number (unspaced f)) → decimal_from 0 (unspaced f) < 10 ^ k
    low t =
        let u = unspaced f in
        let a = all_digits u (and_left (is_decimal u) (ltb (decimal_from 0 u) (two_to32 * two_to32)) t) in
        omega (arith, decimal-below 0 u a, pow-le-pow_right {n = 10} (omega arith) {i = length u} {j = k} (omega (arith, h, unspaced-short f)))

-- SIX COLUMNS HOLD A NUMBER BELOW A MILLION
pub small-field : (f : List ℕ) → length f ≤ 6 → Below 1000000 (field_of f)
small-field f h = short-field 6 f h

-- THE BOUND OF 64 BITS SAYS NOTHING OF NINETEEN DIGITS: they are a number exactly if they are a decimal
pub short-number : (s : List ℕ) → length s ≤ 19 → is_number s ≡ is_decimal s
unfolding is_number
short-number s h = go (is_decimal s) refl
  where
    go : (b : Bool) → is_decimal s ≡ b → b && ltb (decimal_from 0 s) (two_to32 * two_to32) ≡ b
    go true e = lt-ltb (decimal_from 0 s) (two_to32 * two_to32) (omega (arith, decimal-below 0 s (all_digits s (subst T (sym e) tt)), pow-le-pow_right {n = 10} (omega arith) h))
    go false e = refl

-- ---- a field, then what follows it

pub numbers-step : (c : Column) (cs : List Column) (p q : List ℕ) → length p ≡ field_bytes c → field_numbers (c ∷ cs) (p ++ q) ≡ numbers_of c (field_of p) ++ field_numbers cs q
unfolding field_numbers
numbers-step c cs p q e =
    ap₂ (λ (a b : List ℕ). numbers_of c (field_of a) ++ field_numbers cs b) (take_at p q (field_bytes c) e) (drop_at p q (field_bytes c) e)

pub fit-step : (c : Column) (cs : List Column) (p q : List ℕ) → length p ≡ field_bytes c → fields_fit (c ∷ cs) (p ++ q) ≡ fits c (field_of p) && fields_fit cs q
unfolding fields_fit
fit-step c cs p q e =
    ap₂ (λ (a b : List ℕ). fits c (field_of a) && fields_fit cs b) (take_at p q (field_bytes c) e) (drop_at p q (field_bytes c) e)

-- ---- some fields, then what follows them

numbers-append : (ds cs : List Column) (p q : List ℕ) → length p ≡ line_bytes ds → field_numbers (ds ++ cs) (p ++ q) ≡ field_numbers ds p ++ field_numbers cs q
unfolding field_numbers
numbers-append [] cs [] q e = refl
numbers-append [] cs (b ∷ p) q e = absurd (omega arith)
numbers-append (d ∷ ds) cs p q e =
    let h : field_bytes d ≤ length p = omega arith in
    ap₂ (λ (a b : List ℕ). numbers_of d (field_of a) ++ field_numbers (ds ++ cs) b) (take-append-le (field_bytes d) p q h) (drop-append-le (field_bytes d) p q h)
    ∙ ap (λ (r : List ℕ). numbers_of d (field_of (take (field_bytes d) p)) ++ r) (numbers-append ds cs (drop (field_bytes d) p) q (omega (arith, length-drop (field_bytes d) p)))
    ∙ sym (append_assoc (numbers_of d (field_of (take (field_bytes d) p))) (field_numbers ds (drop (field_bytes d) p)) (field_numbers cs q))

fit_append : (ds cs : List Column) (p q : List ℕ) → length p ≡ line_bytes ds → fields_fit (ds ++ cs) (p ++ q) ≡ fields_fit ds p && fields_fit cs q
unfolding fields_fit
fit_append [] cs [] q e = refl
fit_append [] cs (b ∷ p) q e = absurd (omega arith)
fit_append (d ∷ ds) cs p q e =
    let h : field_bytes d ≤ length p = omega arith in
    ap₂ (λ (a b : List ℕ). fits d (field_of a) && fields_fit (ds ++ cs) b) (take-append-le (field_bytes d) p q h) (drop-append-le (field_bytes d) p q h)
    ∙ ap (λ (r : Bool). fits d (field_of (take (field_bytes d) p)) && r) (fit_append ds cs (drop (field_bytes d) p) q (omega (arith, length-drop (field_bytes d) p)))
    ∙ sym (and_assoc (fits d (field_of (take (field_bytes d) p))) (fields_fit ds (drop (field_bytes d) p)) (fields_fit cs q))

-- ---- some fields, a field, and what follows them

pub numbers-parts : (ds : List Column) (c : Column) (cs : List Column) (p f r : List ℕ) → length p ≡ line_bytes ds → length f ≡ field_bytes c
    → field_numbers (ds ++ (c ∷ cs)) (p ++ (f ++ r)) ≡ field_numbers ds p ++ (numbers_of c (field_of f) ++ field_numbers cs r)
numbers-parts ds c cs p f r d e = numbers-append ds (c ∷ cs) p (f ++ r) d ∙ ap (λ (q : List ℕ). field_numbers ds p ++ q) (numbers-step c cs f r e)

pub fit_parts : (ds : List Column) (c : Column) (cs : List Column) (p f r : List ℕ) → length p ≡ line_bytes ds → length f ≡ field_bytes c
    → fields_fit (ds ++ (c ∷ cs)) (p ++ (f ++ r)) ≡ fields_fit ds p && (fits c (field_of f) && fields_fit cs r)
fit_parts ds c cs p f r d e = fit_append ds (c ∷ cs) p (f ++ r) d ∙ ap (λ (q : Bool). fields_fit ds p && q) (fit-step c cs f r e)

-- ---- how many numbers

pub field-cells : (c : Column) (f : Field) → length (numbers_of c f) ≡ field_cells c
field-cells (needed b w) f = refl
field-cells (optional b w) f = refl
field-cells (long b) (value v) = refl
field-cells (long b) dash = refl
field-cells (long b) bad = refl

-- a line's row has the numbers of its columns, whatever the line says
pub numbers-length : (cs : List Column) (s : List ℕ) → length (field_numbers cs s) ≡ row_cells cs
unfolding field_numbers
numbers-length [] s = refl
numbers-length (c ∷ cs) s =
    length-append (numbers_of c (field_of (take (field_bytes c) s))) (field_numbers cs (drop (field_bytes c) s))
    ∙ ap₂ ◌+◌ (field-cells c (field_of (take (field_bytes c) s))) (numbers-length cs (drop (field_bytes c) s))
