-- Blocks that are written behind blocks: nothing, one, some behind others, and a loop that writes what is left. Nothing here knows what a block holds.
-- Assumes nothing.
use mathlib.Core.Path.{◌≡◌, refl, sym, ap, ap₂, ◌∙◌, subst}
use mathlib.Core.List.{List, [], ◌∷◌, ◌++◌, append-nil}
use Prim.Native.Nat.{ℕ, zero, suc, ◌+◌, ◌-◌, ◌*◌, ◌/◌, ◌≤◌, ◌<◌}
use native.Mathlib.Nat.{add-mul, add-zero, zero-mul, one-mul}
use Rattle.std.proofs.Math.Nat.{le-div_iff_mul-le, div-lt_iff_lt-mul}
use native.Mathlib.Omega.{arith}
use lib.ListN.{length, length-append, take}
use lib.Seq.{sets, length-sets, take_all, take-nil, take-append-le, take-append-add}
use Rattle.std.specs.Prelude.{Option, Some, None}
use Rattle.std.specs.Borrow.{MutBor}
use Rattle.std.proofs.lemmas.Option.{none-some}
use Rattle.as5506.specs.Lists.{each}
use Rattle.as5506.proofs.Laws.{each_append}
use Rattle.lent.proofs.Sets.{sets-append}
use Rattle.output.specs.declared.blocks.Blocks.{Blocks}
use Rattle.output.specs.Blocks.{Tells, fitting, Written, BeginsBlocks, Wrote, count_told, itself}

-- where all find room, all are those that do
all_fit : {A : Type 0} (w : ℕ) (l : List A) (out : List ℕ) (count r : ℕ) → r ≡ count + length l → r ≤ length out / w → fitting w l out count ≡ l
unfolding fitting
all_fit w l out count r e h = take_all (length out / w - count) l (omega (arith, e, h))

module _ {A : Type 0} {w : ℕ} {f : A → List ℕ} where
  -- ---- what a call that wrote all says

  module _ {l : List A} {out : List ℕ} {count r : ℕ} where
    pub written_all : {out' : List ℕ} → r ≡ count + length l → r ≤ length out / w → length (each f l) ≡ length l * w → out' ≡ sets out (count * w) (each f l)
        → Written w f l out count (Some r) out'
    unfolding Tells
    written_all e h s u = record { tells = (e, h); whole = rw (all_fit w l out count r e h) s; holds = rw (all_fit w l out count r e h) u }

    module _ {out' : List ℕ} (v : Written w f l out count (Some r) out') where
      pub counts : (r ≡ count + length l) × (r ≤ length out / w)
      unfolding Tells
      counts = v.tells

      pub whole-all : length (each f l) ≡ length l * w
      whole-all = subst (λ (t : List A). length (each f t) ≡ length t * w) (all_fit w l out count r counts.0 counts.1) v.whole

      pub holds-all : out' ≡ sets out (count * w) (each f l)
      holds-all = v.holds ∙ ap (λ (t : List A). sets out (count * w) (each f t)) (all_fit w l out count r counts.0 counts.1)

      pub same-room : length out' / w ≡ length out / w
      same-room = ap (λ (n : ℕ). n / w) (ap length holds-all ∙ length-sets out (count * w) (each f l))

  -- what a call that found no room says
  pub overs : {l : List A} {out : List ℕ} {count : ℕ} {out' : List ℕ} → Written w f l out count None out' → length out / w < count + length l
  unfolding Tells
  overs v = v.tells

  -- ---- nothing, and one block

  pub written_none : (out : List ℕ) (count : ℕ) → count ≤ length out / w → Written w f [] out count (Some count) out
  written_none out count h = written_all (sym (add-zero count)) h (sym (zero-mul w)) refl

  -- there is no room for a single one
  pub written_over : (a : A) (out : List ℕ) (count : ℕ) → length out / w ≤ count → Written w f (a ∷ []) out count None out
  unfolding Tells fitting
  written_over a out count h =
      let z : length out / w - count ≡ 0 = omega (arith, h) in
      record { tells = omega (arith, h); whole = rw z (sym (zero-mul w)); holds = rw z refl }

  written_one : (a : A) (out : List ℕ) (count : ℕ) {out' : List ℕ} → length (f a) ≡ w → count < length out / w → out' ≡ sets out (count * w) (f a)
      → Written w f (a ∷ []) out count (Some (count + 1)) out'
  written_one a out count s h u =
      let e : each f (a ∷ []) ≡ f a = append-nil (f a) in
      written_all refl (omega (arith, h)) (ap length e ∙ s ∙ omega arith) (u ∙ ap (sets out (count * w)) (sym e))

  -- an entry by its block
  written_block : {a : A} {block out : List ℕ} {count : ℕ} {q : Option ℕ} {out' : List ℕ} → block ≡ f a → Written w itself (block ∷ []) out count q out' → Written w f (a ∷ []) out count q out'
  unfolding Tells fitting
  written_block {a = a} {block = block} {out = out} {count = count} {q = q} e v =
      record { tells = tells q v.tells; whole = numbers (length out / w - count) v.whole; holds = v.holds ∙ ap (sets out (count * w)) (same (length out / w - count)) }
    where
      tells : (q : Option ℕ) → Tells w (block ∷ []) out count q → Tells w (a ∷ []) out count q
      tells None h = h
      tells (Some r) h = h

      same : (k : ℕ) → each itself (take k (block ∷ [])) ≡ each f (take k (a ∷ []))
      same zero = refl
      same (suc k) = rw (e, take-nil {A = List ℕ} k, take-nil {A = A} k) refl

      numbers : (k : ℕ) → length (each itself (take k (block ∷ []))) ≡ length (take k (block ∷ [])) * w → length (each f (take k (a ∷ []))) ≡ length (take k (a ∷ [])) * w
      numbers zero h = h
      numbers (suc k) h = ap length (sym (same (suc k))) ∙ h ∙ rw (take-nil {A = List ℕ} k, take-nil {A = A} k) refl

  -- ---- blocks behind blocks

  -- those in front found no room: nor do all
  written_full : {a : List A} {out : List ℕ} {count : ℕ} {out₁ : List ℕ} → Written w f a out count None out₁ → (b : List A) → Written w f (a ++ b) out count None out₁
  unfolding Tells fitting
  written_full {a = a} {out = out} {count = count} v b =
      let h = overs v in
      let fit : take (length out / w - count) (a ++ b) ≡ take (length out / w - count) a = take-append-le (length out / w - count) a b (omega (arith, h)) in
      record { tells = omega (arith, h, length-append a b); whole = rw fit v.whole; holds = rw fit v.holds }

  -- they found room: r blocks stand there then
  module _ {a : List A} {out : List ℕ} {count : ℕ} {out₁ : List ℕ} {r : ℕ} (v : Written w f a out count (Some r) out₁) where
    fit-joined : (b : List A) → fitting w (a ++ b) out count ≡ a ++ fitting w b out₁ r
    unfolding fitting
    fit-joined b =
        let k = counts v in
        let n : length out / w - count ≡ length a + (length out₁ / w - r) = omega (arith, same-room v, k.0, k.1) in
        ap (λ (k : ℕ). take k (a ++ b)) n ∙ take-append-add a b (length out₁ / w - r)

    module _ (t : List A) where
      joined-whole : length (each f t) ≡ length t * w → length (each f (a ++ t)) ≡ length (a ++ t) * w
      joined-whole s =
          ap length (each_append f a t) ∙ length-append (each f a) (each f t) ∙ ap₂ ◌+◌ (whole-all v) s ∙ sym (add-mul (length a) (length t) w)
          ∙ ap (λ (n : ℕ). n * w) (sym (length-append a t))

      joined-holds : {out' : List ℕ} → out' ≡ sets out₁ (r * w) (each f t) → out' ≡ sets out (count * w) (each f (a ++ t))
      joined-holds u =
          let place : r * w ≡ count * w + length (each f a) = ap (λ (n : ℕ). n * w) (counts v).0 ∙ add-mul count (length a) w ∙ ap (λ (n : ℕ). count * w + n) (sym (whole-all v)) in
          u ∙ ap₂ (λ (o : List ℕ) (i : ℕ). sets o i (each f t)) (holds-all v) place
          ∙ sym (sets-append (each f a) (each f t) out (count * w)) ∙ ap (sets out (count * w)) (sym (each_append f a t))

    told-joined : (b : List A) (q : Option ℕ) → Tells w b out₁ r q → Tells w (a ++ b) out count q
    unfolding Tells
    told-joined b None h = omega (arith, h, same-room v, (counts v).0, length-append a b)
    told-joined b (Some n) h = (omega (arith, h.0, (counts v).0, length-append a b), subst (λ (k : ℕ). n ≤ k) (same-room v) h.1)

    written_then : {b : List A} {q : Option ℕ} {out₂ : List ℕ} → Written w f b out₁ r q out₂ → Written w f (a ++ b) out count q out₂
    written_then {b = b} {q = q} u =
        record {
          tells = told-joined b q u.tells;
          whole = rw (fit-joined b) (joined-whole (fitting w b out₁ r) u.whole);
          holds = rw (fit-joined b) (joined-holds (fitting w b out₁ r) u.holds);
        }

-- ---- the same of a `Blocks`

module _ {w : ℕ} where
  -- the blocks that stand there lie within
  within : (b : Blocks w) → b.count ≤ length b.numbers.now / w
  within b = (le-div_iff_mul-le b.sized).1 b.inside

  -- a block that is put, or finds no room
  module _ (block : List ℕ) (b : Blocks w) where
    pub put_over : length b.numbers.now - b.count * w < w → Wrote itself (block ∷ []) b None b
    put_over h =
        let n : (b.count + 1) * w ≡ b.count * w + w = add-mul b.count 1 w ∙ ap (λ (k : ℕ). b.count * w + k) (one-mul w) in
        let less : length b.numbers.now / w < b.count + 1 = (div-lt_iff_lt-mul b.sized).1 (omega (arith, h, n, b.inside)) in
        let over : length b.numbers.now / w ≤ b.count = omega (arith, less) in
        record { same = refl; written = written_over block b.numbers.now b.count over; full = λ e. omega (arith, over, within b) }

    pub put_one : (b' : Blocks w) → b'.numbers.ghost_name ≡ b.numbers.ghost_name → length block ≡ w → w ≤ length b.numbers.now - b.count * w
        → b'.numbers.now ≡ sets b.numbers.now (b.count * w) block → b'.count ≡ b.count + 1 → Wrote itself (block ∷ []) b (Some tt) b'
    put_one b' n s h u k =
        let m : (b.count + 1) * w ≡ b.count * w + w = add-mul b.count 1 w ∙ ap (λ (k : ℕ). b.count * w + k) (one-mul w) in
        let room : b.count < length b.numbers.now / w = (le-div_iff_mul-le b.sized).1 (omega (arith, h, m, b.inside)) in
        record { same = n; written = rw k (written_one block b.numbers.now b.count s room u); full = λ e. absurd (none-some tt (sym e)) }

module _ {A : Type 0} {w : ℕ} {f : A → List ℕ} where
  -- what stands in the output that was lent
  pub written_lent : {l : List A} {lent : MutBor (List ℕ)} {b b' : Blocks w} {q : Option (Unit {0})} → BeginsBlocks lent b → Wrote f l b q b'
      → Written w f l lent.now 0 (count_told q b'.count) b'.numbers.now
  written_lent s v = rw (← s.now, ← s.count) v.written

  -- nothing
  pub wrote_none : {l : List A} (b : Blocks w) → l ≡ [] → Wrote f l b (Some tt) b
  wrote_none b e = rw e (record { same = refl; written = written_none b.numbers.now b.count (within b); full = λ h. absurd (none-some tt (sym h)) })

  module _ {b b₁ : Blocks w} {q : Option (Unit {0})} where
    -- the same entries
    pub wrote_as : {l r : List A} → Wrote f r b q b₁ → l ≡ r → Wrote f l b q b₁
    wrote_as v e = rw e v

    -- an entry by its block
    pub wrote_block : {a : A} {block : List ℕ} → Wrote itself (block ∷ []) b q b₁ → block ≡ f a → Wrote f (a ∷ []) b q b₁
    wrote_block v e = record { same = v.same; written = written_block e v.written; full = v.full }

    -- entries, and others behind them
    pub wrote_full : {s : List A} → Wrote f s b q b₁ → q ≡ None → {z : Option (Unit {0})} → z ≡ None → (t : List A) → Wrote f (s ++ t) b z b₁
    wrote_full {s = s} v e k t =
        record {
          same = v.same;
          written = rw k (written_full (subst (λ (o : Option (Unit {0})). Written w f s b.numbers.now b.count (count_told o b₁.count) b₁.numbers.now) e v.written) t);
          full = λ h. v.full e;
        }

    pub wrote_then : {s t : List A} → Wrote f s b q b₁ → q ≡ Some tt → {p : Option (Unit {0})} {b₂ : Blocks w} → Wrote f t b₁ p b₂ → Wrote f (s ++ t) b p b₂
    wrote_then {s = s} v e u =
        record {
          same = u.same ∙ v.same;
          written = written_then (subst (λ (o : Option (Unit {0})). Written w f s b.numbers.now b.count (count_told o b₁.count) b₁.numbers.now) e v.written) u.written;
          full = u.full;
        }

-- ---- a loop: whatever writes what is left writes the whole

pub record Writing {A : Type 0} {w : ℕ} (f : A → List ℕ) (whole : List A) (b₀ b : Blocks w) (left : List A) : Type 0 where
  pub same : b.numbers.ghost_name ≡ b₀.numbers.ghost_name
  pub rest : (q : Option (Unit {0})) (b' : Blocks w) → Wrote f left b q b' → Wrote f whole b₀ q b'

module _ {A : Type 0} {w : ℕ} {f : A → List ℕ} {whole : List A} {b₀ : Blocks w} where
  pub writing_start : {left : List A} → whole ≡ left → Writing f whole b₀ b₀ left
  writing_start e = record { same = refl; rest = λ q b' v. wrote_as v e }

  -- a call writes s, the first of what is left
  module _ {b : Blocks w} {left s : List A} (l : Writing f whole b₀ b left) {q : Option (Unit {0})} {b' : Blocks w} (v : Wrote f s b q b') where
    pub writing_turn : (t : List A) → left ≡ s ++ t → q ≡ Some tt → Writing f whole b₀ b' t
    writing_turn t e h = record { same = v.same ∙ l.same; rest = λ p b₂ u. l.rest p b₂ (wrote_as (wrote_then v h u) e) }

    pub writing_full : (t : List A) → left ≡ s ++ t → q ≡ None → {z : Option (Unit {0})} → z ≡ None → Wrote f whole b₀ z b'
    writing_full t e h k = l.rest _ b' (wrote_as (wrote_full v h k t) e)

  pub writing_end : {b : Blocks w} {left : List A} → Writing f whole b₀ b left → left ≡ [] → Wrote f whole b₀ (Some tt) b
  writing_end {b} l e = l.rest _ b (wrote_none b e)

-- a loop over a list, each of whose entries g brings some of what is left
module _ {A B : Type 0} {w : ℕ} {f : A → List ℕ} {whole : List A} {b₀ b : Blocks w} (g : B → List A) {l : List B} (r : Writing f whole b₀ b (each g l)) where
  pub each_end : l ≡ [] → Wrote f whole b₀ (Some tt) b
  each_end e = writing_end r (ap (each g) e)

  module _ {x : B} {l' : List B} (e : l ≡ x ∷ l') {q : Option (Unit {0})} {b' : Blocks w} (v : Wrote f (g x) b q b') where
    pub each_turn : q ≡ Some tt → Writing f whole b₀ b' (each g l')
    each_turn = writing_turn r v (each g l') (ap (each g) e)

    pub each_full : q ≡ None → {z : Option (Unit {0})} → z ≡ None → Wrote f whole b₀ z b'
    each_full = writing_full r v (each g l') (ap (each g) e)
