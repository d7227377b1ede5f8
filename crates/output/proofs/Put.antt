-- Laws of `Put`: texts printed one behind the other are one text, and a loop that prints what is left of one. Assumes nothing.
use mathlib.Core.Path.{◌≡◌, refl, sym, ap, ap₂, subst, ◌∙◌}
use mathlib.Core.List.{List, [], ◌∷◌, ◌++◌, append-nil}
use Prim.Native.Nat.{ℕ, ◌+◌, ◌≤◌, ◌<◌}
use native.Mathlib.Numerals.{add-one}
use lib.ListN.{length, get_or, drop}
use lib.Seq.{sets, drop-cons}
use Rattle.std.specs.Prelude.{Option, Some, None}
use Rattle.std.specs.Borrow.{MutBor}
use Rattle.as5506.specs.Lists.{each}
use Rattle.lent.specs.Append.{Filled, append, append_all, filled, Stays}
use Rattle.lent.specs.Printed.{Printed}
use Rattle.lent.proofs.Pieces.{together-append, all_append, all_fit, all-full, all-extends, printed-by}
use Rattle.output.specs.Put.{Begins, Put, output_of}
use Rattle.output.specs.declared.Output.{Output}

-- a piece
pub put_piece : {p : List ℕ} {o o' : Output} → o'.bytes.ghost_name ≡ o.bytes.ghost_name → output_of o' ≡ append p (output_of o) → Put p o o'
unfolding append_all
put_piece {p} e h = record { same = e; pieces = p ∷ []; text = append-nil p; holds = h }

-- the same text
pub put_as : {s t : List ℕ} {o o' : Output} → Put s o o' → t ≡ s → Put t o o'
put_as p e = record { same = p.same; pieces = p.pieces; text = p.text ∙ sym e; holds = p.holds }

-- no text
pub put_none : (o : Output) → Put [] o o
unfolding append_all
put_none o = record { same = refl; pieces = []; text = refl; holds = refl }

-- a text behind a text
infixl 20 ◌▷◌
pub ◌▷◌ : {s t : List ℕ} {o o₁ o₂ : Output} → Put s o o₁ → Put t o₁ o₂ → Put (s ++ t) o o₂
◌▷◌ {o = o} p q =
    record {
      same = q.same ∙ p.same;
      pieces = p.pieces ++ q.pieces;
      text = together-append p.pieces q.pieces ∙ ap₂ ◌++◌ p.text q.text;
      holds = q.holds ∙ ap (append_all q.pieces) p.holds ∙ sym (all_append p.pieces q.pieces (output_of o));
    }

-- what a text that is printed leaves: where it has room it stands behind what was used; where it has none the output is full; what was used stays
module _ {t : List ℕ} {o o' : Output} (p : Put t o o') {k : ℕ} (e : o.used ≡ Some k) where
  behind : output_of o' ≡ append_all p.pieces (filled o.bytes.now (Some k))
  behind = p.holds ∙ ap (λ (u : Option ℕ). append_all p.pieces (filled o.bytes.now u)) e

  pub put-fits : k + length t ≤ length o.bytes.now → output_of o' ≡ filled (sets o.bytes.now k t) (Some (k + length t))
  put-fits h = rw (← p.text) (behind ∙ all_fit p.pieces o.bytes.now k (subst (λ (s : List ℕ). k + length s ≤ length o.bytes.now) (sym p.text) h))

  pub put-spills : k ≤ length o.bytes.now → length o.bytes.now < k + length t → o'.used ≡ None
  put-spills b h =
      ap (λ (f : Filled ℕ). f.used) behind ∙ all-full p.pieces o.bytes.now k b (subst (λ (s : List ℕ). length o.bytes.now < k + length s) (sym p.text) h)

pub put-stays : {t : List ℕ} {o o' : Output} → Put t o o' → Stays (output_of o) (output_of o')
put-stays {o = o} p = subst (Stays (output_of o)) (sym p.holds) (all-extends p.pieces (output_of o)).front

-- a text from the front of the output on
pub printed : {t : List ℕ} {lent : MutBor (List ℕ)} {o o' : Output} {z : Option ℕ} {text' : List ℕ} → Begins lent o → Put t o o' → z ≡ o'.used → text' ≡ o'.bytes.now
    → Printed t lent.now z text'
printed {t} {lent} b p e f =
    printed-by p.pieces lent.now _ _ t p.text (ap₂ filled f e ∙ p.holds ∙ ap (append_all p.pieces) (ap₂ filled b.now b.used))

-- ---- a loop: whatever prints what is left prints the whole

pub record Printing (whole : List ℕ) (o₀ o : Output) (left : List ℕ) : Type 0 where
  pub same : o.bytes.ghost_name ≡ o₀.bytes.ghost_name
  pub rest : (o' : Output) → Put left o o' → Put whole o₀ o'

module _ {whole : List ℕ} {o₀ : Output} where
  pub printing_start : {left : List ℕ} → whole ≡ left → Printing whole o₀ o₀ left
  printing_start e = record { same = refl; rest = λ o' p. put_as p e }

  -- one text s of what is left is printed
  pub printing_turn : {o o₁ : Output} {left s t : List ℕ} → Printing whole o₀ o left → Put s o o₁ → left ≡ s ++ t → Printing whole o₀ o₁ t
  printing_turn l p e = record { same = p.same ∙ l.same; rest = λ o' q. l.rest o' (put_as (p ▷ q) e) }

  pub printing_end : {o : Output} {left : List ℕ} → Printing whole o₀ o left → left ≡ [] → Put whole o₀ o
  printing_end {o} l e = l.rest o (put_as (put_none o) e)

-- a loop over a list, each of whose entries is printed by f
module _ {A : Type 0} (f : A → List ℕ) {whole : List ℕ} {o₀ o o₁ : Output} where
  pub printing_next : (xs : List A) (i : ℕ) (d : A) → Printing whole o₀ o (each f (drop i xs)) → i < length xs → Put (f (get_or xs i d)) o o₁
      → Printing whole o₀ o₁ (each f (drop (i + 1) xs))
  printing_next xs i d l h p = printing_turn l p (rw (add-one i, drop-cons xs i d))
