-- What is written of the first X rows, and of one more. Assumes nothing.
use mathlib.Core.Bool.{true, false}
use mathlib.Core.Path.{◌≡◌, refl, sym, ap, ap₂, ◌∙◌}
use mathlib.Core.List.{List, [], ◌∷◌, ◌++◌, append-nil}
use Prim.Native.Nat.{ℕ, zero, suc, ◌+◌, ◌-◌, ◌≤◌, ◌<◌}
use native.Mathlib.Nat.{add-zero, zero-add}
use native.Mathlib.Omega.{arith}
use Rattle.std.specs.Prelude.{Option, Some, None, is_some}
use Rattle.as5506.specs.Lists.{span, up_to, each}
use Rattle.as5506.specs.Tables.{Tables, x_count}
use Rattle.as5506.specs.Names.{Comparison}
use Rattle.as5506.specs.Tracing.{rows_at}
use Rattle.as5506.specs.Layout.{traced_block, row_numbers}
use Rattle.as5506.proofs.Laws.{each_append}
use Rattle.as5506.proofs.Scans.{span-next, span-done}
use Rattle.output.specs.declared.blocks.Blocks.{Blocks}
use Rattle.output.specs.Blocks.{Wrote}
use Rattle.output.proofs.Writing.{overs, counts, wrote_as, wrote_full, wrote_then}
use Rattle.semantic.specs.Told.{EndsRows}

span-parts : (i k n : ℕ) → span i (k + n) ≡ span i k ++ span (i + k) n
span-parts i zero n = ap₂ span (sym (add-zero i)) (zero-add n)
span-parts i (suc k) n =
    let e : suc k + n ≡ suc (k + n) = omega arith in
    ap (span i) e ∙ ap (λ (l : List ℕ). i ∷ l) (span-parts (suc i) k n ∙ ap (λ (j : ℕ). span (suc i) k ++ span j n) (omega arith))

-- the rows before row i, and the others
up_to-parts : (i n : ℕ) → i ≤ n → up_to n ≡ up_to i ++ span i (n - i)
up_to-parts i n h =
    let e : n ≡ i + (n - i) = omega arith in
    ap up_to e ∙ span-parts 0 i (n - i) ∙ ap (λ (j : ℕ). up_to i ++ span j (n - i)) (zero-add i)

module _ {A : Type 0} (g : ℕ → List A) (i : ℕ) where
  each-parts : (n : ℕ) → i ≤ n → each g (up_to n) ≡ each g (up_to i) ++ each g (span i (n - i))
  each-parts n h = ap (each g) (up_to-parts i n h) ∙ each_append g (up_to i) (span i (n - i))

  each-last : each g (up_to (i + 1)) ≡ each g (up_to i) ++ g i
  each-last =
      let e : span i (i + 1 - i) ≡ i ∷ [] = span-next i (i + 1) (omega arith) ∙ ap (λ (l : List ℕ). i ∷ l) (span-done (i + 1) (i + 1) (omega arith)) in
      each-parts (i + 1) (omega arith) ∙ ap (λ (l : List ℕ). each g (up_to i) ++ each g l) e ∙ ap (λ (r : List A). each g (up_to i) ++ r) (append-nil (g i))

some-is : (q : Option (Unit {0})) → is_some q ≡ true → q ≡ Some tt
some-is None h = cc
some-is (Some u) h = refl

none-is : (q : Option (Unit {0})) → is_some q ≡ false → q ≡ None
none-is None h = refl
none-is (Some u) h = cc

-- what g brings of the rows before row i is written, or as much of it as finds room
module _ {A : Type 0} {w : ℕ} {f : A → List ℕ} {b₀ b : Blocks w} (g : ℕ → List A) (i : ℕ) {q : Option (Unit {0})} (v : Wrote f (each g (up_to i)) b₀ q b) where
  -- all has found room, and a call writes what g brings of row i
  pub front_then : is_some q ≡ true → {p : Option (Unit {0})} {b' : Blocks w} → Wrote f (g i) b p b' → {z : Option (Unit {0})} → p ≡ z
      → Wrote f (each g (up_to (i + 1))) b₀ z b'
  front_then h u e = rw (← e) (wrote_as (wrote_then v (some-is q h) u) (each-last g i))

  -- something has found none
  pub front_full : is_some q ≡ false → Wrote f (each g (up_to (i + 1))) b₀ q b
  front_full h = wrote_as (wrote_full v (none-is q h) (none-is q h) (g i)) (each-last g i)

  -- nor then does what g brings of more rows
  pub front_whole : is_some q ≡ false → (n : ℕ) → i ≤ n → Wrote f (each g (up_to n)) b₀ q b
  front_whole h n l = wrote_as (wrote_full v (none-is q h) (none-is q h) (each g (span i (n - i)))) (each-parts g i n l)

  -- no row is left
  pub front_end : (n : ℕ) → n ≡ i → Wrote f (each g (up_to n)) b₀ q b
  front_end n e = rw e v

-- row i is the first whose rows find no room
pub ends_rows : {same : Comparison} {k : ℕ} {m : Tables} {b₀ b b' : Blocks row_numbers} {i : ℕ} → i < x_count m
    → Wrote (traced_block m) (each (rows_at same m k) (up_to i)) b₀ (Some tt) b → Wrote (traced_block m) (each (rows_at same m k) (up_to (i + 1))) b₀ None b'
    → EndsRows same k m b₀.numbers.now b₀.count i
ends_rows h v u = let c = counts v.written in record { is_row = h; before = omega (arith, c.0, c.1); over = overs u.written }
