-- A loop that prints the entries of a list, one behind the other, for callers too: what each turn says. Assumes nothing.
use mathlib.Core.Path.{◌≡◌, refl, ap, subst, ◌∙◌}
use mathlib.Core.List.{List}
use Prim.Native.Nat.{ℕ, ◌+◌, ◌≤◌, ◌<◌}
use lib.ListN.{length, get_or, drop, drop_of_length-le}
use Rattle.as5506.specs.Lists.{each}
use Rattle.lent.specs.Append.{append_all, together}
use Rattle.output.specs.Put.{Put, output_of}
use Rattle.output.specs.declared.Output.{Output}
use Rattle.output.proofs.Put.{Printing, printing_start, printing_next, printing_end}

-- f prints an entry, d is what stands past the end
module _ {A : Type 0} (f : A → List ℕ) (d : A) (xs : List A) where
  -- those before place i are printed into an output that was o₀
  unfoldable pub PrintingEach : (o₀ o : Output) → ℕ → Type 0
  PrintingEach o₀ o i = Printing (each f xs) o₀ o (each f (drop i xs))

  pub each_start : (o : Output) → PrintingEach o o 0
  unfolding PrintingEach
  each_start o = printing_start refl

  module _ (o₀ o : Output) (i : ℕ) (p : PrintingEach o₀ o i) where
    -- the one at place i is printed, in pieces ps
    pub each_turn : (o₁ : Output) (ps : List (List ℕ)) (t : List ℕ) → i < length xs → o₁.bytes.ghost_name ≡ o.bytes.ghost_name → together ps ≡ t → t ≡ f (get_or xs i d)
        → output_of o₁ ≡ append_all ps (output_of o) → PrintingEach o₀ o₁ (i + 1)
    unfolding PrintingEach
    each_turn o₁ ps t h a b e c = printing_next f xs i d p h (record { same = a; pieces = ps; text = b ∙ e; holds = c })

    pub each_end : (n : ℕ) → n ≡ length xs → n ≤ i → Put (each f xs) o₀ o
    unfolding PrintingEach
    each_end n e h = printing_end p (ap (each f) (drop_of_length-le xs (subst (λ (n : ℕ). n ≤ i) e h)))

pub ruleset printing_each = (each_start, each_turn, each_end)
