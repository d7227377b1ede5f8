-- A search of the places 0 to n for the first that passes a test, for callers too: what each turn of the loop says. And whether a list has a number.
-- Assumes nothing.
use mathlib.Core.Bool.{Bool, true, false, ◌||◌}
use mathlib.Core.Path.{◌≡◌, refl, sym, ap, ap₂, ◌∙◌}
use mathlib.Core.List.{List, [], ◌∷◌}
use Prim.Native.Nat.{ℕ, ◌+◌, ◌-◌, ◌≤◌, ◌<◌}
use native.Mathlib.Nat.{sub-zero}
use native.Mathlib.Omega.{arith}
use lib.Dec.{eqb}
use Rattle.std.specs.Prelude.{Some, None}
use Rattle.std.specs.List.{list_any}
use Rattle.std.proofs.lemmas.Bool.Decides.{nat_tests}
use Rattle.as5506.specs.Lists.{span, up_to, keep, first_of, has}
use Rattle.as5506.proofs.Scans.{keep-hit, keep-miss, keep-done}

module _ (p : ℕ → Bool) (n : ℕ) where
  -- the places from i on are left, and the first that passes is among them
  unfoldable pub Searching : ℕ → Type 0
  Searching i = first_of (keep p (up_to n)) ≡ first_of (keep p (span i (n - i)))

  pub search_start : Searching 0
  unfolding Searching
  search_start = rw sub-zero

  module _ (i : ℕ) (s : Searching i) where
    pub search_hit : i < n → p i ≡ true → Some i ≡ first_of (keep p (up_to n))
    unfolding Searching
    search_hit h t = sym (s ∙ ap first_of (keep-hit p i n h t))

    pub search_miss : i < n → p i ≡ false → Searching (i + 1)
    unfolding Searching
    search_miss h t = s ∙ ap first_of (keep-miss p i n h t)

    pub search_end : n ≤ i → None ≡ first_of (keep p (up_to n))
    unfolding Searching
    search_end h = sym (s ∙ ap first_of (keep-done p i n h))

-- ---- a number among others, as the library asks for it

eqb-swap : (a b : ℕ) → eqb a b ≡ eqb b a
eqb-swap a b = grind (arith, nat_tests)

pub any-has : (b : ℕ) (s : List ℕ) → list_any (λ x. eqb x b) s ≡ has b s
any-has b [] = refl
any-has b (x ∷ s) = ap₂ ◌||◌ (eqb-swap x b) (any-has b s)
