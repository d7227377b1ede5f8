-- Laws of `same_bytes` and `same_folded`: they decide whether two lists are equal, as they are or folded. Assumes nothing.
use mathlib.Core.Bool.{Bool, true, false}
use mathlib.Core.Logic.{inl, inr}
use mathlib.Core.Path.{◌≡◌, refl, sym, ap, ap₂, ◌∙◌}
use mathlib.Core.List.{List, [], ◌∷◌, map}
use Prim.Native.Nat.{ℕ, ◌+◌, ◌-◌, ◌<◌, ◌≤◌}
use native.Mathlib.Nat.{not-suc-le-zero, eq-or-lt_of_le}
use borrow.Author.Tests.{ltb-true, ltb-false, eqb-true, eqb-false}
use native.Mathlib.Omega.{arith}
use lib.Dec.{eqb, ltb}
use lib.ListN.{length, get_or, length-map, get_or-map}
use Rattle.std.specs.Bool.{Decides, one_answer}
use Rattle.std.specs.Char.{to_ascii_lowercase}
use Rattle.std.specs.Cmp.Lexicographic.{pointwise, bytes_decides}
use Rattle.std.proofs.lemmas.Bool.Decides.{nat_tests}
use Rattle.std.proofs.lemmas.List.{ext_get_or}
use Rattle.std.proofs.lemmas.Slice.Eq.{compares_Decides}
use Rattle.as5506.specs.Lists.{same_bytes}
use Rattle.as5506.specs.Tables.{Tables, name_of}
use Rattle.as5506.specs.Names.{fold_byte, folded, key, same_folded}

pub Decides-same_bytes : (a b : List ℕ) → Decides (same_bytes a b) (a ≡ b)
Decides-same_bytes = compares_Decides same_bytes (record { empty = refl; shorter = λ y ys. refl; longer = λ x xs. refl; heads = λ x y xs ys. refl })

pub Decides-same_folded : (a b : List ℕ) → Decides (same_folded a b) (folded a ≡ folded b)
unfolding same_folded
Decides-same_folded a b = Decides-same_bytes (folded a) (folded b)

fails : {P : Type 0} (z : Bool) → Decides z P → (P → ⊥) → false ≡ z
fails true d n = absurd (n (d.0 refl))
fails false d n = refl

-- ---- lists that are equal

pub same_equal : (a b : List ℕ) → a ≡ b → true ≡ same_bytes a b
same_equal a b e = sym ((Decides-same_bytes a b).1 e)

pub folded_equal : (a b : List ℕ) → a ≡ b → true ≡ same_folded a b
folded_equal a b e = sym ((Decides-same_folded a b).1 (ap folded e))

-- ---- lists of different lengths, or with different last entries, differ

abbrev last : List ℕ → ℕ
last a = get_or a (length a - 1) 0

pub lengths_differ : (a b : List ℕ) → (length a ≡ length b → ⊥) → false ≡ same_bytes a b
lengths_differ a b n = fails _ (Decides-same_bytes a b) (λ e. n (ap length e))

pub lasts_differ : (a b : List ℕ) → (last a ≡ last b → ⊥) → false ≡ same_bytes a b
lasts_differ a b n = fails _ (Decides-same_bytes a b) (λ e. n (ap last e))

pub folded-length : (s : List ℕ) → length (folded s) ≡ length s
unfolding folded
folded-length s = length-map s fold_byte

pub folded_lengths_differ : (a b : List ℕ) → (length a ≡ length b → ⊥) → false ≡ same_folded a b
folded_lengths_differ a b n = fails _ (Decides-same_folded a b) (λ e. n (sym (folded-length a) ∙ ap length e ∙ folded-length b))

last-folded : (s : List ℕ) → last (folded s) ≡ fold_byte (last s)
unfolding folded
last-folded s = ap (λ (n : ℕ). get_or (map fold_byte s) (n - 1) 0) (length-map s fold_byte) ∙ get_or-map fold_byte s (length s - 1) 0

pub folded_lasts_differ : (a b : List ℕ) → (fold_byte (last a) ≡ fold_byte (last b) → ⊥) → false ≡ same_folded a b
folded_lasts_differ a b n = fails _ (Decides-same_folded a b) (λ e. n (sym (last-folded a) ∙ ap last e ∙ last-folded b))

-- ---- folded, from both ends to the middle

folded-at : (s : List ℕ) (i : ℕ) → get_or (folded s) i 0 ≡ fold_byte (get_or s i 0)
unfolding folded
folded-at s i = get_or-map fold_byte s i 0

module _ (s t : List ℕ) where
  -- the entries at a place are equal folded
  abbrev pub SameAt : ℕ → Type 0
  SameAt i = fold_byte (get_or s i 0) ≡ fold_byte (get_or t i 0)

  pub same_at : (i : ℕ) (z : Bool) → z ≡ eqb (fold_byte (get_or s i 0)) (fold_byte (get_or t i 0)) → z ≡ true → SameAt i
  same_at i z e w = eqb-true _ _ (sym e ∙ w)

  -- so are those of the first i places, and of the last i
  pub record Met (i : ℕ) : Type 0 where
    pub fronts : (j : ℕ) → j < i → SameAt j
    pub backs : (j : ℕ) → j < i → SameAt (length s - 1 - j)

  pub met-start : Met 0
  met-start = record { fronts = λ j h. absurd (not-suc-le-zero h); backs = λ j h. absurd (not-suc-le-zero h) }

  pub met-turn : (i : ℕ) → Met i → SameAt (length s - 1 - i) → SameAt i → Met (i + 1)
  met-turn i h b f = record { fronts = λ j k. or_last (λ n. SameAt n) j k h.fronts f; backs = λ j k. or_last (λ n. SameAt (length s - 1 - n)) j k h.backs b }
    where
      or_last : (P : ℕ → Type 0) (j : ℕ) → j < i + 1 → ((k : ℕ) → k < i → P k) → P i → P j
      or_last P j k before at = elim (eq-or-lt_of_le {n = j} {m = i} (omega arith)) [ inl e ↦ rw e at | inr l ↦ before j l ]

  pub differ_at : (i : ℕ) (z : Bool) → z ≡ eqb (fold_byte (get_or s i 0)) (fold_byte (get_or t i 0)) → z ≡ false → false ≡ same_folded s t
  differ_at i z e w = fails _ (Decides-same_folded s t) (λ f. eqb-false _ _ (sym e ∙ w) (sym (folded-at s i) ∙ ap (λ (l : List ℕ). get_or l i 0) f ∙ folded-at t i))

  -- once the places of both meet, all are
  pub met-end : (i : ℕ) → length s ≡ length t → length s ≤ i + i → Met i → true ≡ same_folded s t
  met-end i e l h = sym ((Decides-same_folded s t).1 (ext_get_or 0 _ _ (folded-length s ∙ e ∙ sym (folded-length t)) all))
    where
      at : (j : ℕ) → j < length s → (z : Bool) → ltb j i ≡ z → SameAt j
      at j k true w = h.fronts j (ltb-true j i w)
      at j k false w =
          let w : i ≤ j = ltb-false j i w in
          let back : length s - 1 - (length s - 1 - j) ≡ j = omega arith in
          rw (← back) (h.backs (length s - 1 - j) (omega arith))

      all : (j : ℕ) → j < length (folded s) → get_or (folded s) j 0 ≡ get_or (folded t) j 0
      all j k = folded-at s j ∙ at j (rw (← folded-length s) k) (ltb j i) refl ∙ sym (folded-at t j)

-- ---- what the library's tests say

pub by_slices : (a b : List ℕ) (z : Bool) → z ≡ pointwise eqb a b → z ≡ same_bytes a b
by_slices a b z e = e ∙ one_answer _ _ (bytes_decides a b) (Decides-same_bytes a b)

lower-fold : (b : ℕ) → to_ascii_lowercase b ≡ fold_byte b
lower-fold b = grind (arith, nat_tests)

lowered : (s : List ℕ) → map to_ascii_lowercase s ≡ folded s
unfolding folded
lowered [] = refl
lowered (b ∷ s) = ap₂ ◌∷◌ (lower-fold b) (lowered s)

module _ (a b : List ℕ) where
  abbrev lower : List ℕ → List ℕ
  lower = map to_ascii_lowercase

  pub by_lowercase : (z : Bool) → (z ≡ true → lower a ≡ lower b) → (lower a ≡ lower b → z ≡ true) → z ≡ same_folded a b
  by_lowercase z f g = one_answer z _ (λ e. sym (lowered a) ∙ f e ∙ lowered b, λ e. g (lowered a ∙ e ∙ sym (lowered b))) (Decides-same_folded a b)

-- ---- folded

-- the definition compares keys, which are folded already
pub keys-folded : (m : Tables) (j k : ℕ) → same_folded (name_of m j) (name_of m k) ≡ same_bytes (key m j) (key m k)
unfolding same_folded key
keys-folded m j k = refl
