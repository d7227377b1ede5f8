-- The loop that strips a pattern's text, and the comparison of that with the fixed bytes. Assumes nothing.
use mathlib.Core.Bool.{Bool, false}
use mathlib.Core.Path.{◌≡◌, sym, ap, ◌∙◌}
use mathlib.Core.List.{List}
use Prim.Native.Nat.{ℕ, ◌+◌, ◌≤◌}
use lib.ListN.{length, drop}
use lib.Seq.{sets}
use Rattle.as5506.specs.Lists.{keep, same_bytes, zeros, bytes_of}
use Rattle.as5506.specs.Names.{folded, same_folded, pattern_byte, is_one_to_one}
use Rattle.lent.proofs.Sets.{sets-whole}
use Rattle.name.proofs.Compare.{lengths_differ, folded-length}

-- ---- strip: what the text keeps from place i on is still to be written at place `count`

pub record Stripping (text out₀ out : List ℕ) (count i : ℕ) : Type 0 where
  pub within : i ≤ length text
  pub below : count ≤ i
  pub size : length out ≡ length out₀
  pub number : count + length (keep pattern_byte (drop i text)) ≡ length (keep pattern_byte text)
  pub left : sets out count (keep pattern_byte (drop i text)) ≡ sets out₀ 0 (keep pattern_byte text)

-- ---- the stripped text and the fixed bytes

module _ (text : List ℕ) (count : ℕ) (c : count ≡ length (keep pattern_byte text)) where
  -- another number of bytes than ten
  pub pattern_short : (count ≡ 10 → ⊥) → false ≡ is_one_to_one text
  unfolding is_one_to_one
  pattern_short n =
      lengths_differ (folded (keep pattern_byte text)) (bytes_of "one_to_one") (λ e. n (c ∙ sym (folded-length (keep pattern_byte text)) ∙ e))

  -- ten bytes: the array holds just them
  pub pattern_ten :
      (out : List ℕ) (z : Bool) → count ≡ 10 → out ≡ sets (zeros 10) 0 (keep pattern_byte text)
      → z ≡ same_folded out (bytes_of "one_to_one") → z ≡ is_one_to_one text
  unfolding is_one_to_one same_folded folded
  pattern_ten out z t e f =
      f
      ∙ ap (λ (l : List ℕ). same_bytes (folded l) (folded (bytes_of "one_to_one"))) (e ∙ sets-whole (keep pattern_byte text) (zeros 10) (sym c ∙ t))
