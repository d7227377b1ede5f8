-- Laws of the search for a partner: its loop, that its answer is a kept feature, and its memory. Assumes nothing.
use mathlib.Core.Bool.{Bool}
use mathlib.Core.Path.{◌≡◌, refl, sym, ap, ◌∙◌}
use mathlib.Core.List.{List}
use Prim.Native.Nat.{ℕ, zero, suc, ◌+◌, ◌*◌, ◌≤◌, ◌<◌}
use native.Mathlib.Omega.{arith}
use Rattle.std.specs.Prelude.{Option, Some, None, IfSome}
use Rattle.std.proofs.lemmas.Option.{none-some, same_Some}
use lib.ListN.{length, get_or, set}
use lib.Seq.{set-get_or}
use Rattle.as5506.specs.Lists.{up_to, keep, same_bytes}
use Rattle.as5506.specs.Tables.{Tables, name_of}
use Rattle.as5506.specs.Names.{key, same_folded}
use Rattle.as5506.proofs.Laws.{all_first, all_keep, up_to-below}
use Rattle.as5506.specs.Layout.{feature_numbers}
use Rattle.name.proofs.Compare.{keys-folded}
use Rattle.sink.specs.Take.{kept_count, kept_name, partner_of, code_of, Remembered, answer_of, Memory}

-- ---- the loop: whether a kept feature passes is what comparing the names says

abbrev pub test : Tables → List ℕ → ℕ → ℕ → Bool
test m kept name i = same_bytes (key m name) (key m (kept_name kept i))

pub tested : (m : Tables) (kept : List ℕ) (name i : ℕ) (r : Bool) → r ≡ same_folded (name_of m name) (name_of m (kept_name kept i)) → test m kept name i ≡ r
tested m kept name i r e = sym (e ∙ keys-folded m name (kept_name kept i))

-- ---- the partner is one of the features that were kept

pub partner_below : (m : Tables) (kept : List ℕ) (name i : ℕ) → Some i ≡ partner_of m kept name → i < kept_count kept
unfolding partner_of
partner_below m kept name i e =
    let n : ℕ = kept_count kept in
    all_first (λ j. j < n) (keep (test m kept name) (up_to n)) (all_keep (λ j. j < n) (λ j. j < n) (test m kept name) (λ j t h. h) (up_to n) (up_to-below n)) i e

-- what the calls of a match ask for
pub partner_few : (m : Tables) (kept : List ℕ) (name : ℕ) (z : Option ℕ) → z ≡ partner_of m kept name → kept_count kept ≤ 4096 → IfSome z (λ i. i < 4096)
partner_few m kept name None e h = tt
partner_few m kept name (Some i) e h = omega (arith, partner_below m kept name i e, h)

pub partner_whole : (m : Tables) (kept : List ℕ) (name : ℕ) (z : Option ℕ) (i : ℕ) → z ≡ partner_of m kept name → z ≡ Some i
    → i * feature_numbers + feature_numbers ≤ length kept
partner_whole m kept name z i e t = omega (arith, partner_below m kept name i (sym t ∙ e))

-- ---- the memory

-- a number that it has keeps the answer
pub remembered : (v : ℕ) (a known : Option ℕ) → Remembered v a → answer_of v ≡ Some known → (known ≡ a) × (v ≡ code_of a)
remembered zero a known r e = absurd (none-some known e)
remembered (suc zero) None known r e = (sym (same_Some _ _ e), refl)
remembered (suc zero) (Some i) known r e = absurd (omega (arith, r))
remembered (suc (suc v)) None known r e = absurd (omega (arith, r))
remembered (suc (suc v)) (Some i) known r e = (sym (same_Some _ _ e) ∙ ap Some (omega (arith, r)), r)

-- what it has for a name is the search's answer
module _ (m : Tables) (kept memo : List ℕ) (name v : ℕ) (z : Option (Option ℕ)) (known : Option ℕ) (all : Memory m kept memo) (e : v ≡ get_or memo name 0)
    (a : z ≡ answer_of v) (k : z ≡ Some known) where
  both : (known ≡ partner_of m kept name) × (get_or memo name 0 ≡ code_of (partner_of m kept name))
  unfolding Memory
  both = remembered (get_or memo name 0) (partner_of m kept name) known (all name) (ap answer_of (sym e) ∙ sym a ∙ k)

  pub recalled : known ≡ partner_of m kept name
  recalled = both.0

  pub recalled_memo : memo ≡ set memo name (code_of (partner_of m kept name))
  recalled_memo = sym (set-get_or memo name 0) ∙ ap (set memo name) both.1
