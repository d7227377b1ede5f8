-- Names joined by dots, as they are put: what is left of a loop over them, and how long they are together. Assumes nothing.
use mathlib.Core.Path.{◌≡◌, refl, sym, ap, subst, ◌∙◌}
use mathlib.Core.List.{List, [], ◌∷◌, ◌++◌}
use Prim.Native.Nat.{ℕ, suc, ◌+◌, ◌-◌, ◌≤◌, ◌<◌}
use native.Mathlib.Nat.{add-zero}
use native.Mathlib.Numerals.{add-one}
use native.Mathlib.Decide.{dec_le}
use native.Mathlib.Omega.{arith}
use lib.ListN.{length, length-append, drop, get_or, drop_of_length-le}
use lib.Seq.{sets, drop-cons}
use Rattle.std.specs.Prelude.{Option, Some, None}
use Rattle.std.proofs.lemmas.Option.{none-some, same_Some}
use Rattle.as5506.specs.Lists.{each}
use Rattle.as5506.specs.Tables.{Tables, name_of}
use Rattle.as5506.proofs.Laws.{each_append}
use Rattle.lent.specs.Append.{Filled, filled, append, append_all, together}
use Rattle.lent.proofs.Pieces.{append_fits, append_full, all_append, all_past}
use Rattle.group_names.specs.Pairs.{ShortNames}
use Rattle.group_names.specs.Pieces.{dot_pieces, joined_pieces, length_by}
use Rattle.group_names.proofs.Names.{joined-short}

-- a dot and a name
pub dotted_is : (m : Tables) (k : ℕ) (o o₁ o₂ : Filled ℕ) → o₂ ≡ append (name_of m k) o₁ → o₁ ≡ append (46 ∷ []) o → o₂ ≡ append_all (dot_pieces m k) o
unfolding append_all
dotted_is m k o o₁ o₂ e f = e ∙ ap (append (name_of m k)) f

-- ---- the loop

module _ (m : Tables) (ks : List ℕ) where
  -- the names js behind a dot each, behind what an output holds
  abbrev with_dots : List ℕ → Filled ℕ → Filled ℕ
  with_dots js o = append_all (each (dot_pieces m) js) o

  -- of the names ks, behind `start`, those from place k on are still to be put behind o
  pub record Joining (start o : Filled ℕ) (k : ℕ) : Type 0 where
    pub left : with_dots (drop k ks) o ≡ with_dots ks start

  pub joining_turn : (start o o' : Filled ℕ) (k : ℕ) → o' ≡ append_all (dot_pieces m (get_or ks k 0)) o → Joining start o k → k < length ks → Joining start o' (k + 1)
  joining_turn start o o' k e j h =
      record {
        left = ap (λ (i : ℕ). with_dots (drop i ks) o') (add-one k)
            ∙ ap (with_dots (drop (suc k) ks)) e
            ∙ sym (all_append (dot_pieces m (get_or ks k 0)) (each (dot_pieces m) (drop (suc k) ks)) o)
            ∙ ap (λ (l : List ℕ). with_dots l o) (sym (drop-cons ks k 0 h))
            ∙ j.left;
      }

  -- the first name before the loop, the last one behind it
  pub joining_end :
      (first last : ℕ) (o₀ start o z : Filled ℕ) (k : ℕ) → z ≡ append_all (dot_pieces m last) o → Joining start o k → length ks ≤ k
      → start ≡ append (name_of m first) o₀ → z ≡ append_all (joined_pieces m first (ks ++ (last ∷ []))) o₀
  unfolding joined_pieces append_all
  joining_end first last o₀ start o z k e j h f =
      let all : o ≡ with_dots ks start = ap (λ (l : List ℕ). with_dots l o) (sym (drop_of_length-le ks h)) ∙ j.left in
      e ∙ ap (append_all (dot_pieces m last)) all
      ∙ sym (all_append (each (dot_pieces m) ks) (dot_pieces m last) start)
      ∙ ap (λ (l : List (List ℕ)). append_all l start) (sym (each_append (dot_pieces m) ks (last ∷ [])))
      ∙ ap (with_dots (ks ++ (last ∷ []))) f

-- ---- what is told of pieces

-- behind an output that is full they change nothing
pub past_is : (ps : List (List ℕ)) (o : Filled ℕ) → o.used ≡ None → o ≡ append_all ps o
past_is ps o e = subst (λ (u : Option ℕ). filled o.holds u ≡ append_all ps (filled o.holds u)) (sym e) (sym (all_past ps o.holds))

-- one found no room
pub told_none : (u z : Option ℕ) (ps : List (List ℕ)) → z ≡ None → u ≡ None → z ≡ length_by u ps
unfolding length_by
told_none u z ps e f = rw (e, f) refl

pub full_told : (u : Option ℕ) (ps : List (List ℕ)) → None ≡ length_by u ps → u ≡ None
unfolding length_by
full_told None ps e = refl
full_told (Some k) ps e = absurd (none-some (length (together ps)) e)

-- all found room: how much is used is told before them and behind them
pub all_used : (ps : List (List ℕ)) (l : List ℕ) (k e : ℕ) → (append_all ps (filled l (Some k))).used ≡ Some e → e ≡ k + length (together ps)
unfolding append_all
all_used [] l k e h = sym (same_Some _ _ h) ∙ sym (add-zero k)
all_used (p ∷ ps) l k e h = go (dec_le (k + length p) (length l)) (all_used ps (sets l k p) (k + length p) e)
  where
    go : Dec (k + length p ≤ length l) → ((append_all ps (filled (sets l k p) (Some (k + length p)))).used ≡ Some e → e ≡ k + length p + length (together ps))
        → e ≡ k + length (p ++ together ps)
    go (yes f) rest =
        let all = rest (subst (λ (o : Filled ℕ). (append_all ps o).used ≡ Some e) (append_fits p l k f) h) in
        omega (arith, all, length-append p (together ps))
    go (no f) rest =
        let full : (append_all ps (append p (filled l (Some k)))).used ≡ None =
        ap (λ (o : Filled ℕ). (append_all ps o).used) (append_full p l k (omega (arith, f))) ∙ ap (λ (o : Filled ℕ). o.used) (all_past ps l) in
        absurd (none-some e (sym full ∙ h))

module _ (m : Tables) (first : ℕ) (ks : List ℕ) (o z : Filled ℕ) (e : z ≡ append_all (joined_pieces m first ks) o) (k n : ℕ)
    (b : Some k ≡ o.used) (f : Some n ≡ z.used) where
  joined_used : n ≡ k + length (together (joined_pieces m first ks))
  joined_used =
      all_used (joined_pieces m first ks) o.holds k n
      (subst (λ (u : Option ℕ). (append_all (joined_pieces m first ks) (filled o.holds u)).used ≡ Some n) (sym b) (sym (f ∙ ap (λ (x : Filled ℕ). x.used) e)))

  pub joined_from : k ≤ n
  joined_from = omega (arith, joined_used)

  -- at most twelve names of 63 bytes, and the dots between them
  pub joined_few : ShortNames m → length ks ≤ 11 → n - k ≤ 767
  joined_few h l = omega (arith, joined_used, joined-short m h first ks, l)

  pub joined_told : ◌≡◌ {A = Option ℕ} (Some (n - k)) (length_by z.used (joined_pieces m first ks))
  unfolding length_by
  joined_told = rw (← f) (ap (λ (i : ℕ). Some i) (omega (arith, joined_used)))
