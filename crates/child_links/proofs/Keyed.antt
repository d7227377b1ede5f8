-- Laws of keys: how they are made, and that names that are equal folded have the same. Assumes nothing.
use mathlib.Core.Bool.{Bool, true, false, ◌&&◌, cond}
use mathlib.Core.Path.{◌≡◌, refl, sym, ap, ◌∙◌, subst}
use mathlib.Core.List.{List, [], ◌∷◌, map}
use native.Mathlib.Numerals.{add-one}
use lib.Seq.{get_or-set_same, get_or-set_other}
use Rattle.std.proofs.Math.Seq.{drop-cons}
use borrow.Author.Tests.{eqb-true, eqb-false, ne_eqb}
use Prim.Native.Nat.{ℕ, suc, ◌+◌, ◌*◌, ◌%◌, ◌≤◌, ◌<◌}
use native.Mathlib.Omega.{arith}
use lib.Dec.{T, eqb, leb, eqb→eq, leb→le}
use lib.ListN.{length, get_or, set, drop, length-set, drop_of_length-le}
use Rattle.as5506.specs.Lists.{same_bytes}
use Rattle.as5506.specs.Tables.{Tables, c_count}
use Rattle.as5506.specs.Names.{fold_byte, folded, same_folded, bracket, base_name}
use Rattle.as5506.proofs.Laws.{and_left, and_right, and_both}
use Rattle.child_links.specs.Keys.{key_from, key_of, component_key, KeyedBelow}

-- behind bytes of one key
keys-from : (k : ℕ) (s t : List ℕ) → T (same_bytes (map fold_byte s) (map fold_byte t)) → key_from k s ≡ key_from k t
unfolding key_from
keys-from k [] [] h = refl
keys-from k [] (b ∷ t) h = absurd h
keys-from k (a ∷ s) [] h = absurd h
keys-from k (a ∷ s) (b ∷ t) h =
    let first = eqb→eq (fold_byte a) (fold_byte b) (and_left (eqb (fold_byte a) (fold_byte b)) (same_bytes (map fold_byte s) (map fold_byte t)) h) in
    ap (λ (c : ℕ). key_from ((k * 31 + c) % 65536) s) first
    ∙ keys-from ((k * 31 + fold_byte b) % 65536) s t (and_right (eqb (fold_byte a) (fold_byte b)) (same_bytes (map fold_byte s) (map fold_byte t)) h)

-- NAMES THAT ARE EQUAL FOLDED HAVE ONE KEY
pub same-keys : (s t : List ℕ) → T (same_folded s t) → key_of s ≡ key_of t
unfolding same_folded folded
same-keys s t h = keys-from 0 s t h

-- a bracket is no letter, and no letter folds to one
bracket-kept : (c : ℕ) → eqb (fold_byte c) bracket ≡ eqb c bracket
bracket-kept c = go (leb 65 c && leb c 90) refl
  where
    go : (b : Bool) → (leb 65 c && leb c 90) ≡ b → eqb (cond b (c + 32) c) bracket ≡ eqb c bracket
    go false e = refl
    go true e =
        let t : T (leb 65 c && leb c 90) = subst T (sym e) tt in
        let low = leb→le 65 c (and_left (leb 65 c) (leb c 90) t) in
        let high = leb→le c 90 (and_right (leb 65 c) (leb c 90) t) in
        ne_eqb (c + 32) bracket (λ z. omega (arith, z, low)) ∙ sym (ne_eqb c bracket (λ z. omega (arith, z, high)))

base-folded : (s t : List ℕ) → T (same_bytes (map fold_byte s) (map fold_byte t)) → T (same_bytes (map fold_byte (base_name s)) (map fold_byte (base_name t)))
unfolding base_name
base-folded [] [] h = tt
base-folded [] (b ∷ t) h = absurd h
base-folded (a ∷ s) [] h = absurd h
base-folded (a ∷ s) (b ∷ t) h =
    go (eqb a bracket) (eqb b bracket) (sym (bracket-kept a) ∙ ap (λ (c : ℕ). eqb c bracket) (eqb→eq (fold_byte a) (fold_byte b) first) ∙ bracket-kept b)
    (base-folded s t (and_right (eqb (fold_byte a) (fold_byte b)) (same_bytes (map fold_byte s) (map fold_byte t)) h))
  where
    first : T (eqb (fold_byte a) (fold_byte b))
    first = and_left (eqb (fold_byte a) (fold_byte b)) (same_bytes (map fold_byte s) (map fold_byte t)) h

    go : (p q : Bool) → p ≡ q → T (same_bytes (map fold_byte (base_name s)) (map fold_byte (base_name t)))
        → T (same_bytes (map fold_byte (cond p [] (a ∷ base_name s))) (map fold_byte (cond q [] (b ∷ base_name t))))
    go true true e more = tt
    go true false e more = absurd (subst T e tt)
    go false true e more = absurd (subst T (sym e) tt)
    go false false e more = and_both (eqb (fold_byte a) (fold_byte b)) (same_bytes (map fold_byte (base_name s)) (map fold_byte (base_name t))) first more

-- and one up to a bracket
pub same-base-keys : (s t : List ℕ) → T (same_folded s t) → key_of (base_name s) ≡ key_of (base_name t)
unfolding same_folded folded
same-base-keys s t h = keys-from 0 (base_name s) (base_name t) (base-folded s t h)

-- ---- a key is made byte by byte

module _ (s : List ℕ) where
  -- the key of the bytes before place i is k
  pub record Making (k i : ℕ) : Type 0 where
    pub below : k < 65536
    pub left : key_from k (drop i s) ≡ key_of s

  pub making_turn : {k i : ℕ} → Making k i → i < length s → {k' : ℕ} → k' ≡ (k * 31 + fold_byte (get_or s i 0)) % 65536 → Making k' (i + 1)
  unfolding key_from
  making_turn {k} {i} w h e =
      record {
        below = omega (arith, e);
        left =
            rw (add-one i)
            (ap (λ (c : ℕ). key_from c (drop (suc i) s)) e ∙ sym (ap (key_from k) (drop-cons s i 0 h)) ∙ w.left);
      }

  pub making_end : {k i : ℕ} → Making k i → length s ≤ i → k ≡ key_of s
  unfolding key_from
  making_end {k} {i} w h = sym (ap (key_from k) (drop_of_length-le s {i = i} h)) ∙ w.left

-- ---- the keys of components

module _ (m : Tables) where
  pub keyed_turn : {keys : List ℕ} {i k : ℕ} → KeyedBelow m keys i → i < c_count m → k ≡ component_key m i → KeyedBelow m (set keys i k) (i + 1)
  keyed_turn {keys} {i} {k} w h e =
      record {
        room = omega (arith, w.room, length-set keys i k);
        are = λ j l. go j l (eqb j i) refl;
      }
    where
      go : (j : ℕ) → j < i + 1 → (b : Bool) → eqb j i ≡ b → get_or (set keys i k) j 0 ≡ component_key m j
      go j l true f =
          let g : j ≡ i = eqb-true j i f in
          rw g (get_or-set_same keys i k 0 (omega (arith, h, w.room)) ∙ e)
      go j l false f =
          let g : j ≡ i → ⊥ = eqb-false j i f in
          get_or-set_other keys i j k 0 g ∙ w.are j (omega (arith, l, g))
