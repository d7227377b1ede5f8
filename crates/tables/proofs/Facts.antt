-- What acceptance says of tables: the record `Facts`, and `facts`, by which accepted tables have it. The record is the whole of it, field by field, so
-- that it can be read beside document 01; whoever needs a fact of accepted tables takes it from here and never looks into the checks. Assumes nothing.
use mathlib.Core.Bool.{Bool, true, false, not, ◌&&◌, ◌||◌, cond}
use mathlib.Core.Logic.{◌⊎◌, inl, inr}
use mathlib.Core.Path.{◌≡◌, refl, sym, subst}
use mathlib.Core.List.{List, [], ◌∷◌, ◌++◌}
use Prim.Native.Nat.{ℕ, ◌+◌, ◌%◌, ◌≤◌, ◌<◌}
use lib.ListN.{length}
use lib.Dec.{T, eqb, ltb, eqb→eq, ltb→lt, nltb→le}
use borrow.Author.Tests.{eq-eqb, ne_eqb}
use Rattle.as5506.specs.Lists.{is_nil, each}
use Rattle.as5506.specs.Tables.{Tables, missing, present, Letter, letter_n, letter_c, letter_f, letter_x, letter_p, letter_i, letter_t, letter_q, letter_u, letter_e, letter_r, letter_m, table, width, count, at, n_start, n_length, name_of, c_count, c_name, c_parent, c_package, c_type, c_pattern, c_place, f_name, f_owner, f_kind, Side, source, destination, x_count, x_name, x_owner, x_kind, x_sub, x_feat, Ref, p_name, i_package, i_name, t_package, t_name, t_private, q_package, q_type, q_impl, q_private, u_package, u_name, u_private, u_extends, u_inverse_of, e_holder_kind, e_holder, e_name, e_kind, e_direction, e_classifier, r_package, r_what, r_alias, r_original_package, r_original_name, m_name, m_owner}
use Rattle.as5506.specs.Columns.{order, Meaning, name, row_in, holder, below, anything, Column, needed, optional, long, field_cells, columns}
use Rattle.as5506.specs.Names.{good_name}
use Rattle.as5506.specs.Answers.{Refusal, refusal, row}
use Rattle.as5506.specs.Refusals.{row_faults, broken_rows, too_many_rows, bad_name, faults10, holder_letter, in_range, good_long, allows, allows_from, bad_row, faults6, faults7, bad_end, bad_ref, bad_rename, faults8, clashes, place_key, faults16, faults9, faults, accepted}
use Rattle.as5506.proofs.Laws.{All, and_left, and_right, not-not, nil-left, nil-right, nil-when, nil-each}
use Rattle.as5506.proofs.Whole.{Sound}
use Rattle.as5506.proofs.Accepted.{some-component, sound, no_row}
use Rattle.as5506.proofs.Keys.{Unique, keys-unique}
use Rattle.tables.specs.Ends.{bad_ends, bad_references, bad_classifier}
use Rattle.tables.specs.Keys.{key_p, key_t, key_q, key_u, key_r}
use Rattle.tables.proofs.Letters.{at-letter, few-rows}

-- v is below n, or missing
abbrev pub MissingOr : ℕ → ℕ → Type 0
MissingOr v n = (v ≡ missing) ⊎ (v < n)

-- a reference: its names are there, and without a type it has no package and no implementation
pub record GoodRef (m : Tables) (r : Ref) : Type 0 where
  pub its-package : MissingOr r.pkg (count m letter_n)
  pub its-type : MissingOr r.type (count m letter_n)
  pub its-implementation : MissingOr r.impl (count m letter_n)
  pub untyped : r.type ≡ missing → (r.pkg ≡ missing) × (r.impl ≡ missing)

-- ACCEPTED TABLES
pub record Facts (m : Tables) : Type 0 where
  -- 10: whole rows, at most 4,096 of them; names inside the byte table, of good bytes and length
  pub whole : (l : Letter) → length (table m l) % width l ≡ 0
  pub few : (l : Letter) → count m l ≤ 4096
  pub name-inside : (k : ℕ) → k < count m letter_n → n_start m.n k + n_length m.n k ≤ length m.bytes
  pub name-good : (k : ℕ) → k < count m letter_n → T (good_name (name_of m k))
  -- 6: C
  pub c-name : (i : ℕ) → i < c_count m → c_name m i < count m letter_n
  pub c-parent : (i : ℕ) → i < c_count m → MissingOr (c_parent m i) (c_count m)
  pub c-index : (i : ℕ) → i < c_count m → T (good_long (at m letter_c i 2) (at m letter_c i 3) (at m letter_c i 4))
  pub c-package : (i : ℕ) → i < c_count m → c_package m i < count m letter_n
  pub c-type : (i : ℕ) → i < c_count m → c_type m i < count m letter_n
  pub c-pattern : (i : ℕ) → i < c_count m → MissingOr (c_pattern m i) (count m letter_n)
  pub c-place : (i : ℕ) → i < c_count m → T (present (c_place m i))
  -- F
  pub f-name : (i : ℕ) → i < count m letter_f → f_name m i < count m letter_n
  pub f-owner : (i : ℕ) → i < count m letter_f → f_owner m i < c_count m
  pub f-kind : (i : ℕ) → i < count m letter_f → f_kind m i < 10
  -- X
  pub x-name : (i : ℕ) → i < x_count m → x_name m i < count m letter_n
  pub x-owner : (i : ℕ) → i < x_count m → x_owner m i < c_count m
  pub x-kind : (i : ℕ) → i < x_count m → x_kind m i < 5
  pub x-sub : (s : Side) (i : ℕ) → i < x_count m → MissingOr (x_sub m s i) (count m letter_n)
  pub x-feat : (s : Side) (i : ℕ) → i < x_count m → MissingOr (x_feat m s i) (count m letter_n)
  -- P and I
  pub p-name : (i : ℕ) → i < count m letter_p → p_name m i < count m letter_n
  pub i-package : (i : ℕ) → i < count m letter_i → i_package m i < count m letter_p
  pub i-name : (i : ℕ) → i < count m letter_i → i_name m i < count m letter_n
  -- T
  pub t-package : (i : ℕ) → i < count m letter_t → t_package m i < count m letter_p
  pub t_name_lem : (i : ℕ) → i < count m letter_t → t_name m i < count m letter_n
  pub t-private : (i : ℕ) → i < count m letter_t → t_private m i < 2
  -- Q
  pub q-package : (i : ℕ) → i < count m letter_q → q_package m i < count m letter_p
  pub q-type : (i : ℕ) → i < count m letter_q → q_type m i < count m letter_n
  pub q-impl : (i : ℕ) → i < count m letter_q → q_impl m i < count m letter_n
  pub q-private : (i : ℕ) → i < count m letter_q → q_private m i < 2
  -- U, with 8 for its references
  pub u-package : (i : ℕ) → i < count m letter_u → u_package m i < count m letter_p
  pub u-name : (i : ℕ) → i < count m letter_u → u_name m i < count m letter_n
  pub u-private : (i : ℕ) → i < count m letter_u → u_private m i < 2
  pub u-extends : (i : ℕ) → i < count m letter_u → GoodRef m (u_extends m i)
  pub u-inverse-of : (i : ℕ) → i < count m letter_u → GoodRef m (u_inverse_of m i)
  -- E, with 8 for its reference
  pub e-holder-kind : (i : ℕ) → i < count m letter_e → e_holder_kind m i < 2
  pub e-holder : (i : ℕ) → i < count m letter_e → e_holder m i < count m (holder_letter (e_holder_kind m i))
  pub e-name : (i : ℕ) → i < count m letter_e → e_name m i < count m letter_n
  pub e-kind : (i : ℕ) → i < count m letter_e → e_kind m i < 10
  pub e-direction : (i : ℕ) → i < count m letter_e → MissingOr (e_direction m i) 3
  pub e-classifier : (i : ℕ) → i < count m letter_e → GoodRef m (e_classifier m i)
  -- R
  pub r-package : (i : ℕ) → i < count m letter_r → r_package m i < count m letter_p
  pub r-what : (i : ℕ) → i < count m letter_r → r_what m i < 3
  pub r-alias : (i : ℕ) → i < count m letter_r → r_alias m i < count m letter_n
  pub r-original-package : (i : ℕ) → i < count m letter_r → r_original_package m i < count m letter_n
  pub r-original-name : (i : ℕ) → i < count m letter_r → MissingOr (r_original_name m i) (count m letter_n)
  -- M
  pub m-name : (i : ℕ) → i < count m letter_m → m_name m i < count m letter_n
  pub m-owner : (i : ℕ) → i < count m letter_m → m_owner m i < c_count m
  -- 7: component 0 is there, has no parent, and the others have smaller ones (the root and parents of `Sound`)
  pub component-0 : 0 < c_count m
  pub sound : Sound m
  -- 16: parent and place of different rows differ
  pub c-key : Unique (c_count m) (place_key m)
  -- 8: an end with a subcomponent has a feature; a package rename has no original name, the others have one
  pub x-end : (s : Side) (i : ℕ) → i < x_count m → T (present (x_sub m s i)) → T (present (x_feat m s i))
  pub r-package-rename : (i : ℕ) → i < count m letter_r → r_what m i ≡ 0 → r_original_name m i ≡ missing
  pub r-other-rename : (i : ℕ) → i < count m letter_r → (r_what m i ≡ 0 → ⊥) → T (present (r_original_name m i))
  -- 9: keys of different rows differ
  pub p-key : Unique (count m letter_p) (key_p m)
  pub t-key : Unique (count m letter_t) (key_t m)
  pub q-key : Unique (count m letter_q) (key_q m)
  pub u-key : Unique (count m letter_u) (key_u m)
  pub r-key : Unique (count m letter_r) (key_r m)

-- ---- tests that fail
nor-left : (a b : Bool) → T (not (a || b)) → T (not a)
nor-left true b t = t
nor-left false b t = tt

nor-right : (a b : Bool) → T (not (a || b)) → T (not b)
nor-right true b t = absurd t
nor-right false b t = t

nand : (a b : Bool) → T (not (a && b)) → T a → T (not b)
nand true b t u = t
nand false b t u = absurd u

absent : (v : ℕ) → T (not (present v)) → v ≡ missing
absent v t = eqb→eq v missing (not-not (eqb v missing) t)

-- ---- lists that are empty
-- lists joined as the definition joins them, from the left
abbrev joined : List Refusal → List (List Refusal) → List Refusal
joined xs [] = xs
joined xs (ys ∷ yss) = joined (xs ++ ys) yss

joined-nil : (xs : List Refusal) (yss : List (List Refusal)) → T (is_nil (joined xs yss)) → T (is_nil xs) × All (λ ys. T (is_nil ys)) yss
joined-nil xs [] t = (t, tt)
joined-nil xs (ys ∷ yss) t = let h = joined-nil (xs ++ ys) yss t in (nil-left xs ys h.0, (nil-right xs ys h.0, h.1))

-- ---- 6: what the columns of a row say
module _ (m : Tables) (i : ℕ) where
  abbrev Within : Meaning → ℕ → Type 0
  Within name v = v < count m letter_n
  Within (row_in l) v = v < count m l
  Within holder v = v < count m (holder_letter (e_holder_kind m i))
  Within (below b) v = v < b
  Within anything v = T (present v)

  within : (w : Meaning) (v : ℕ) → T (in_range m i w v) → Within w v
  within name v t = ltb→lt v (count m letter_n) t
  within (row_in l) v t = ltb→lt v (count m l) t
  within holder v t = ltb→lt v (count m (holder_letter (e_holder_kind m i))) t
  within (below b) v t = ltb→lt v b t
  within anything v t = t

  -- the column whose first number is number j
  abbrev Says : Letter → ℕ → Column → Type 0
  Says l j (needed b w) = Within w (at m l i j)
  Says l j (optional b w) = (at m l i j ≡ missing) ⊎ Within w (at m l i j)
  Says l j (long b) = T (good_long (at m l i j) (at m l i (j + 1)) (at m l i (j + 2)))

  says : (l : Letter) (j : ℕ) (c : Column) → T (allows m l i j c) → Says l j c
  says l j (needed b w) t = within w (at m l i j) t
  says l j (optional b w) t = go (present (at m l i j)) refl t
    where
      go : (there : Bool) → present (at m l i j) ≡ there → T (not there || in_range m i w (at m l i j)) → (at m l i j ≡ missing) ⊎ Within w (at m l i j)
      go true e u = inr (within w (at m l i j) u)
      go false e u = inl (absent (at m l i j) (subst (λ (there : Bool). T (not there)) (sym e) tt))
  says l j (long b) t = t

  abbrev SaysAll : Letter → ℕ → List Column → Type 0
  SaysAll l j [] = Unit {0}
  SaysAll l j (c ∷ cs) = Says l j c × SaysAll l (j + field_cells c) cs

  says_all : (l : Letter) (j : ℕ) (cs : List Column) → T (allows_from m l i j cs) → SaysAll l j cs
  unfolding allows_from
  says_all l j [] t = tt
  says_all l j (c ∷ cs) t =
      let rest = allows_from m l i (j + field_cells c) cs in
      (says l j c (and_left (allows m l i j c) rest t), says_all l (j + field_cells c) cs (and_right (allows m l i j c) rest t))

-- ---- 8
typed-or-bare : (r : Ref) → T (not (bad_ref r)) → r.type ≡ missing → (r.pkg ≡ missing) × (r.impl ≡ missing)
typed-or-bare r t e =
    let u = nand (not (present r.type)) (present r.pkg || present r.impl) t (subst (λ (v : ℕ). T (not (present v))) (sym e) tt) in
    (absent r.pkg (nor-left (present r.pkg) (present r.impl) u), absent r.impl (nor-right (present r.pkg) (present r.impl) u))

module _ (what original : ℕ) (t : T (not (cond (eqb what 0) (present original) (not (present original))))) where
  package-rename : what ≡ 0 → original ≡ missing
  package-rename e = absent original (subst (λ (b : Bool). T (not (cond b (present original) (not (present original))))) (eq-eqb what 0 e) t)

  other-rename : (what ≡ 0 → ⊥) → T (present original)
  other-rename e = not-not (present original) (subst (λ (b : Bool). T (not (cond b (present original) (not (present original))))) (ne_eqb what 0 e) t)

-- ---- accepted tables have the facts
module _ (m : Tables) (ok : T (accepted m)) where
  lists : T (is_nil (each (broken_rows m) order)) × All (λ ys. T (is_nil ys)) (each (too_many_rows m) order ∷ row_faults 10 m letter_n (bad_name m) ∷ faults6 m ∷ faults7 m ∷ faults16 m ∷ faults8 m ∷ faults9 m ∷ [])
  unfolding accepted faults faults10
  lists = joined-nil (each (broken_rows m) order) (each (too_many_rows m) order ∷ row_faults 10 m letter_n (bad_name m) ∷ faults6 m ∷ faults7 m ∷ faults16 m ∷ faults8 m ∷ faults9 m ∷ []) ok

  whole-rows : (l : Letter) → length (table m l) % width l ≡ 0
  unfolding broken_rows
  whole-rows l =
      let b = eqb (length (table m l) % width l) 0 in
      eqb→eq (length (table m l) % width l) 0 (not-not b (nil-when (not b) (refusal 10 (row l 0)) (at-letter (λ l. T (is_nil (broken_rows m l))) (nil-each (broken_rows m) order lists.0) l)))

  name-facts : (k : ℕ) → k < count m letter_n → (n_start m.n k + n_length m.n k ≤ length m.bytes) × T (good_name (name_of m k))
  unfolding bad_name
  name-facts k h =
      let past = ltb (length m.bytes) (n_start m.n k + n_length m.n k) in
      let t = no_row 10 m letter_n (bad_name m) lists.1.1.0 k h in
      (nltb→le (length m.bytes) (n_start m.n k + n_length m.n k) (nor-left past (not (good_name (name_of m k))) t), not-not (good_name (name_of m k)) (nor-right past (not (good_name (name_of m k))) t))

  row-facts : (l : Letter) (i : ℕ) → i < count m l → SaysAll m i l 0 (columns l)
  unfolding faults6 bad_row
  row-facts l i h =
      says_all m i l 0 (columns l) (not-not (allows_from m l i 0 (columns l)) (no_row 6 m l (bad_row m l) (at-letter (λ l. T (is_nil (row_faults 6 m l (bad_row m l)))) (nil-each (λ l. row_faults 6 m l (bad_row m l)) order lists.1.1.1.0) l) i h))

  eight : T (is_nil (row_faults 8 m letter_x (bad_ends m))) × All (λ ys. T (is_nil ys)) (row_faults 8 m letter_u (bad_references m) ∷ row_faults 8 m letter_e (bad_classifier m) ∷ row_faults 8 m letter_r (bad_rename m) ∷ [])
  unfolding faults8
  eight = joined-nil (row_faults 8 m letter_x (bad_ends m)) (row_faults 8 m letter_u (bad_references m) ∷ row_faults 8 m letter_e (bad_classifier m) ∷ row_faults 8 m letter_r (bad_rename m) ∷ []) lists.1.1.1.1.1.1.0

  end-good : (s : Side) (i : ℕ) → i < x_count m → T (not (bad_end m s i))
  end-good source i h = nor-left (bad_end m source i) (bad_end m destination i) (no_row 8 m letter_x (bad_ends m) eight.0 i h)
  end-good destination i h = nor-right (bad_end m source i) (bad_end m destination i) (no_row 8 m letter_x (bad_ends m) eight.0 i h)

  end-facts : (s : Side) (i : ℕ) → i < x_count m → T (present (x_sub m s i)) → T (present (x_feat m s i))
  end-facts s i h p = not-not (present (x_feat m s i)) (nand (present (x_sub m s i)) (not (present (x_feat m s i))) (end-good s i h) p)

  nine : T (is_nil (clashes 9 m letter_p (key_p m))) × All (λ ys. T (is_nil ys)) (clashes 9 m letter_t (key_t m) ∷ clashes 9 m letter_q (key_q m) ∷ clashes 9 m letter_u (key_u m) ∷ clashes 9 m letter_r (key_r m) ∷ [])
  unfolding faults9
  nine = joined-nil (clashes 9 m letter_p (key_p m)) (clashes 9 m letter_t (key_t m) ∷ clashes 9 m letter_q (key_q m) ∷ clashes 9 m letter_u (key_u m) ∷ clashes 9 m letter_r (key_r m) ∷ []) lists.1.1.1.1.1.1.1.0

  sixteen : T (is_nil (clashes 16 m letter_c (place_key m)))
  unfolding faults16
  sixteen = lists.1.1.1.1.1.0

  x-sub-facts : (s : Side) (i : ℕ) → i < x_count m → MissingOr (x_sub m s i) (count m letter_n) × MissingOr (x_feat m s i) (count m letter_n)
  x-sub-facts source i h = let r = row-facts letter_x i h in (r.1.1.1.0, r.1.1.1.1.0)
  x-sub-facts destination i h = let r = row-facts letter_x i h in (r.1.1.1.1.1.0, r.1.1.1.1.1.1.0)

  extends-facts : (i : ℕ) → i < count m letter_u → GoodRef m (u_extends m i)
  extends-facts i h =
      let r = row-facts letter_u i h in
      let t = no_row 8 m letter_u (bad_references m) eight.1.0 i h in
      record { its-package = r.1.1.1.0; its-type = r.1.1.1.1.0; its-implementation = r.1.1.1.1.1.0; untyped = typed-or-bare (u_extends m i) (nor-left (bad_ref (u_extends m i)) (bad_ref (u_inverse_of m i)) t) }

  inverse-facts : (i : ℕ) → i < count m letter_u → GoodRef m (u_inverse_of m i)
  inverse-facts i h =
      let r = row-facts letter_u i h in
      let t = no_row 8 m letter_u (bad_references m) eight.1.0 i h in
      record { its-package = r.1.1.1.1.1.1.0; its-type = r.1.1.1.1.1.1.1.0; its-implementation = r.1.1.1.1.1.1.1.1.0; untyped = typed-or-bare (u_inverse_of m i) (nor-right (bad_ref (u_extends m i)) (bad_ref (u_inverse_of m i)) t) }

  classifier-facts : (i : ℕ) → i < count m letter_e → GoodRef m (e_classifier m i)
  classifier-facts i h =
      let r = row-facts letter_e i h in
      record { its-package = r.1.1.1.1.1.0; its-type = r.1.1.1.1.1.1.0; its-implementation = r.1.1.1.1.1.1.1.0; untyped = typed-or-bare (e_classifier m i) (no_row 8 m letter_e (bad_classifier m) eight.1.1.0 i h) }

  rename-good : (i : ℕ) → i < count m letter_r → T (not (bad_rename m i))
  rename-good i h = no_row 8 m letter_r (bad_rename m) eight.1.1.1.0 i h

  pub facts : Facts m
  facts =
      record {
        whole = whole-rows;
        few = few-rows m lists.1.0;
        name-inside = λ k h. (name-facts k h).0;
        name-good = λ k h. (name-facts k h).1;
        c-name = λ i h. (row-facts letter_c i h).0;
        c-parent = λ i h. (row-facts letter_c i h).1.0;
        c-index = λ i h. (row-facts letter_c i h).1.1.0;
        c-package = λ i h. (row-facts letter_c i h).1.1.1.0;
        c-type = λ i h. (row-facts letter_c i h).1.1.1.1.0;
        c-pattern = λ i h. (row-facts letter_c i h).1.1.1.1.1.0;
        c-place = λ i h. (row-facts letter_c i h).1.1.1.1.1.1.0;
        f-name = λ i h. (row-facts letter_f i h).0;
        f-owner = λ i h. (row-facts letter_f i h).1.0;
        f-kind = λ i h. (row-facts letter_f i h).1.1.0;
        x-name = λ i h. (row-facts letter_x i h).0;
        x-owner = (sound m ok).owners;
        x-kind = λ i h. (row-facts letter_x i h).1.1.0;
        x-sub = λ s i h. (x-sub-facts s i h).0;
        x-feat = λ s i h. (x-sub-facts s i h).1;
        p-name = λ i h. (row-facts letter_p i h).0;
        i-package = λ i h. (row-facts letter_i i h).0;
        i-name = λ i h. (row-facts letter_i i h).1.0;
        t-package = λ i h. (row-facts letter_t i h).0;
        t_name_lem = λ i h. (row-facts letter_t i h).1.0;
        t-private = λ i h. (row-facts letter_t i h).1.1.0;
        q-package = λ i h. (row-facts letter_q i h).0;
        q-type = λ i h. (row-facts letter_q i h).1.0;
        q-impl = λ i h. (row-facts letter_q i h).1.1.0;
        q-private = λ i h. (row-facts letter_q i h).1.1.1.0;
        u-package = λ i h. (row-facts letter_u i h).0;
        u-name = λ i h. (row-facts letter_u i h).1.0;
        u-private = λ i h. (row-facts letter_u i h).1.1.0;
        u-extends = extends-facts;
        u-inverse-of = inverse-facts;
        e-holder-kind = λ i h. (row-facts letter_e i h).0;
        e-holder = λ i h. (row-facts letter_e i h).1.0;
        e-name = λ i h. (row-facts letter_e i h).1.1.0;
        e-kind = λ i h. (row-facts letter_e i h).1.1.1.0;
        e-direction = λ i h. (row-facts letter_e i h).1.1.1.1.0;
        e-classifier = classifier-facts;
        r-package = λ i h. (row-facts letter_r i h).0;
        r-what = λ i h. (row-facts letter_r i h).1.0;
        r-alias = λ i h. (row-facts letter_r i h).1.1.0;
        r-original-package = λ i h. (row-facts letter_r i h).1.1.1.0;
        r-original-name = λ i h. (row-facts letter_r i h).1.1.1.1.0;
        m-name = λ i h. (row-facts letter_m i h).0;
        m-owner = λ i h. (row-facts letter_m i h).1.0;
        component-0 = some-component m ok;
        sound = sound m ok;
        c-key = keys-unique (place_key m) 16 m letter_c sixteen;
        x-end = end-facts;
        r-package-rename = λ i h. package-rename (r_what m i) (r_original_name m i) (rename-good i h);
        r-other-rename = λ i h. other-rename (r_what m i) (r_original_name m i) (rename-good i h);
        p-key = keys-unique (key_p m) 9 m letter_p nine.0;
        t-key = keys-unique (key_t m) 9 m letter_t nine.1.0;
        q-key = keys-unique (key_q m) 9 m letter_q nine.1.1.0;
        u-key = keys-unique (key_u m) 9 m letter_u nine.1.1.1.0;
        r-key = keys-unique (key_r m) 9 m letter_r nine.1.1.1.1.0;
      }
