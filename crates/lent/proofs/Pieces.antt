-- Laws of `append` and `append_all`: pieces written one behind the other, all of them in full, or the output is told to be full. Assumes nothing.
use mathlib.Core.Bool.{Bool}
use mathlib.Core.Path.{◌≡◌, refl, sym, ap, subst, ◌∙◌}
use mathlib.Core.List.{List, [], ◌∷◌, ◌++◌}
use Prim.Native.Nat.{ℕ, ◌+◌, ◌≤◌, ◌<◌}
use native.Mathlib.Nat.{add-zero, zero-add}
use native.Mathlib.Omega.{arith}
use native.Mathlib.Decide.{dec_le}
use borrow.Author.Tests.{le-leb, lt-leb}
use lib.ListN.{length, length-append, take}
use lib.Seq.{sets, length-sets, take-take}
use Rattle.std.specs.Prelude.{Option, Some, None, IfSome}
use Rattle.std.proofs.lemmas.Option.{none-some, same_Some}
use Rattle.as5506.proofs.Laws.{each_append}
use Rattle.lent.specs.Append.{Filled, filled, append_by, append_behind, append, append_all, together, Within, Stays, part_used}
use Rattle.lent.specs.Printed.{Printed}
use Rattle.lent.proofs.Sets.{sets-append, sets-before}

-- no less is used
abbrev pub NoLess : Option ℕ → Option ℕ → Type 0
NoLess u None = Unit {0}
NoLess u (Some j) = IfSome u (λ k. k ≤ j) × (u ≡ None → ⊥)

module _ {A : Type 0} where
  -- ---- one piece

  pub append_fits : (p l : List A) (k : ℕ) → k + length p ≤ length l → append p (filled l (Some k)) ≡ filled (sets l k p) (Some (k + length p))
  unfolding append_behind append_by
  append_fits p l k h = ap (λ (b : Bool). append_by b k p l) (le-leb _ _ h)

  pub append_full : (p l : List A) (k : ℕ) → length l < k + length p → append p (filled l (Some k)) ≡ filled l None
  unfolding append_behind append_by
  append_full p l k h = ap (λ (b : Bool). append_by b k p l) (lt-leb _ _ h)

  -- an output that is full stays so
  pub append-past : (p l : List A) → append p (filled l None) ≡ filled l None
  unfolding append_behind
  append-past p l = refl

  -- whatever holds of each of the three, holds of a piece
  pub append-cases : (P : Filled A → Type 0) (p : List A) (o : Filled A) → (o.used ≡ None → P (filled o.holds None))
      → ((k : ℕ) → o.used ≡ Some k → k + length p ≤ length o.holds → P (filled (sets o.holds k p) (Some (k + length p))))
      → ((k : ℕ) → o.used ≡ Some k → length o.holds < k + length p → P (filled o.holds None))
      → P (append p o)
  append-cases P p o n f s = go o.used refl
    where
      at : (k : ℕ) → o.used ≡ Some k → Dec (k + length p ≤ length o.holds) → P (append p (filled o.holds (Some k)))
      at k e (yes h) = subst P (sym (append_fits p o.holds k h)) (f k e h)
      at k e (no h) = subst P (sym (append_full p o.holds k (omega (arith, h)))) (s k e (omega (arith, h)))

      go : (u : Option ℕ) → o.used ≡ u → P (append p o)
      go None e = subst (λ (u : Option ℕ). P (append p (filled o.holds u))) (sym e) (subst P (sym (append-past p o.holds)) (n e))
      go (Some k) e = subst (λ (u : Option ℕ). P (append p (filled o.holds u))) (sym e) (at k e (dec_le (k + length p) (length o.holds)))

  pub append-length : (p : List A) (o : Filled A) → length (append p o).holds ≡ length o.holds
  append-length p o =
      append-cases (λ x. length x.holds ≡ length o.holds) p o (λ e. refl) (λ k e h. length-sets o.holds k p) (λ k e h. refl)

  pub append-within : (p : List A) (o : Filled A) → Within (append p o)
  append-within p o =
      append-cases Within p o (λ e. tt) (λ k e h. subst (λ (n : ℕ). k + length p ≤ n) (sym (length-sets o.holds k p)) h) (λ k e h. tt)

  -- ---- what is used stays

  -- an output that was o is n now: no less of it is used, and what was used is as it was
  pub record Extended (o n : Filled A) : Type 0 where
    pub more : NoLess o.used n.used
    pub front : Stays o n

  pub extended-nothing : (o : Filled A) → Extended o o
  extended-nothing o = record { more = go o.used; front = refl }
    where
      go : (u : Option ℕ) → NoLess u u
      go None = tt
      go (Some k) = (omega arith, λ e. none-some k (sym e))

  -- what leaves the front of the one leaves that of the other
  pub stays_then : (o n m : Filled A) → Extended o n → Stays n m → Stays o m
  unfolding part_used
  stays_then o n m a e = go o.used n.used a.more a.front e
    where
      go : (u v : Option ℕ) → NoLess u v → part_used u n.holds ≡ part_used u o.holds → part_used v m.holds ≡ part_used v n.holds → part_used u m.holds ≡ part_used u o.holds
      go u None l f g = ap (part_used u) g ∙ f
      go None (Some j) l f g = absurd (l.1 refl)
      go (Some k) (Some j) l f g = sym (take-take k j m.holds l.0) ∙ ap (take k) g ∙ take-take k j n.holds l.0 ∙ f

  pub extended_then : (o n m : Filled A) → Extended o n → Extended n m → Extended o m
  extended_then o n m a b = record { more = go o.used n.used m.used a.more b.more; front = stays_then o n m a b.front }
    where
      go : (u v w : Option ℕ) → NoLess u v → NoLess v w → NoLess u w
      go u v None a b = tt
      go u None (Some j) a b = absurd (b.1 refl)
      go None (Some i) (Some j) a b = absurd (a.1 refl)
      go (Some k) (Some i) (Some j) a b = (omega (arith, a.0, b.0), a.1)

  pub append-extends : (p : List A) (o : Filled A) → Extended o (append p o)
  unfolding part_used
  append-extends p o = append-cases (Extended o) p o (λ e. record { more = tt; front = refl }) there (λ k e h. record { more = tt; front = refl })
    where
      there : (k : ℕ) → o.used ≡ Some k → k + length p ≤ length o.holds → Extended o (filled (sets o.holds k p) (Some (k + length p)))
      there k e h = record {
        more = rw e (omega arith, λ n. none-some k (sym n));
        front = rw e (sets-before p o.holds k k (omega arith));
      }

  -- ---- pieces, one behind the other

  pub together-append : (ps qs : List (List A)) → together (ps ++ qs) ≡ together ps ++ together qs
  together-append ps qs = each_append (λ (p : List A). p) ps qs

  pub all-length : (ps : List (List A)) (o : Filled A) → length (append_all ps o).holds ≡ length o.holds
  unfolding append_all
  all-length [] o = refl
  all-length (p ∷ ps) o = all-length ps (append p o) ∙ append-length p o

  pub all-extends : (ps : List (List A)) (o : Filled A) → Extended o (append_all ps o)
  unfolding append_all
  all-extends [] o = extended-nothing o
  all-extends (p ∷ ps) o = extended_then o (append p o) (append_all ps (append p o)) (append-extends p o) (all-extends ps (append p o))

  pub all-within : (ps : List (List A)) (o : Filled A) → Within o → Within (append_all ps o)
  unfolding append_all
  all-within [] o h = h
  all-within (p ∷ ps) o h = all-within ps (append p o) (append-within p o)

  pub all_append : (ps qs : List (List A)) (o : Filled A) → append_all (ps ++ qs) o ≡ append_all qs (append_all ps o)
  unfolding append_all
  all_append [] qs o = refl
  all_append (p ∷ ps) qs o = all_append ps qs (append p o)

  -- behind an output that is full they change nothing
  pub all_past : (ps : List (List A)) (l : List A) → append_all ps (filled l None) ≡ filled l None
  unfolding append_all
  all_past [] l = refl
  all_past (p ∷ ps) l = ap (append_all ps) (append-past p l) ∙ all_past ps l

  -- there is room for all of them
  pub all_fit : (ps : List (List A)) (l : List A) (k : ℕ) → k + length (together ps) ≤ length l
      → append_all ps (filled l (Some k)) ≡ filled (sets l k (together ps)) (Some (k + length (together ps)))
  unfolding append_all
  all_fit [] l k h = ap (λ (n : ℕ). filled l (Some n)) (sym (add-zero k))
  all_fit (p ∷ ps) l k h =
      let n : length (p ++ together ps) ≡ length p + length (together ps) = length-append p (together ps) in
      ap (append_all ps) (append_fits p l k (omega (arith, h, n)))
      ∙ all_fit ps (sets l k p) (k + length p) (omega (arith, h, n, length-sets l k p))
      ∙ ap (λ (x : List A). filled x (Some (k + length p + length (together ps)))) (sym (sets-append p (together ps) l k))
      ∙ ap (λ (i : ℕ). filled (sets l k (p ++ together ps)) (Some i)) (omega (arith, n))

  -- there is not
  pub all-full : (ps : List (List A)) (l : List A) (k : ℕ) → k ≤ length l → length l < k + length (together ps) → (append_all ps (filled l (Some k))).used ≡ None
  unfolding append_all
  all-full [] l k b h = absurd (omega (arith, b, h))
  all-full (p ∷ ps) l k b h =
      let n : length (p ++ together ps) ≡ length p + length (together ps) = length-append p (together ps) in
      let m : length (sets l k p) ≡ length l = length-sets l k p in
      full-behind (dec_le (k + length p) (length l)) (λ f. all-full ps (sets l k p) (k + length p) (omega (arith, f, m)) (omega (arith, h, n, m)))
    where
      full-behind : Dec (k + length p ≤ length l) → (k + length p ≤ length l → (append_all ps (filled (sets l k p) (Some (k + length p)))).used ≡ None)
          → (append_all ps (append p (filled l (Some k)))).used ≡ None
      full-behind (yes f) behind = ap (λ (o : Filled A). (append_all ps o).used) (append_fits p l k f) ∙ behind f
      full-behind (no f) behind =
          ap (λ (o : Filled A). (append_all ps o).used) (append_full p l k (omega (arith, f))) ∙ ap (λ (o : Filled A). o.used) (all_past ps l)

  -- which of both it was, by what is told of the use behind them
  pub all-kept : (ps : List (List A)) (l : List A) (k : ℕ) → k ≤ length l → (n : ℕ) → (append_all ps (filled l (Some k))).used ≡ Some n → k + length (together ps) ≤ length l
  all-kept ps l k b n e = go (dec_le (k + length (together ps)) (length l))
    where
      go : Dec (k + length (together ps) ≤ length l) → k + length (together ps) ≤ length l
      go (yes h) = h
      go (no h) = absurd (none-some n (sym (all-full ps l k b (omega (arith, h))) ∙ e))

  pub all-spilt : (ps : List (List A)) (l : List A) (k : ℕ) → (append_all ps (filled l (Some k))).used ≡ None → length l < k + length (together ps)
  all-spilt ps l k e = go (dec_le (k + length (together ps)) (length l))
    where
      go : Dec (k + length (together ps) ≤ length l) → length l < k + length (together ps)
      go (yes h) = absurd (none-some (k + length (together ps)) (sym e ∙ ap (λ (o : Filled A). o.used) (all_fit ps l k h)))
      go (no h) = omega (arith, h)

-- pieces from the front of an output are printed as one
pub printed-by : (ps : List (List ℕ)) (l l₁ : List ℕ) (z : Option ℕ) (t : List ℕ) → together ps ≡ t → filled l₁ z ≡ append_all ps (filled l (Some 0)) → Printed t l z l₁
printed-by ps l l₁ z t one e =
    subst (λ (t : List ℕ). Printed t l z l₁) one
    (record {
      size = ap (λ (x : Filled ℕ). length x.holds) e ∙ all-length ps (filled l (Some 0));
      fits = λ h.
          let all : filled l₁ z ≡ filled (sets l 0 (together ps)) (Some (0 + length (together ps))) = e ∙ all_fit ps l 0 (omega (arith, h)) in
          (ap (λ (x : Filled ℕ). x.used) all ∙ ap (λ (n : ℕ). Some n) (zero-add (length (together ps))), ap (λ (x : Filled ℕ). x.holds) all);
      spills = λ h. ap (λ (x : Filled ℕ). x.used) e ∙ all-full ps l 0 (omega arith) (omega (arith, h));
    })

-- what was printed, by how much of the output is told to be used
module _ {t l : List ℕ} {z : Option ℕ} {l₁ : List ℕ} (p : Printed t l z l₁) where
  pub printed-some : {k : ℕ} → z ≡ Some k → (length t ≤ length l) × (k ≡ length t) × (l₁ ≡ sets l 0 t)
  printed-some {k} e = go (dec_le (length t) (length l))
    where
      go : Dec (length t ≤ length l) → (length t ≤ length l) × (k ≡ length t) × (l₁ ≡ sets l 0 t)
      go (yes h) = (h, sym (same_Some _ _ (sym (p.fits h).0 ∙ e)), (p.fits h).1)
      go (no h) = absurd (none-some k (sym (p.spills (omega (arith, h))) ∙ e))

  pub printed-none : z ≡ None → length l < length t
  printed-none e = go (dec_le (length t) (length l))
    where
      go : Dec (length t ≤ length l) → length l < length t
      go (yes h) = absurd (none-some (length t) (sym e ∙ (p.fits h).0))
      go (no h) = omega (arith, h)
