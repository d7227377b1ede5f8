-- Laws of `Dull`: a feature that is dull changes nothing, and stays dull; one that leaves the use of both outputs as it was is dull from then
-- on. A walk keeps to them in group_walk's proofs/Calm.antt. Assumes nothing.
use mathlib.Core.Bool.{Bool, true, false}
use mathlib.Core.Path.{◌≡◌, refl, sym, ap, ap₂, ◌∙◌}
use mathlib.Core.List.{List, [], ◌∷◌}
use Prim.Native.Nat.{ℕ, zero, suc, ◌+◌, ◌≤◌, ◌<◌}
use native.Mathlib.Omega.{arith}
use native.Mathlib.Decide.{dec_le}
use borrow.Author.Tests.{eqb-true, eqb-false}
use lib.Dec.{eqb}
use Rattle.std.specs.Prelude.{Option, Some, None}
use Rattle.std.proofs.lemmas.Option.{same_Some}
use lib.ListN.{length, get_or, set, length-set}
use lib.Seq.{set_out, set-set, set_comm, get_or-set_same}
use Rattle.as5506.specs.Tables.{Tables}
use Rattle.as5506.specs.Groups.{Feature}
use Rattle.as5506.specs.Rows.{diag}
use Rattle.as5506.specs.Layout.{feature_block, diag_block}
use Rattle.lent.specs.Append.{Filled, filled, append, Within}
use Rattle.lent.proofs.Pieces.{append-past, append-cases, append-length, append-within, Extended, extended-nothing, extended_then, append-extends}
use Rattle.sink.specs.declared.Matching.{Matching}
use Rattle.sink.specs.declared.Purpose.{Purpose}
use Rattle.sink.specs.declared.Purpose.TheVariants.{Count, All, First, Match}
use Rattle.sink.specs.Take.{Held, partner_of, code_of, match_block, first_by, match_by, taken}
use Rattle.sink.specs.Dull.{Full, DullMatch, Dull}

-- ---- one output

-- a full output takes nothing
append-same : (p : List ℕ) (o : Filled ℕ) → Full o → append p o ≡ o
append-same p o f = let at : Option ℕ → Filled ℕ = filled o.holds in ap (λ (u : Option ℕ). append p (at u)) f ∙ append-past p o.holds ∙ ap at (sym f)

full-stays : (p : List ℕ) (o : Filled ℕ) → Full o → Full (append p o)
full-stays p o f = ap (λ (x : Filled ℕ). x.used) (append-same p o f) ∙ f

-- what takes nothing is full
append-quiet : (p : List ℕ) (o : Filled ℕ) → 0 < length p → (append p o).used ≡ o.used → Full (append p o)
append-quiet p o l = append-cases (λ (x : Filled ℕ). x.used ≡ o.used → Full x) p o (λ f e. refl)
    (λ k f h e. absurd (omega (arith, l, same_Some _ _ (e ∙ f)))) (λ k f h e. refl)

-- ---- both outputs

-- the outputs are only added to, what is used of them stays within, and the memory and the outputs are as long as before
pub record Grown (h t : Held) : Type 0 where
  pub added-out : Extended h.out t.out
  pub added-notes : Extended h.notes t.notes
  pub within-out : Within h.out → Within t.out
  pub within-notes : Within h.notes → Within t.notes
  pub length-memo : length t.memo ≡ length h.memo
  pub length-out : length t.out.holds ≡ length h.out.holds
  pub length-notes : length t.notes.holds ≡ length h.notes.holds

pub grown-nothing : (h : Held) → Grown h h
grown-nothing h =
    record {
      added-out = extended-nothing h.out;
      added-notes = extended-nothing h.notes;
      within-out = λ w. w;
      within-notes = λ w. w;
      length-memo = refl;
      length-out = refl;
      length-notes = refl;
    }

pub grown-then : (h t u : Held) → Grown h t → Grown t u → Grown h u
grown-then h t u a b =
    record {
      added-out = extended_then h.out t.out u.out a.added-out b.added-out;
      added-notes = extended_then h.notes t.notes u.notes a.added-notes b.added-notes;
      within-out = λ w. b.within-out (a.within-out w);
      within-notes = λ w. b.within-notes (a.within-notes w);
      length-memo = b.length-memo ∙ a.length-memo;
      length-out = b.length-out ∙ a.length-out;
      length-notes = b.length-notes ∙ a.length-notes;
    }

-- a piece is added to one output, and the memory is l then
module _ (h : Held) (p : List ℕ) (l : List ℕ) (e : length l ≡ length h.memo) where
  out-grows : Grown h (record { memo = l; out = append p h.out; notes = h.notes })
  out-grows =
      record {
        added-out = append-extends p h.out;
        added-notes = extended-nothing h.notes;
        within-out = λ w. append-within p h.out;
        within-notes = λ w. w;
        length-memo = e;
        length-out = append-length p h.out;
        length-notes = refl;
      }

  notes-grows : Grown h (record { memo = l; out = h.out; notes = append p h.notes })
  notes-grows =
      record {
        added-out = extended-nothing h.out;
        added-notes = append-extends p h.notes;
        within-out = λ w. w;
        within-notes = λ w. append-within p h.notes;
        length-memo = e;
        length-out = refl;
        length-notes = append-length p h.notes;
      }

-- ---- what is written is longer than nothing

feature-long : (f : Feature) → 0 < length (feature_block f)
unfolding feature_block
feature-long f = omega arith

match-long : (conn src dst : ℕ) (s d : List ℕ) → 0 < length (match_block conn src dst s d)
unfolding match_block
match-long conn src dst s d = omega arith

diag-long : (conn name : ℕ) → 0 < length (diag_block (diag 5 conn name 0))
unfolding diag_block
diag-long conn name = omega arith

-- ---- the memory of names

-- what is still 0 when a 1 was put somewhere was 0 before
was-zero : (l : List ℕ) (i j : ℕ) → get_or (set l i 1) j 0 ≡ 0 → get_or l j 0 ≡ 0
was-zero [] i j e = e
was-zero (x ∷ l) zero zero e = absurd (omega (arith, e))
was-zero (x ∷ l) zero (suc j) e = e
was-zero (x ∷ l) (suc i) zero e = e
was-zero (x ∷ l) (suc i) (suc j) e = was-zero l i j e

-- a place is 0 with a 1 put there: it is no place of the list
no_place : (l : List ℕ) (i : ℕ) → get_or (set l i 1) i 0 ≡ 0 → length l ≤ i
no_place l i e = go (dec_le (length l) i)
  where
    go : Dec (length l ≤ i) → length l ≤ i
    go (yes h) = h
    go (no h) = absurd (omega (arith, e, get_or-set_same l i 1 0 (omega (arith, h))))

-- each place is given a number of its own: where it has it already, it keeps it
put-stays : (code : ℕ → ℕ) (l : List ℕ) (i j : ℕ) → set l i (code i) ≡ l → set (set l j (code j)) i (code i) ≡ set l j (code j)
put-stays code l i j e = go (eqb i j) refl
  where
    go : (b : Bool) → eqb i j ≡ b → set (set l j (code j)) i (code i) ≡ set l j (code j)
    go true q = rw (eqb-true i j q) (set-set l j (code j) (code j))
    go false q = set_comm l j i (code j) (code i) (λ x. eqb-false i j q (sym x)) ∙ ap (λ (m : List ℕ). set m j (code j)) e

-- ---- first appearances

abbrev Came : ℕ → Held → Type 0
Came k h = get_or h.memo k 0 ≡ 0 → Full h.out × (length h.memo ≤ k)

first-same : (b : Bool) (f : Feature) (h : Held) → eqb (get_or h.memo f.name 0) 0 ≡ b → Came f.name h → first_by b f h ≡ h
unfolding first_by
first-same false f h e d = refl
first-same true f h e d =
    let w : Full h.out × (length h.memo ≤ f.name) = d (eqb-true _ _ e) in
    ap₂ (λ (m : List ℕ) (o : Filled ℕ). record { memo = m; out = o; notes = h.notes }) (set_out h.memo f.name 1 w.1) (append-same (feature_block f) h.out w.0)

first-stays : (b : Bool) (g : Feature) (k : ℕ) (h : Held) → Came k h → Came k (first_by b g h)
unfolding first_by
first-stays false g k h d = d
first-stays true g k h d = λ z.
    let w : Full h.out × (length h.memo ≤ k) = d (was-zero h.memo g.name k z) in
    (full-stays (feature_block g) h.out w.0, rw (length-set h.memo g.name 1) w.1)

first-quiet : (b : Bool) (f : Feature) (h : Held) → eqb (get_or h.memo f.name 0) 0 ≡ b → (first_by b f h).out.used ≡ h.out.used → Came f.name (first_by b f h)
unfolding first_by
first-quiet false f h e q = λ z. absurd (eqb-false _ _ e z)
first-quiet true f h e q = λ z.
    (append-quiet (feature_block f) h.out (feature-long f) q, rw (length-set h.memo f.name 1) (no_place h.memo f.name z))

first-grows : (b : Bool) (f : Feature) (h : Held) → Grown h (first_by b f h)
unfolding first_by
first-grows false f h = grown-nothing h
first-grows true f h = out-grows h (feature_block f) (set h.memo f.name 1) (length-set h.memo f.name 1)

-- ---- matching

-- the memory knows what is asked for this name, and where it is told nothing more finds room
abbrev Known : Option ℕ → ℕ → Held → Type 0
Known a k h = (set h.memo k (code_of a) ≡ h.memo) × DullMatch a h

module _ (m : Matching) where
  match-same : (a : Option ℕ) (f : Feature) (h : Held) → Known a f.name h → match_by a m f h ≡ h
  unfolding match_by
  match-same None f h d = ap₂ (λ (l : List ℕ) (o : Filled ℕ). record { memo = l; out = h.out; notes = o }) d.0 (append-same _ h.notes d.1)
  match-same (Some i) f h d = ap₂ (λ (l : List ℕ) (o : Filled ℕ). record { memo = l; out = o; notes = h.notes }) d.0 (append-same _ h.out d.1)

  match-stays : (a b : Option ℕ) (g : Feature) (k : ℕ) (h : Held) → set (set h.memo g.name (code_of b)) k (code_of a) ≡ set h.memo g.name (code_of b)
      → DullMatch a h → Known a k (match_by b m g h)
  unfolding match_by
  match-stays None None g k h e d = (e, full-stays _ h.notes d)
  match-stays None (Some i) g k h e d = (e, d)
  match-stays (Some j) None g k h e d = (e, d)
  match-stays (Some j) (Some i) g k h e d = (e, full-stays _ h.out d)

  match-quiet : (a : Option ℕ) (f : Feature) (h : Held) → (match_by a m f h).out.used ≡ h.out.used → (match_by a m f h).notes.used ≡ h.notes.used
      → Known a f.name (match_by a m f h)
  unfolding match_by
  match-quiet None f h p q = (set-set h.memo f.name 1 1, append-quiet _ h.notes (diag-long m.connection f.name) q)
  match-quiet (Some i) f h p q = (set-set h.memo f.name (i + 2) (i + 2), append-quiet _ h.out (match-long m.connection m.source m.destination _ _) p)

  match_grows : (a : Option ℕ) (f : Feature) (h : Held) → Grown h (match_by a m f h)
  unfolding match_by
  match_grows None f h = notes-grows h _ (set h.memo f.name 1) (length-set h.memo f.name 1)
  match_grows (Some i) f h = out-grows h _ (set h.memo f.name (i + 2)) (length-set h.memo f.name (i + 2))

-- ---- every purpose

module _ (m : Tables) where
  -- a dull feature changes nothing
  pub same : (p : Purpose) (f : Feature) (h : Held) → Dull p m f.name h → taken p m f h ≡ h
  unfolding Dull taken
  same Count f h d = refl
  same All f h d = ap (λ (o : Filled ℕ). record { memo = h.memo; out = o; notes = h.notes }) (append-same (feature_block f) h.out d)
  same First f h d = first-same (eqb (get_or h.memo f.name 0) 0) f h refl d
  same (Match k) f h d = match-same k (partner_of m k.kept.now f.name) f h d

  -- what is dull stays so, whatever feature comes
  pub stays : (p : Purpose) (g : Feature) (k : ℕ) (h : Held) → Dull p m k h → Dull p m k (taken p m g h)
  unfolding Dull taken
  stays Count g k h d = tt
  stays All g k h d = full-stays (feature_block g) h.out d
  stays First g k h d = first-stays (eqb (get_or h.memo g.name 0) 0) g k h d
  stays (Match q) g k h d =
      match-stays q (partner_of m q.kept.now k) (partner_of m q.kept.now g.name) g k h
      (put-stays (λ i. code_of (partner_of m q.kept.now i)) h.memo k g.name d.0) d.1

  -- a feature that leaves the use of both outputs as it was is dull from then on
  pub quiet : (p : Purpose) (f : Feature) (h : Held) → (taken p m f h).out.used ≡ h.out.used
      → (taken p m f h).notes.used ≡ h.notes.used → Dull p m f.name (taken p m f h)
  unfolding Dull taken
  quiet Count f h x y = tt
  quiet All f h x y = append-quiet (feature_block f) h.out (feature-long f) x
  quiet First f h x y = first-quiet (eqb (get_or h.memo f.name 0) 0) f h refl x
  quiet (Match k) f h x y = match-quiet k (partner_of m k.kept.now f.name) f h x y

  -- an output is only added to, and nothing changes its length
  pub grows : (p : Purpose) (f : Feature) (h : Held) → Grown h (taken p m f h)
  unfolding taken
  grows Count f h = grown-nothing h
  grows All f h = out-grows h (feature_block f) h.memo refl
  grows First f h = first-grows (eqb (get_or h.memo f.name 0) 0) f h
  grows (Match k) f h = match_grows k (partner_of m k.kept.now f.name) f h
