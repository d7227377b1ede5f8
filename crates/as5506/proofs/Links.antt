-- Children by links, 02 (xiii): a first child and the next siblings spell the children by place; what stands in a link table; that the walk along it gives
-- the same children; refusal 22. Assumes nothing.
use mathlib.Core.Bool.{Bool, true, false, cond}
use mathlib.Core.Logic.{inl, inr}
use mathlib.Core.Path.{◌≡◌, refl, sym, ap, ◌∙◌, subst}
use mathlib.Core.List.{List, [], ◌∷◌, ◌++◌, append-nil}
use Prim.Native.Nat.{ℕ, zero, suc, ◌+◌, ◌-◌, ◌*◌, ◌≤◌, ◌<◌}
use native.Mathlib.Nat.{le_refl}
use native.Mathlib.Omega.{arith}
use borrow.Author.Tests.{le-ltb, eqb-true, eq-eqb, ne_eqb}
use lib.Dec.{T, eqb}
use lib.ListN.{length, get_or, get_or-append}
use Rattle.std.specs.Prelude.{Option, None, Some}
use Rattle.as5506.specs.Lists.{span, up_to, put_if, keep, is_nil, first_of, zeros, padded}
use Rattle.as5506.specs.Tables.{Tables, letter_c, rows_naming, missing, c_count, c_parent, c_place, children_of}
use Rattle.as5506.specs.Answers.{fault}
use Rattle.as5506.specs.Names.{Comparison}
use Rattle.as5506.specs.Tracing.{found_children}
use Rattle.as5506.specs.Followed.{In}
use Rattle.as5506.specs.Refusals.{faults, accepted}
use Rattle.as5506.specs.Links.{first_child, behind, siblings_behind, next_sibling, siblings_from, or_missing, link_row, link_table, links_short, first_in, next_in, walk, LinksGiveChildren}
use Rattle.as5506.specs.Listing.{faults_linked}
use Rattle.as5506.proofs.Laws.{all_in, in_all, all_first, all-of, even-length, row_at, span-length, up_to-length, up_to-entry, nil-left}
use Rattle.as5506.proofs.Sorted.{Ordered, ordered-weaker, sorted-length, Before, before-once}
use Rattle.as5506.proofs.Members.{Apart}
use Rattle.as5506.proofs.Whole.{Sound}
use Rattle.as5506.proofs.Accepted.{sound}
use Rattle.as5506.proofs.Children.{child-row, children-ordered, found-kept}

-- ---- what stands behind an entry of a list

behind-in : (i : ℕ) (l : List ℕ) (a : ℕ) → In a (behind i l) → In a l
behind-in i [] a h = h
behind-in i (x ∷ xs) a h = go (eqb i x) h (behind-in i xs a)
  where
    go : (b : Bool) → In a (cond b xs (behind i xs)) → (In a (behind i xs) → In a xs) → In a (x ∷ xs)
    go true h rest = inr h
    go false h rest = inr (rest h)

behind-first : (i : ℕ) (is : List ℕ) → behind i (i ∷ is) ≡ is
behind-first i is = rw (eq-eqb i i refl)

behind-later : (i x : ℕ) (xs : List ℕ) → Apart i x → behind i (x ∷ xs) ≡ behind i xs
behind-later i x xs h = rw (ne_eqb i x h)

-- of entries that all differ: none stands behind itself
not-behind : (i : ℕ) (l : List ℕ) → Ordered Apart l → In i (behind i l) → ⊥
not-behind i [] o h = h
not-behind i (x ∷ xs) o h = go (eqb i x) refl h (not-behind i xs o.1)
  where
    go : (b : Bool) → eqb i x ≡ b → In i (cond b xs (behind i xs)) → (In i (behind i xs) → ⊥) → ⊥
    go true e k rest = all_in (Apart x) xs o.0 i k (sym (eqb-true i x e))
    go false e k rest = rest k

-- and behind the first of those behind i stand the others of them
behind-next : (i j : ℕ) (js l : List ℕ) → Ordered Apart l → behind i l ≡ j ∷ js → behind j l ≡ js
behind-next i j js [] o e = cc
behind-next i j js (x ∷ xs) o e = go (eqb i x) e (behind-next i j js xs o.1)
  where
    later : In j xs → behind j (x ∷ xs) ≡ behind j xs
    later h = behind-later j x xs (λ z. all_in (Apart x) xs o.0 j h (sym z))

    go : (b : Bool) → cond b xs (behind i xs) ≡ j ∷ js → (behind i xs ≡ j ∷ js → behind j xs ≡ js) → behind j (x ∷ xs) ≡ js
    go true f rest = later (subst (λ l. In j l) (sym f) (inl refl)) ∙ ap (behind j) f ∙ behind-first j js
    go false f rest = later (behind-in i xs j (subst (λ l. In j l) (sym f) (inl refl))) ∙ rest f

-- ---- FIRST CHILDREN AND NEXT SIBLINGS, whatever the tables

module _ (m : Tables) where
  -- the children of one component all differ
  children-apart : (c : ℕ) → Ordered Apart (children_of m c)
  children-apart c = ordered-weaker (Before (c_place m)) Apart (λ i j b e. let z : Before (c_place m) i i = subst (λ k. Before (c_place m) i k) (sym e) b in before-once (c_place m) i i z z) (children_of m c) (children-ordered m c)

  siblings-behind : (i j : ℕ) → In j (siblings_behind m i) → (j < c_count m) × (c_parent m j ≡ c_parent m i)
  unfolding siblings_behind
  siblings-behind i j h = child-row m (c_parent m i) j (behind-in i (children_of m (c_parent m i)) j h)

  -- a first child is a row that names the parent
  pub child-first : (c i : ℕ) → first_child m c ≡ Some i → (i < c_count m) × (c_parent m i ≡ c)
  unfolding first_child
  child-first c i e = all_first (λ i. (i < c_count m) × (c_parent m i ≡ c)) (children_of m c) (in_all (λ i. (i < c_count m) × (c_parent m i ≡ c)) (children_of m c) (child-row m c)) i (sym e)

  -- a next sibling is a row that names the same parent
  pub sibling-next : (i j : ℕ) → next_sibling m i ≡ Some j → (j < c_count m) × (c_parent m j ≡ c_parent m i)
  unfolding next_sibling
  sibling-next i j e =
      all_first (λ j. (j < c_count m) × (c_parent m j ≡ c_parent m i)) (siblings_behind m i)
      (in_all (λ j. (j < c_count m) × (c_parent m j ≡ c_parent m i)) (siblings_behind m i) (siblings-behind i)) j (sym e)

  -- FROM THE FIRST CHILD ON come all children
  pub from_first : (c : ℕ) → siblings_from m (first_child m c) ≡ children_of m c
  unfolding siblings_from first_child siblings_behind
  from_first c = go (children_of m c) refl
    where
      go : (l : List ℕ) → children_of m c ≡ l → siblings_from m (first_of l) ≡ l
      go [] e = refl
      go (i ∷ is) e =
          let p : c_parent m i ≡ c = (child-row m c i (subst (λ l. In i l) (sym e) (inl refl))).1 in
          ap (λ (l : List ℕ). i ∷ l) (ap (λ (q : ℕ). behind i (children_of m q)) p ∙ ap (behind i) e ∙ behind-first i is)

  -- FROM THE NEXT SIBLING ON, all siblings behind
  pub from-next : (i : ℕ) → siblings_from m (next_sibling m i) ≡ siblings_behind m i
  unfolding siblings_from next_sibling siblings_behind
  from-next i = go (siblings_behind m i) refl
    where
      go : (l : List ℕ) → siblings_behind m i ≡ l → siblings_from m (first_of l) ≡ l
      go [] e = refl
      go (j ∷ js) e =
          let p : c_parent m j ≡ c_parent m i = (siblings-behind i j (subst (λ l. In j l) (sym e) (inl refl))).1 in
          ap (λ (l : List ℕ). j ∷ l) (ap (λ (q : ℕ). behind j (children_of m q)) p ∙ behind-next i j js (children_of m (c_parent m i)) (children-apart (c_parent m i)) e)

-- ---- how many there are

put-length : (b : Bool) (x : ℕ) (r : List ℕ) → length (put_if b x r) ≤ suc (length r)
put-length true x r = le_refl (suc (length r))
put-length false x r = omega arith

keep-few : (p : ℕ → Bool) (l : List ℕ) → length (keep p l) ≤ length l
keep-few p [] = le_refl 0
keep-few p (x ∷ xs) = omega (arith, put-length (p x) x (keep p xs), keep-few p xs)

module _ (m : Tables) where
  children-length : (c : ℕ) → length (children_of m c) ≡ length (keep (λ i. eqb (c_parent m i) c) (up_to (c_count m)))
  unfolding rows_naming
  children-length c = sorted-length (c_place m) (rows_naming m letter_c (c_parent m) c)

  pub length-siblings : (c : ℕ) → length (children_of m c) ≤ c_count m
  length-siblings c = omega (arith, children-length c, keep-few (λ i. eqb (c_parent m i) c) (up_to (c_count m)), up_to-length (c_count m))

  pub length-found : (same : Comparison) (c : ℕ) (w : List ℕ) → length (found_children same m c w) ≤ c_count m
  length-found same c w =
      found-kept same m c w (λ l. length l ≤ c_count m) (λ p. omega (arith, keep-few p (children_of m c), length-siblings c))

-- ---- accepted tables: component 0 is in no other component, and has no sibling behind it

pub root_alone : (m : Tables) → Sound m → next_sibling m 0 ≡ None
unfolding next_sibling siblings_behind
root_alone m s = go (siblings_behind m 0) refl
  where
    none : (j : ℕ) → In j (siblings_behind m 0) → ⊥
    none zero h = not-behind 0 (children_of m (c_parent m 0)) (children-apart m (c_parent m 0)) h
    none (suc j) h =
        let k = siblings-behind m 0 (suc j) h in
        omega (arith, s.parents (suc j) (omega arith) k.0, s.few, k.0, k.1, s.root)

    go : (l : List ℕ) → siblings_behind m 0 ≡ l → first_of l ≡ None
    go [] e = refl
    go (j ∷ js) e = absurd (none j (subst (λ l. In j l) (sym e) (inl refl)))

pub root-alone : (m : Tables) → T (accepted m) → next_sibling m 0 ≡ None
root-alone m ok = root_alone m (sound m ok)

-- component 0 is the child of no component, so that each has fewer children than there are components
pub fewer-children : (m : Tables) → Sound m → (c : ℕ) → c < c_count m → length (children_of m c) < c_count m
fewer-children m s c h = go (c_count m) h (children-length m c)
  where
    nobody : c_parent m 0 ≡ c → ⊥
    nobody e = omega (arith, s.root, s.few, e, h)

    go : (n : ℕ) → c < n → length (children_of m c) ≡ length (keep (λ i. eqb (c_parent m i) c) (up_to n)) → length (children_of m c) < n
    go zero l e = absurd (omega arith)
    go (suc n) l e =
        let f : keep (λ i. eqb (c_parent m i) c) (up_to (suc n)) ≡ keep (λ i. eqb (c_parent m i) c) (span 1 n) = rw (ne_eqb (c_parent m 0) c nobody) in
        omega (arith, e ∙ ap length f, keep-few (λ i. eqb (c_parent m i) c) (span 1 n), span-length 1 n)

-- ---- WHAT STANDS IN THE LINK TABLE, whatever the tables, and whatever the length of what holds it

module _ (m : Tables) where
  link-row-length : (i : ℕ) → length (link_row m i) ≡ 2
  unfolding link_row
  link-row-length i = refl

  pub link-table-length : length (link_table m) ≡ c_count m * 2
  unfolding link_table
  link-table-length =
      even-length 2 (link_row m) (up_to (c_count m)) (all-of (λ i. length (link_row m i) ≡ 2) link-row-length (up_to (c_count m))) ∙ ap (λ (n : ℕ). n * 2) (up_to-length (c_count m))

  row-read : (n d c j : ℕ) → c < c_count m → j < 2 → get_or (padded n (link_table m)) (c * 2 + j) d ≡ get_or (link_row m c) j d
  unfolding padded link_table
  row-read n d c j h l =
      get_or-append (link_table m) (zeros (n - length (link_table m))) d (c * 2 + j) (omega (arith, link-table-length, h, l))
      ∙ row_at 2 (link_row m) (up_to (c_count m)) (all-of (λ i. length (link_row m i) ≡ 2) link-row-length (up_to (c_count m))) 0 d c j (rw (up_to-length (c_count m)) h) l
      ∙ ap (λ (i : ℕ). get_or (link_row m i) j d) (up_to-entry (c_count m) c 0 h)

  -- the first child of component c, whatever is read where the table ends
  pub first-read : (n d c : ℕ) → c < c_count m → get_or (padded n (link_table m)) (c * 2) d ≡ or_missing (first_child m c)
  unfolding link_row
  first-read n d c h = ap (λ (k : ℕ). get_or (padded n (link_table m)) k d) (let e : c * 2 ≡ c * 2 + 0 = omega arith in e) ∙ row-read n d c 0 h (omega arith)

  -- the next sibling of component i
  pub next-read : (n d i : ℕ) → i < c_count m → get_or (padded n (link_table m)) (i * 2 + 1) d ≡ or_missing (next_sibling m i)
  unfolding link_row
  next-read n d i h = row-read n d i 1 h (omega arith)

-- ---- THE WALK

module _ (m : Tables) (s : Sound m) (n : ℕ) where
  -- the link table in an output of n numbers
  abbrev t : List ℕ
  t = padded n (link_table m)

  -- from a link to a component, or from a missing one, on: where the components that come are no more than the bound
  walk-from : (k : ℕ) (o : Option ℕ) → ((i : ℕ) → o ≡ Some i → i < c_count m) → length (siblings_from m o) ≤ k → walk t k (or_missing o) ≡ siblings_from m o
  unfolding walk siblings_from
  walk-from zero None there h = refl
  walk-from (suc k) None there h = refl
  walk-from zero (Some i) there h = absurd (omega arith)
  walk-from (suc k) (Some i) there h =
      let rest : walk t k (or_missing (next_sibling m i)) ≡ siblings_from m (next_sibling m i) = walk-from k (next_sibling m i) (λ j f. (sibling-next m i j f).0) (omega (arith, h, ap length (from-next m i))) in
      ap (λ (b : Bool). cond b [] (i ∷ walk t k (next_in t i))) (ne_eqb i missing (λ z. omega (arith, z, there i refl, s.few)))
      ∙ ap (λ (l : List ℕ). i ∷ l) (ap (walk t k) (next-read m n 0 i (there i refl)) ∙ rest ∙ from-next m i)

  -- under any bound that is no less than the number of children
  walk-children : (k c : ℕ) → c < c_count m → length (children_of m c) ≤ k → walk t k (first_in t c) ≡ children_of m c
  walk-children k c h l =
      ap (walk t k) (first-read m n 0 c h)
      ∙ walk-from k (first_child m c) (λ i f. (child-first m c i f).0) (omega (arith, l, ap length (from_first m c)))
      ∙ from_first m c

-- THE WALK GIVES THE SAME CHILDREN: of each accepted model, and for each of its components, whoever begins at the component's first child and goes on to the
-- next sibling until a link is missing meets the same children in the same order as the scan by place
pub walk-gives-children : LinksGiveChildren
walk-gives-children m ok n c k h l = walk-children m (sound m ok) n k c h (omega (arith, l, fewer-children m (sound m ok) c h))

-- ---- 22, behind the tables' faults

-- where none is there, the tables are accepted
pub linked-accepted : (links : ℕ) (m : Tables) → T (is_nil (faults_linked links m)) → T (accepted m)
unfolding accepted
linked-accepted links m t = nil-left (faults m) (links_short links m) t

-- "No other answer changes": with enough links a listing is refused as before
pub enough-links : (links : ℕ) (m : Tables) → c_count m ≤ links → faults_linked links m ≡ faults m
enough-links links m h = ap (λ (b : Bool). faults m ++ fault 22 b) (le-ltb links (c_count m) h) ∙ append-nil (faults m)
