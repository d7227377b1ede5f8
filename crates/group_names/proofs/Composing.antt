-- What is left to compose of the matches, with a law for a row's three names, for a turn, for each way out of the loop. Assumes nothing.
use mathlib.Core.Bool.{true, false, false≢true}
use mathlib.Core.Path.{◌≡◌, refl, sym, ap, ap₂, subst, ◌∙◌}
use mathlib.Core.List.{List, [], ◌∷◌, ◌++◌, append_assoc}
use Prim.Native.Nat.{ℕ, suc, ◌+◌, ◌-◌, ◌*◌, ◌≤◌, ◌<◌}
use native.Mathlib.Decide.{dec_le}
use native.Mathlib.Omega.{arith}
use lib.ListN.{length, take, drop, get_or}
use lib.Seq.{sets, sets-eq, length-sets, get_or-drop, drop-drop}
use borrow.Rule.Slice.PartMut.{put_mid}
use Rattle.std.specs.Prelude.{Option, Some, None, IfSome}
use Rattle.std.specs.Option.{is_some}
use Rattle.std.proofs.lemmas.List.{take-append-drop, take_rest}
use Rattle.std.proofs.lemmas.Option.{none-some, same_Some}
use Rattle.as5506.specs.Lists.{each}
use Rattle.as5506.specs.Tables.{Tables, source, destination, x_name, x_feat}
use Rattle.as5506.specs.Layout.{row_numbers, group_block}
use Rattle.as5506.proofs.Laws.{each_append}
use Rattle.lent.specs.Append.{Filled, filled, append_all, together, Within}
use Rattle.lent.proofs.Sets.{sets-append, sets_behind}
use Rattle.lent.proofs.Pieces.{all-length, all-within, all_append, all_fit}
use Rattle.group_names.specs.Pairs.{Pair, pair_rows, rows_of_pairs}
use Rattle.group_names.specs.Pieces.{length_by, joined_pieces, feature_names, own_pieces, source_pieces, partner_pieces, pair_pieces, feature_back, pair_back, pairs_back, block_with}
use Rattle.group_names.specs.Compose.{row_by, named, Composed}
use Rattle.group_names.proofs.Names.{pair-block}
use Rattle.group_names.proofs.Blocks.{row-numbers}
use Rattle.group_names.proofs.Named.{bytes_of, named-fits, named-full}
use Rattle.group_names.proofs.Joining.{past_is, all_used}

-- ---- the three names of a row: o is the output before them, a, b and c behind each

module _ (m : Tables) (p : Pair) (o : Filled ℕ) where
  pub names_three : (a b c : Filled ℕ) → c ≡ append_all (partner_pieces m p) b → b ≡ append_all (source_pieces m p) a → a ≡ append_all (own_pieces m p) o
      → c ≡ append_all (pair_pieces m p) o
  unfolding pair_pieces
  names_three a b c e f g =
      e ∙ ap (append_all (partner_pieces m p)) (f ∙ ap (append_all (source_pieces m p)) g)
      ∙ sym (all_append (source_pieces m p) (partner_pieces m p) (append_all (own_pieces m p) o))
      ∙ sym (all_append (own_pieces m p) (source_pieces m p ++ partner_pieces m p) o)

  -- where the output is full those that are not tried change nothing
  pub names_two : (a b : Filled ℕ) → b ≡ append_all (source_pieces m p) a → b.used ≡ None → a ≡ append_all (own_pieces m p) o → b ≡ append_all (pair_pieces m p) o
  names_two a b f n g = names_three a b b (past_is (partner_pieces m p) b n) f g

  pub names_one : (a : Filled ℕ) → a ≡ append_all (own_pieces m p) o → a.used ≡ None → a ≡ append_all (pair_pieces m p) o
  names_one a g n = names_two a a (past_is (source_pieces m p) a n) n g

-- the row, of which v is the connection: k is its name, j the feature's
module _ (m : Tables) (row : List ℕ) (v : ℕ) (e : v ≡ get_or row 0 0) where
  pub own_is : (k j : ℕ) → k ≡ x_name m v → j ≡ get_or row 3 0 → joined_pieces m k (j ∷ []) ≡ own_pieces m (pair_back row)
  unfolding own_pieces pair_back feature_back
  own_is k j f g = rw (f, e, g, ← get_or-drop 3 row 0 0) refl

  -- k is the group of its source, and of its destination
  pub source_is : (k : ℕ) → k ≡ x_feat m source v → joined_pieces m k (feature_names (feature_back (take (length row - 3) (drop 3 row)))) ≡ source_pieces m (pair_back row)
  unfolding source_pieces pair_back
  source_is k f = rw (f, e, take_rest row 3) refl

  pub partner_is : (k : ℕ) → k ≡ x_feat m destination v → joined_pieces m k (feature_names (feature_back (take (length row - 17) (drop 17 row)))) ≡ partner_pieces m (pair_back row)
  unfolding partner_pieces pair_back
  partner_is k f = rw (f, e, take_rest row 17) refl

-- all three found room
module _ (m : Tables) (row row' : List ℕ) (a b c : ℕ) (e : row' ≡ block_with (pair_back row) a b c) where
  pub row_told : (u v w : Option ℕ) → Some a ≡ length_by u (own_pieces m (pair_back row)) → Some b ≡ length_by v (source_pieces m (pair_back row))
      → Some c ≡ length_by w (partner_pieces m (pair_back row)) → row' ≡ row_by w m row
  unfolding length_by row_by
  row_told None v w f g h = absurd (none-some a (sym f))
  row_told (Some i) None w f g h = absurd (none-some b (sym g))
  row_told (Some i) (Some j) None f g h = absurd (none-some c (sym h))
  row_told (Some i) (Some j) (Some k) f g h =
      e ∙ rw (same_Some _ _ f, same_Some _ _ g, same_Some _ _ h) (sym (pair-block m (pair_back row)))

-- ---- the loop over the matches

row-length : (m : Tables) (p : Pair) → length (each group_block (pair_rows m p)) ≡ row_numbers
row-length m p = ap length (pair-block m p) ∙ row-numbers p (length (together (own_pieces m p))) (length (together (source_pieces m p))) (length (together (partner_pieces m p)))

-- the matches read from place i of the rows on
abbrev pub left_at : ℕ → ℕ → List ℕ → List Pair
left_at count i rows = pairs_back (count - i) (drop (i * row_numbers) rows)

-- with the names of matches behind what is used, and with their rows from a place on
abbrev pub with_names : Tables → List Pair → Filled ℕ → Filled ℕ
with_names m ps o = append_all (each (pair_pieces m) ps) o

abbrev pub with_rows : Tables → List Pair → List ℕ → ℕ → List ℕ
with_rows m ps rows place = sets rows place (each group_block (rows_of_pairs m ps))

-- composing what is left, as things are now, leaves what composing all leaves; so much of the output is used
pub record Left (m : Tables) (rows₀ names₀ : List ℕ) (count : ℕ) (rows : List ℕ) (o : Filled ℕ) (i : ℕ) : Type 0 where
  pub used : ℕ
  pub is_used : o.used ≡ Some used
  pub within : used ≤ length o.holds
  pub size : length rows ≡ length rows₀
  pub to-names : with_names m (left_at count i rows) o ≡ with_names m (pairs_back count rows₀) (filled names₀ (Some 0))
  pub to-rows : with_rows m (named m (length o.holds - used) (left_at count i rows)) rows (i * row_numbers) ≡ with_rows m (named m (length names₀) (pairs_back count rows₀)) rows₀ 0

-- the same, by what the output and the rows are known to be
pub composed_as : {m : Tables} {ps : List Pair} {rows₀ names₀ rows rows' : List ℕ} {o o' : Filled ℕ} → Composed m ps rows₀ names₀ o.used rows o.holds
    → o' ≡ o → rows' ≡ rows → Composed m ps rows₀ names₀ o'.used rows' o'.holds
composed_as w e f = record { in-names = e ∙ w.in-names; in_rows = f ∙ w.in_rows }

module _ (m : Tables) (rows₀ names₀ : List ℕ) (count : ℕ) where
  module _ (rows : List ℕ) (o : Filled ℕ) (i : ℕ) (l : Left m rows₀ names₀ count rows o i) where
    -- nothing is left
    pub left_end : count ≤ i → Composed m (pairs_back count rows₀) rows₀ names₀ o.used rows o.holds
    unfolding pairs_back append_all named rows_of_pairs
    left_end h =
        let e : count - i ≡ 0 = omega (arith, h) in
        let none : left_at count i rows ≡ [] = ap (λ (k : ℕ). pairs_back k (drop (i * row_numbers) rows)) e in
        record {
          in-names = ap (λ (ps : List Pair). with_names m ps o) (sym none) ∙ l.to-names;
          in_rows = ap (λ (ps : List Pair). with_rows m (named m (length o.holds - l.used) ps) rows (i * row_numbers)) (sym none) ∙ l.to-rows;
        }

    -- the match at place i is tried: z is the output of names then, and row' what stands in its place
    module _ (h : i < count) (fits : count * row_numbers ≤ length rows₀) (n : ℕ) (s : n ≡ row_numbers) (row' : List ℕ) (z : Filled ℕ) where
      abbrev row : List ℕ
      row = take n (drop (i * row_numbers) rows)

      abbrev rows' : List ℕ
      rows' = put_mid (i * row_numbers) n rows row'

      abbrev others : List Pair
      others = left_at count (i + 1) rows

      next : left_at count i rows ≡ pair_back row ∷ others
      unfolding pairs_back
      next =
          let e : count - i ≡ suc (count - (i + 1)) = omega (arith, h) in
          let f : i * row_numbers + row_numbers ≡ (i + 1) * row_numbers = omega arith in
          ap (λ (k : ℕ). pairs_back k (drop (i * row_numbers) rows)) e
          ∙ ap₂ (λ (k : ℕ) (q : List ℕ). pair_back (take k (drop (i * row_numbers) rows)) ∷ pairs_back (count - (i + 1)) q) (sym s)
          (drop-drop row_numbers (i * row_numbers) rows ∙ ap (λ (k : ℕ). drop k rows) f)

      module _ (e : z ≡ append_all (pair_pieces m (pair_back row)) o) where
        from_used : z ≡ append_all (pair_pieces m (pair_back row)) (filled o.holds (Some l.used))
        from_used = subst (λ (u : Option ℕ). z ≡ append_all (pair_pieces m (pair_back row)) (filled o.holds u)) l.is_used e

        -- its names are put
        names-turn : with_names m others z ≡ with_names m (pairs_back count rows₀) (filled names₀ (Some 0))
        names-turn =
            ap (with_names m others) e
            ∙ sym (all_append (pair_pieces m (pair_back row)) (each (pair_pieces m) others) o)
            ∙ ap (λ (ps : List Pair). with_names m ps o) (sym next)
            ∙ l.to-names

        -- there is no room for them, and so for none behind them
        left-full : z.used ≡ None → row' ≡ row → Composed m (pairs_back count rows₀) rows₀ names₀ z.used rows' z.holds
        unfolding rows_of_pairs
        left-full k r =
            let past : length o.holds - l.used < bytes_of m (pair_back row) = go (dec_le (l.used + bytes_of m (pair_back row)) (length o.holds)) in
            let none : named m (length o.holds - l.used) (left_at count i rows) ≡ [] = ap (named m (length o.holds - l.used)) next ∙ named-full m (length o.holds - l.used) (pair_back row) others past in
            let same : rows' ≡ rows
            = ap (λ (q : List ℕ). take (i * row_numbers) rows ++ (q ++ drop n (drop (i * row_numbers) rows))) r
            ∙ ap (λ (q : List ℕ). take (i * row_numbers) rows ++ q) (take-append-drop n (drop (i * row_numbers) rows))
            ∙ take-append-drop (i * row_numbers) rows in
            record {
              in-names = past_is (each (pair_pieces m) others) z k ∙ names-turn;
              in_rows = same ∙ ap (λ (ps : List Pair). with_rows m ps rows (i * row_numbers)) (sym none) ∙ l.to-rows;
            }
          where
            go : Dec (l.used + bytes_of m (pair_back row) ≤ length o.holds) → length o.holds - l.used < bytes_of m (pair_back row)
            go (no f) = omega (arith, f, l.within)
            go (yes f) =
                let all = all_fit (pair_pieces m (pair_back row)) o.holds l.used f in
                absurd (none-some (l.used + bytes_of m (pair_back row)) (sym k ∙ ap (λ (x : Filled ℕ). x.used) (from_used ∙ all)))

        -- the row is in its place
        left-turn : (k : ℕ) → z.used ≡ Some k → row' ≡ each group_block (pair_rows m (pair_back row)) → Left m rows₀ names₀ count rows' z (i + 1)
        unfolding rows_of_pairs
        left-turn k u r =
            let block : List ℕ = each group_block (pair_rows m (pair_back row)) in
            let long : length block ≡ row_numbers = row-length m (pair_back row) in
            let places : i * row_numbers + length block ≡ (i + 1) * row_numbers = omega (arith, long) in
            let room : i * row_numbers + length block ≤ length rows = omega (arith, h, fits, long, l.size) in
            let put : rows' ≡ sets rows (i * row_numbers) block
            = ap₂ (λ (q : List ℕ) (j : ℕ). take (i * row_numbers) rows ++ (q ++ drop j (drop (i * row_numbers) rows))) r (s ∙ sym long)
            ∙ ap (λ (q : List ℕ). take (i * row_numbers) rows ++ (block ++ q)) (drop-drop (length block) (i * row_numbers) rows)
            ∙ sym (append_assoc (take (i * row_numbers) rows) block (drop (i * row_numbers + length block) rows))
            ∙ sym (sets-eq block rows (i * row_numbers) room) in
            let same : left_at count (i + 1) rows' ≡ others
            = ap (left_at count (i + 1)) put ∙ ap (pairs_back (count - (i + 1))) (sets_behind block rows ((i + 1) * row_numbers) (i * row_numbers) (omega (arith, places))) in
            let ends : k ≡ l.used + bytes_of m (pair_back row)
            = all_used (pair_pieces m (pair_back row)) o.holds l.used k (sym (ap (λ (x : Filled ℕ). x.used) from_used) ∙ u) in
            let size : length z.holds ≡ length o.holds = ap (λ (x : Filled ℕ). length x.holds) e ∙ all-length (pair_pieces m (pair_back row)) o in
            let within : k ≤ length z.holds = subst (λ (v : Option ℕ). IfSome v (λ j. j ≤ length z.holds)) u (subst Within (sym from_used) (all-within (pair_pieces m (pair_back row)) (filled o.holds (Some l.used)) l.within)) in
            let left : length z.holds - k ≡ length o.holds - l.used - bytes_of m (pair_back row) = omega (arith, ends, size) in
            let rest : List Pair = named m (length o.holds - l.used - bytes_of m (pair_back row)) others in
            let all : named m (length o.holds - l.used) (left_at count i rows) ≡ pair_back row ∷ rest
            = ap (named m (length o.holds - l.used)) next ∙ named-fits m (length o.holds - l.used) (pair_back row) others (omega (arith, within, size, ends)) in
            record {
              used = k;
              is_used = u;
              within = within;
              size = ap length put ∙ length-sets rows (i * row_numbers) block ∙ l.size;
              to-names = ap (λ (ps : List Pair). with_names m ps z) same ∙ names-turn;
              to-rows = ap₂ (λ (j : ℕ) (ps : List Pair). with_rows m (named m j ps) rows' ((i + 1) * row_numbers)) left same
                  ∙ ap₂ (with_rows m rest) put (sym places)
                  ∙ sym (sets-append block (each group_block (rows_of_pairs m rest)) rows (i * row_numbers))
                  ∙ ap (sets rows (i * row_numbers)) (sym (each_append group_block (pair_rows m (pair_back row)) (rows_of_pairs m rest)))
                  ∙ ap (λ (ps : List Pair). with_rows m ps rows (i * row_numbers)) (sym all)
                  ∙ l.to-rows;
            }

        -- by what is told: r is how much is used then
        pub left_stops : (r : Option ℕ) → is_some r ≡ false → r ≡ z.used → row' ≡ row_by r m row → Composed m (pairs_back count rows₀) rows₀ names₀ z.used rows' z.holds
        unfolding row_by
        left_stops None b u e = left-full (sym u) e
        left_stops (Some k) b u e = absurd (false≢true (sym b))

        pub left_goes : (r : Option ℕ) → is_some r ≡ true → r ≡ z.used → row' ≡ row_by r m row → Left m rows₀ names₀ count rows' z (i + 1)
        unfolding row_by
        left_goes None b u e = absurd (false≢true b)
        left_goes (Some k) b u e = left-turn k (sym u) e
