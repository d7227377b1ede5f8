-- Matches as they lie in the output of rows before their names are composed, read back from there, and the numbers of their rows. Assumes nothing.
use mathlib.Core.Path.{◌≡◌, refl, sym, ap, ap₂, ◌∙◌}
use mathlib.Core.List.{List, [], ◌∷◌, ◌++◌, append_assoc}
use Prim.Native.Nat.{ℕ, ◌+◌, ◌-◌, ◌≤◌, ◌<◌, min}
use native.Mathlib.Nat.{add-zero, min-le_left, min-eq_left, min-eq_right}
use native.Mathlib.Omega.{arith}
use lib.ListN.{length, take, drop, get_or, length-append, length-replicate, length-take, length-drop}
use lib.Seq.{sets, take-append_seam, take_at, drop_at, length-take-le, get_or-take, get_or-drop}
use Rattle.as5506.specs.Lists.{each, zeros, padded}
use Rattle.as5506.specs.Groups.{Feature, depth_limit}
use Rattle.as5506.specs.GroupList.{connection_kind}
use Rattle.as5506.specs.Layout.{row_numbers, feature_numbers, row_block, feature_block}
use Rattle.as5506.proofs.Laws.{All}
use Rattle.sink.specs.Take.{spare_numbers, match_block}
use Rattle.sink.proofs.Blocks.{block-length}
use Rattle.group_names.specs.Pairs.{Pair}
use Rattle.group_names.specs.Pieces.{prefix_length, feature_back, pair_back, pairs_back, block_with}

unfoldable pub pair_block : Pair → List ℕ
pair_block p = match_block p.conn p.src p.dst (feature_block p.feature) (feature_block p.partner)

-- no prefix is longer than its places
abbrev pub Short : Pair → Type 0
Short p = (length p.feature.prefix ≤ depth_limit) × (length p.partner.prefix ≤ depth_limit)

-- ---- read back

module _ (f : Feature) (h : length f.prefix ≤ 10) where
  prefix_back : (rest : List ℕ) → take (min 10 (length f.prefix)) (padded 10 f.prefix ++ rest) ≡ f.prefix
  unfolding padded
  prefix_back rest =
      ap₂ take (min-eq_right h) (append_assoc f.prefix (zeros (10 - length f.prefix)) rest)
      ∙ take-append_seam f.prefix (zeros (10 - length f.prefix) ++ rest)

  pub feature-back : (rest : List ℕ) → feature_back (feature_block f ++ rest) ≡ f
  unfolding feature_back feature_block
  feature-back rest = ap (λ (l : List ℕ). record { name = f.name; kind = f.kind; direction = f.direction; prefix = l }) (prefix_back rest)

module _ (p : Pair) (h : Short p) where
  pub pair-length : length (pair_block p) ≡ row_numbers
  unfolding pair_block match_block
  pair-length =
      let s : List ℕ = feature_block p.feature in
      let d : List ℕ = feature_block p.partner in
      omega (arith, length-append (s ++ d) (zeros spare_numbers), length-append s d, block-length p.feature h.0, block-length p.partner h.1, length-replicate {A = ℕ} spare_numbers 0)

  pub pair-back : pair_back (pair_block p) ≡ p
  unfolding pair_back pair_block match_block
  pair-back =
      let s : List ℕ = feature_block p.feature in
      let d : List ℕ = feature_block p.partner in
      let parts : s ++ d ++ zeros spare_numbers ≡ s ++ (d ++ zeros spare_numbers) = append_assoc s d (zeros spare_numbers) in
      ap₂ (λ (f g : Feature). record { conn = p.conn; src = p.src; dst = p.dst; feature = f; partner = g })
      (ap feature_back parts ∙ feature-back p.feature h.0 (d ++ zeros spare_numbers))
      (ap (λ (l : List ℕ). feature_back (drop feature_numbers l)) parts
      ∙ ap feature_back (drop_at s (d ++ zeros spare_numbers) feature_numbers (block-length p.feature h.0))
      ∙ feature-back p.partner h.1 (zeros spare_numbers))

-- those that lie one behind the other
pub pairs-back : (ps : List Pair) → All Short ps → (rest : List ℕ) → pairs_back (length ps) (each pair_block ps ++ rest) ≡ ps
unfolding pairs_back
pairs-back [] h rest = refl
pairs-back (p ∷ ps) h rest =
    let behind : List ℕ = each pair_block ps ++ rest in
    ap (λ (l : List ℕ). pair_back (take row_numbers l) ∷ pairs_back (length ps) (drop row_numbers l)) (append_assoc (pair_block p) (each pair_block ps) rest)
    ∙ ap₂ (λ (l r : List ℕ). pair_back l ∷ pairs_back (length ps) r) (take_at (pair_block p) behind row_numbers (pair-length p h.0)) (drop_at (pair_block p) behind row_numbers (pair-length p h.0))
    ∙ ap₂ ◌∷◌ (pair-back p h.0) (pairs-back ps h.1 rest)

-- ---- a feature's names in the rows

module _ (rows : List ℕ) (place : ℕ) where
  pub prefix-short : length (feature_back (drop place rows)).prefix ≤ 10
  unfolding feature_back
  prefix-short =
      let b : List ℕ = drop place rows in
      omega (arith, length-take (min 10 (get_or b 3 0)) (drop 4 b), min-le_left (min 10 (get_or b 3 0)) (length (drop 4 b)), min-le_left 10 (get_or b 3 0))

  pub prefix-length : place + feature_numbers ≤ length rows → length (feature_back (drop place rows)).prefix ≡ prefix_length (drop place rows)
  unfolding feature_back
  prefix-length h =
      let b : List ℕ = drop place rows in
      length-take-le (min 10 (get_or b 3 0)) (drop 4 b) (omega (arith, h, length-drop 4 b, length-drop place rows, min-le_left 10 (get_or b 3 0)))

  pub prefix-at : (k : ℕ) → k < prefix_length (drop place rows) → get_or (feature_back (drop place rows)).prefix k 0 ≡ get_or rows (place + 4 + k) 0
  unfolding feature_back
  prefix-at k h =
      let e : place + (4 + k) ≡ place + 4 + k = omega arith in
      get_or-take (prefix_length (drop place rows)) (drop 4 (drop place rows)) k 0 h
      ∙ get_or-drop 4 (drop place rows) k 0
      ∙ get_or-drop place rows (4 + k) 0
      ∙ ap (λ (j : ℕ). get_or rows j 0) e

  pub name-at : get_or rows place 0 ≡ (feature_back (drop place rows)).name
  unfolding feature_back
  name-at = ap (λ (j : ℕ). get_or rows j 0) (sym (add-zero place)) ∙ sym (get_or-drop place rows 0 0)

  -- how many names it has, by its number
  pub prefix-few : (v : ℕ) → v ≡ get_or rows (place + 3) 0 → v < 10 → v ≡ prefix_length (drop place rows)
  prefix-few v e h = sym (ap (min 10) (get_or-drop place rows 3 0 ∙ sym e) ∙ min-eq_right (omega (arith, h)))

  pub prefix-many : (v : ℕ) → v ≡ get_or rows (place + 3) 0 → 10 ≤ v → 10 ≡ prefix_length (drop place rows)
  prefix-many v e h = sym (ap (min 10) (get_or-drop place rows 3 0 ∙ sym e) ∙ min-eq_left h)

-- ---- the row in place of the match

row_is : (conn kind src dst a b c : ℕ) → sets (zeros row_numbers) 0 (conn ∷ kind ∷ src ∷ dst ∷ a ∷ b ∷ c ∷ 1 ∷ conn ∷ []) ≡ row_block conn kind src dst a b c (conn ∷ [])
unfolding padded
row_is conn kind src dst a b c = refl

pub row-numbers : (p : Pair) (a b c : ℕ) → length (block_with p a b c) ≡ row_numbers
unfolding block_with padded
row-numbers p a b c = refl

-- its head written from the front of zeros, as the code does
pub row_put :
    (match block row : List ℕ) (conn kind k src dst a b c : ℕ) → conn ≡ get_or match 0 0 → k ≡ get_or match (3 + 1) 0 → kind ≡ connection_kind k
    → src ≡ get_or match 1 0 → dst ≡ get_or match 2 0 → block ≡ sets (zeros row_numbers) 0 (conn ∷ kind ∷ src ∷ dst ∷ a ∷ b ∷ c ∷ 1 ∷ conn ∷ [])
    → row ≡ block → row ≡ block_with (pair_back match) a b c
unfolding pair_back feature_back block_with
row_put match block row conn kind k src dst a b c e₀ e₁ e₂ e₃ e₄ e₅ e₆ =
    let kinds : kind ≡ connection_kind (get_or (drop 3 match) 1 0) = e₂ ∙ ap connection_kind (e₁ ∙ sym (get_or-drop 3 match 1 0)) in
    e₆ ∙ e₅ ∙ row_is conn kind src dst a b c ∙ rw (e₀, e₃, e₄, kinds) refl
