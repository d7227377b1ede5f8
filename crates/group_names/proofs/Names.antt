-- Laws of the pieces: together they are the names of the definition's row, each short, and all of them are written where the output is not full.
-- Assumes nothing.
use mathlib.Core.Path.{◌≡◌, refl, sym, ap, ap₂, ◌∙◌}
use mathlib.Core.List.{List, [], ◌∷◌, ◌++◌, map, append_assoc, append-nil}
use Prim.Native.Nat.{ℕ, ◌+◌, ◌*◌, ◌≤◌}
use native.Mathlib.Omega.{arith}
use lib.ListN.{length, length-append}
use Rattle.as5506.specs.Lists.{each}
use Rattle.as5506.specs.Tables.{Tables, source, destination, name_of, x_name, x_feat}
use Rattle.as5506.specs.GroupList.{dotted, full_name, match_row}
use Rattle.as5506.specs.Listing.{row_names}
use Rattle.as5506.specs.Layout.{group_block}
use Rattle.as5506.proofs.Laws.{each_append}
use Rattle.lent.specs.Append.{together}
use Rattle.lent.proofs.Pieces.{together-append}
use Rattle.group_names.specs.Pairs.{Pair, pair_rows, rows_of_pairs, ShortNames}
use Rattle.group_names.specs.Pieces.{joined_pieces, feature_names, own_pieces, source_pieces, partner_pieces, pair_pieces, block_with}

-- ---- joined names

module _ (m : Tables) where
  -- the pieces together are the names joined by dots
  pub joined-dotted : (k : ℕ) (ks : List ℕ) → together (joined_pieces m k ks) ≡ dotted (name_of m k ∷ map (name_of m) ks)
  unfolding joined_pieces dotted
  joined-dotted k [] = append-nil (name_of m k)
  joined-dotted k (j ∷ ks) = ap (λ (r : List ℕ). name_of m k ++ (46 ∷ r)) (joined-dotted j ks)

  -- no longer than 63 bytes and 64 for each name behind the first
  pub joined-short : ShortNames m → (k : ℕ) (ks : List ℕ) → length (together (joined_pieces m k ks)) ≤ 63 + 64 * length ks
  unfolding joined_pieces
  joined-short h k [] = omega (arith, h k, length-append (name_of m k) [])
  joined-short h k (j ∷ ks) =
      let rest : List ℕ = together (joined_pieces m j ks) in
      omega (arith, h k, length-append (name_of m k) (46 ∷ rest), joined-short h j ks)

-- ---- the names of a row

three : (a b c : List (List ℕ)) → together (a ++ (b ++ c)) ≡ together a ++ together b ++ together c
three a b c =
    together-append a (b ++ c) ∙ ap (λ (r : List ℕ). together a ++ r) (together-append b c) ∙ sym (append_assoc (together a) (together b) (together c))

module _ (m : Tables) (p : Pair) where
  own_name : together (own_pieces m p) ≡ dotted (name_of m (x_name m p.conn) ∷ name_of m p.feature.name ∷ [])
  unfolding own_pieces
  own_name = joined-dotted m (x_name m p.conn) (p.feature.name ∷ [])

  source_name : together (source_pieces m p) ≡ full_name m source p.conn p.feature
  unfolding source_pieces full_name
  source_name = joined-dotted m (x_feat m source p.conn) (feature_names p.feature)

  partner-name : together (partner_pieces m p) ≡ full_name m destination p.conn p.partner
  unfolding partner_pieces full_name
  partner-name = joined-dotted m (x_feat m destination p.conn) (feature_names p.partner)

  -- the three names, one behind the other
  pub pair-names : each row_names (pair_rows m p) ≡ together (pair_pieces m p)
  unfolding pair_rows match_row row_names pair_pieces
  pair-names = append-nil _ ∙ sym (three (own_pieces m p) (source_pieces m p) (partner_pieces m p) ∙ ap₂ ◌++◌ (ap₂ ◌++◌ own_name source_name) partner-name)

  -- the row has their lengths
  pub pair-block :
      each group_block (pair_rows m p)
      ≡ block_with p (length (together (own_pieces m p))) (length (together (source_pieces m p))) (length (together (partner_pieces m p)))
  unfolding pair_rows match_row group_block block_with
  pair-block =
      let a : List ℕ = dotted (name_of m (x_name m p.conn) ∷ name_of m p.feature.name ∷ []) in
      let b : List ℕ = full_name m source p.conn p.feature in
      let c : List ℕ = full_name m destination p.conn p.partner in
      append-nil (block_with p (length a) (length b) (length c))
      ∙ sym (
      ap (λ (l : List ℕ). block_with p (length l) (length (together (source_pieces m p))) (length (together (partner_pieces m p)))) own_name
      ∙ ap₂ (λ (l k : List ℕ). block_with p (length a) (length l) (length k)) source_name partner-name
      )

-- the names of all rows
pub pairs-names : (m : Tables) (ps : List Pair) → together (each (pair_pieces m) ps) ≡ each row_names (rows_of_pairs m ps)
unfolding rows_of_pairs
pairs-names m [] = refl
pairs-names m (p ∷ ps) =
    together-append (pair_pieces m p) (each (pair_pieces m) ps)
    ∙ ap₂ ◌++◌ (sym (pair-names m p)) (pairs-names m ps)
    ∙ sym (each_append row_names (pair_rows m p) (each (pair_rows m) ps))
