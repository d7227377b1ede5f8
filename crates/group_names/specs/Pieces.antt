-- The pieces that the names of a row are written in, and a match read back from its block. Assumes nothing.
use Rattle.std.specs.Prelude.{List, [], ◌∷◌, ◌++◌, ℕ, zero, suc, min, length, get_or, take, drop, Option, Some, None}
use Rattle.as5506.specs.Lists.{each}
use Rattle.as5506.specs.Tables.{Tables, name_of, source, destination, x_name, x_feat}
use Rattle.as5506.specs.Groups.{Feature}
use Rattle.as5506.specs.GroupList.{connection_kind}
use Rattle.as5506.specs.Layout.{row_numbers, row_block}
use Rattle.lent.specs.Append.{together}
use Rattle.group_names.specs.Pairs.{Pair}

-- a dot and name k
abbrev pub dot_pieces : Tables → ℕ → List (List ℕ)
dot_pieces m k = (46 ∷ []) ∷ name_of m k ∷ []

-- name k, then each of the names ks behind a dot
unfoldable pub joined_pieces : Tables → ℕ → List ℕ → List (List ℕ)
joined_pieces m k ks = name_of m k ∷ each (dot_pieces m) ks

-- the names of a feature behind its group's
abbrev pub feature_names : Feature → List ℕ
feature_names f = f.prefix ++ (f.name ∷ [])

-- "connection.feature"
unfoldable pub own_pieces : Tables → Pair → List (List ℕ)
own_pieces m p = joined_pieces m (x_name m p.conn) (p.feature.name ∷ [])

-- "group.prefix.feature", of the source and of the destination
unfoldable pub source_pieces : Tables → Pair → List (List ℕ)
source_pieces m p = joined_pieces m (x_feat m source p.conn) (feature_names p.feature)

unfoldable pub partner_pieces : Tables → Pair → List (List ℕ)
partner_pieces m p = joined_pieces m (x_feat m destination p.conn) (feature_names p.partner)

unfoldable pub pair_pieces : Tables → Pair → List (List ℕ)
pair_pieces m p = own_pieces m p ++ (source_pieces m p ++ partner_pieces m p)

-- how long pieces are together, told where all found room: by how much of their output is used then
unfoldable pub length_by : Option ℕ → List (List ℕ) → Option ℕ
length_by None ps = None
length_by (Some k) ps = Some (length (together ps))

-- ---- read back from numbers that begin with the block

-- how many names of the prefix there are, at most its ten places
abbrev pub prefix_length : List ℕ → ℕ
prefix_length b = min 10 (get_or b 3 0)

unfoldable pub feature_back : List ℕ → Feature
feature_back b = record { name = get_or b 0 0; kind = get_or b 1 0; direction = get_or b 2 0; prefix = take (prefix_length b) (drop 4 b) }

unfoldable pub pair_back : List ℕ → Pair
pair_back b =
    record { conn = get_or b 0 0; src = get_or b 1 0; dst = get_or b 2 0; feature = feature_back (drop 3 b); partner = feature_back (drop 17 b) }

-- a match's row, given the lengths of its names
unfoldable pub block_with : Pair → ℕ → ℕ → ℕ → List ℕ
block_with p a b c = row_block p.conn (connection_kind p.feature.kind) p.src p.dst a b c (p.conn ∷ [])

-- the matches that the first `count` rows of an output are read as
unfoldable pub pairs_back : ℕ → List ℕ → List Pair
pairs_back zero rows = []
pairs_back (suc count) rows = pair_back (take row_numbers rows) ∷ pairs_back count (drop row_numbers rows)
