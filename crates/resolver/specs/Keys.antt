-- "Hashing becomes a scan for equal folded names": what the scan tests. Assumes nothing.
use Rattle.std.specs.Prelude.{Bool, true, ◌&&◌, List, ℕ, ◌+◌, ◌*◌, ◌/◌, eqb, length, get_or}
use Rattle.as5506.specs.Lists.{up_to, keep}
use Rattle.as5506.specs.Tables.{Tables, name_of}
use Rattle.as5506.specs.Names.{same_folded}
use Rattle.resolver.specs.declared.Part.{Part}
use Rattle.resolver.specs.declared.Part.TheVariants.{Number, Name, Any}
use Rattle.resolver.specs.declared.Key.{Key}

-- whether a field v is what a part of a key asks for
unfoldable pub has_part : Tables → ℕ → Part → Bool
has_part m v (Number k) = eqb v k
has_part m v (Name k) = same_folded (name_of m v) (name_of m k)
has_part m v Any = true

-- whether the row that starts at a place of a table has a key, in its first three fields
unfoldable pub has_key : Tables → List ℕ → ℕ → Key → Bool
has_key m table place key =
    has_part m (get_or table (place + 0) 0) key.0 && (has_part m (get_or table (place + 1) 0) key.1 && has_part m (get_or table (place + 2) 0) key.2)

-- the same of row i, in rows of a width
abbrev pub row_has_key : Tables → List ℕ → ℕ → Key → ℕ → Bool
row_has_key m table width key i = has_key m table (i * width) key

-- the rows that have it, ascending
abbrev pub rows_with_key : Tables → List ℕ → ℕ → Key → List ℕ
rows_with_key m table width key = keep (row_has_key m table width key) (up_to (length table / width))
