-- Keys of names: numbers that differ only where the names differ folded. Assumes nothing.
use Rattle.std.specs.Prelude.{◌≡◌, List, [], ◌∷◌, ℕ, ◌+◌, ◌*◌, ◌%◌, ◌<◌, ◌≤◌, length, get_or}
use Rattle.as5506.specs.Tables.{Tables, name_of, c_count, c_name}
use Rattle.as5506.specs.Names.{fold_byte, base_name}

-- the key of bytes behind others, of which the key is h
unfoldable pub key_from : ℕ → List ℕ → ℕ
key_from h [] = h
key_from h (b ∷ bs) = key_from ((h * 31 + fold_byte b) % 65536) bs

abbrev pub key_of : List ℕ → ℕ
key_of s = key_from 0 s

-- the key of component i: of its name up to a bracket
abbrev pub component_key : Tables → ℕ → ℕ
component_key m i = key_of (base_name (name_of m (c_name m i)))

-- a table has the keys of the components below k
pub record KeyedBelow (m : Tables) (keys : List ℕ) (k : ℕ) : Type 0 where
  pub room : c_count m ≤ length keys
  pub are : (i : ℕ) → i < k → get_or keys i 0 ≡ component_key m i

-- of all components
abbrev pub Keyed : Tables → List ℕ → Type 0
Keyed m keys = KeyedBelow m keys (c_count m)
