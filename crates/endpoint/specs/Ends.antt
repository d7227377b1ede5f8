-- The group that an end stands for, as the definition has it, and what its features are found by. Assumes nothing.
use Rattle.std.specs.Prelude.{Bool, ◌&&◌, List, ℕ, eqb}
use Rattle.as5506.specs.Lists.{same_bytes}
use Rattle.as5506.specs.Tables.{Tables, f_name, f_owner, f_kind, e_name, e_kind, e_holder, e_holder_kind}
use Rattle.as5506.specs.Names.{key}
use Rattle.as5506.specs.Groups.{Expansion, feature_kind_group, expand}
use Rattle.endpoint.specs.declared.Group.{Group}

-- the expansion of the group that an end stands for: its type is asked for by its bare name
abbrev pub expanded : Tables → Group → Expansion
expanded m g = expand m g.package g.type_name

-- F row i is one of component c, a group, and has the key k
unfoldable pub is_group : Tables → ℕ → List ℕ → ℕ → Bool
is_group m c k i = eqb (f_owner m i) c && (eqb (f_kind m i) feature_kind_group && same_bytes (key m (f_name m i)) k)

-- E row i is one of component type t, a group, and has the key k
unfoldable pub is_declared : Tables → ℕ → List ℕ → ℕ → Bool
is_declared m t k i = eqb (e_holder m i) t && (eqb (e_holder_kind m i) 0 && (eqb (e_kind m i) feature_kind_group && same_bytes (key m (e_name m i)) k))
