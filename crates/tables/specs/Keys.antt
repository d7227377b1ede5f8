-- The keys of the letters, as rule 9 has them. Assumes nothing.
use Rattle.std.specs.Prelude.{ℕ, [], ◌∷◌}
use Rattle.as5506.specs.Tables.{Tables, p_name, t_package, t_name, q_package, q_type, q_impl, u_package, u_name, r_package, r_what, r_alias}
use Rattle.as5506.specs.Names.{key}
use Rattle.as5506.specs.Refusals.{Key}

abbrev pub key_p : Tables → ℕ → Key
key_p m i = key m (p_name m i) ∷ []

abbrev pub key_t : Tables → ℕ → Key
key_t m i = (t_package m i ∷ []) ∷ key m (t_name m i) ∷ []

abbrev pub key_q : Tables → ℕ → Key
key_q m i = (q_package m i ∷ []) ∷ key m (q_type m i) ∷ key m (q_impl m i) ∷ []

abbrev pub key_u : Tables → ℕ → Key
key_u m i = (u_package m i ∷ []) ∷ key m (u_name m i) ∷ []

abbrev pub key_r : Tables → ℕ → Key
key_r m i = (r_package m i ∷ r_what m i ∷ []) ∷ key m (r_alias m i) ∷ []
