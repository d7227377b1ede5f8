-- The bad rows of rule 8, by letter. Assumes nothing.
use Rattle.std.specs.Prelude.{Bool, ◌||◌, ℕ}
use Rattle.as5506.specs.Tables.{Tables, source, destination, u_extends, u_inverse_of, e_classifier}
use Rattle.as5506.specs.Refusals.{bad_end, bad_ref}

abbrev pub bad_ends : Tables → ℕ → Bool
bad_ends m i = bad_end m source i || bad_end m destination i

abbrev pub bad_references : Tables → ℕ → Bool
bad_references m i = bad_ref (u_extends m i) || bad_ref (u_inverse_of m i)

abbrev pub bad_classifier : Tables → ℕ → Bool
bad_classifier m i = bad_ref (e_classifier m i)
