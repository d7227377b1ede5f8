-- The records of a list of numbers, four numbers to a record, and the record of a diagnostic. Assumes nothing.
use Rattle.std.specs.Prelude.{List, [], ◌∷◌, ◌++◌, map, ℕ, zero, suc, ◌+◌, ◌-◌, ◌*◌, length, get_or, replicate}
use Rattle.as5506.specs.Answers.{Answer, given, refused}
use Rattle.as5506.specs.Rows.{Diag}
use Rattle.conlist_c.specs.declared.diagnostic.Diagnostic.{Diagnostic}

-- record i: the four numbers from 4 * i on, 0 past the end
unfoldable pub record_at : List ℕ → ℕ → Diagnostic
record_at ns i = record { code = get_or ns (i * 4) 0; connection = get_or ns (i * 4 + 1) 0; first = get_or ns (i * 4 + 2) 0; second = get_or ns (i * 4 + 3) 0 }

-- n records, from record i on
unfoldable pub records_from : List ℕ → ℕ → ℕ → List Diagnostic
records_from ns i zero = []
records_from ns i (suc n) = record_at ns i ∷ records_from ns (suc i) n

-- a diagnostic of the definition, field by field
unfoldable pub record_of : Diag → Diagnostic
record_of d = record { code = d.code; connection = d.conn; first = d.one; second = d.two }

-- a record of zeros
abbrev pub blank : Diagnostic
blank = record { code = 0; connection = 0; first = 0; second = 0 }

-- ---- the caller's n records afterwards. "A refusal leaves zeros .. After success unused output is zero"

abbrev pub records : ℕ → {A : Type 0} → (A → List Diag) → Answer A → List Diagnostic
records n diags (given a) = map record_of (diags a) ++ replicate (n - length (diags a)) blank
records n diags (refused r) = replicate n blank
