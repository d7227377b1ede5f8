-- What reading a case takes from a reader whose bytes are known. Assumes nothing.
use Rattle.std.specs.Prelude.{◌≡◌, ℕ, List, [], ◌∷◌, ⊤, ◌⊎◌, length, Option, Some, None}
use Rattle.std.specs.Io.KnownBytes.{Consumes}
use Rattle.as5506.specs.Fields.{field_of, number_of}
use Rattle.stdio.specs.{Lost}

-- its next byte, or a line feed with at most one byte lost: at the end, or where reading fails
abbrev pub Taken : Option (List ℕ) → Option (List ℕ) → ℕ → Type 0
Taken old new b = Consumes old new (b ∷ []) ⊎ ((b ≡ 10) × Lost old new 1)

-- the number that its next six bytes are as a field of a sheet, or 0 with at most six bytes lost
abbrev pub TakenNumber : Option (List ℕ) → Option (List ℕ) → ℕ → Type 0
TakenNumber old new v = ((s : List ℕ) × (length s ≡ 6) × Consumes old new s × (v ≡ number_of (field_of s))) ⊎ ((v ≡ 0) × Lost old new 6)

-- the numbers that it has next, one behind the other
abbrev pub TakenNumbers : Option (List ℕ) → Option (List ℕ) → List ℕ → Type 0
TakenNumbers old new [] = old ≡ new
TakenNumbers old new (v ∷ vs) = (mid : Option (List ℕ)) × TakenNumber old mid v × TakenNumbers mid new vs

-- its next bytes, and then a line feed, or none more: where the line has no room
abbrev pub TakenLine : Option (List ℕ) → Option (List ℕ) → List ℕ → Type 0
TakenLine old new s = (mid : Option (List ℕ)) × Consumes old mid s × (Taken mid new 10 ⊎ (mid ≡ new))

-- its next byte is a V, with which a case begins, or its bytes are not known
abbrev pub Begins : Option (List ℕ) → Type 0
Begins None = ⊤
Begins (Some []) = ⊥
Begins (Some (b ∷ _)) = b ≡ 86
