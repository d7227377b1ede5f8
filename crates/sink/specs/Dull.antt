-- A feature that changes nothing any more: what a walk may pass over, knowing only how many visits it makes there. Assumes nothing.
use Rattle.std.specs.Prelude.{◌≡◌, ℕ, ◌≤◌, length, get_or, set, Option, Some, None}
use Rattle.as5506.specs.Tables.{Tables}
use Rattle.lent.specs.Append.{Filled}
use Rattle.sink.specs.declared.Purpose.{Purpose}
use Rattle.sink.specs.declared.Purpose.TheVariants.{Count, All, First, Match}
use Rattle.sink.specs.Take.{Held, partner_of, code_of}

-- nothing more finds room in an output
abbrev pub Full : Filled ℕ → Type 0
Full o = o.used ≡ None

-- where a feature writes that has a partner, or has none
abbrev pub DullMatch : Option ℕ → Held → Type 0
DullMatch None h = Full h.notes
DullMatch (Some i) h = Full h.out

-- a feature of this name, whatever its kind, direction and prefix. A name that the memory has no place for never counts as come
unfoldable pub Dull : Purpose → Tables → ℕ → Held → Type 0
Dull Count m name h = Unit {0}
Dull All m name h = Full h.out
Dull First m name h = get_or h.memo name 0 ≡ 0 → Full h.out × (length h.memo ≤ name)
Dull (Match k) m name h =
    (set h.memo name (code_of (partner_of m k.kept.now name)) ≡ h.memo) × DullMatch (partner_of m k.kept.now name) h
