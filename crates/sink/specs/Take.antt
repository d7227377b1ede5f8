-- What is done with a feature of an expansion: for each purpose of a walk. Assumes nothing.
use Rattle.std.specs.Prelude.{Bool, true, false, ◌≡◌, List, ◌∷◌, ◌++◌, ℕ, zero, suc, ◌+◌, ◌-◌, ◌*◌, ◌/◌, ◌≤◌, eqb, length, get_or, take, drop, set, Option, Some, None}
use Rattle.as5506.specs.Lists.{keep, up_to, first_of, zeros, same_bytes}
use Rattle.as5506.specs.Tables.{Tables}
use Rattle.as5506.specs.Names.{key}
use Rattle.as5506.specs.Groups.{Feature as Meant}
use Rattle.as5506.specs.Rows.{diag}
use Rattle.as5506.specs.Layout.{row_numbers, feature_numbers, feature_block, diag_block}
use Rattle.lent.specs.Append.{Filled, filled, append}
use Rattle.sink.specs.declared.feature.Feature.{Feature}
use Rattle.sink.specs.declared.Matching.{Matching}
use Rattle.sink.specs.declared.Sink.{Sink}
use Rattle.sink.specs.declared.Tally.{Tally}
use Rattle.sink.specs.declared.Purpose.{Purpose}
use Rattle.sink.specs.declared.Purpose.TheVariants.{Count, All, First, Match}

-- nothing is used of the outputs yet
abbrev pub nothing_used : Tally
nothing_used = record { used = Some 0; noted = Some 0 }

-- the definition's feature for the code's
abbrev pub feature_of : Feature → Meant
feature_of f = record { name = f.name; kind = f.kind; direction = f.direction; prefix = f.prefix.now }

-- what a walk carries: a number for each name, the output of features or rows, and that of diagnostics
pub record Held : Type 0 where
  pub memo : List ℕ
  pub out : Filled ℕ
  pub notes : Filled ℕ

abbrev pub held : Sink → Held
held s = record { memo = s.memo.now; out = filled s.out.now s.tally.used; notes = filled s.notes.now s.tally.noted }

-- whether two are in the same lent slices
pub record SameBuffers (s t : Sink) : Type 0 where
  pub memo : t.memo.ghost_name ≡ s.memo.ghost_name
  pub out : t.out.ghost_name ≡ s.out.ghost_name
  pub notes : t.notes.ghost_name ≡ s.notes.ghost_name

-- ---- first appearances: a feature whose name has not come yet

unfoldable pub first_by : Bool → Meant → Held → Held
first_by true f h = record { memo = set h.memo f.name 1; out = append (feature_block f) h.out; notes = h.notes }
first_by false f h = h

-- ---- matching against the features that were kept: `kept` holds a block for each

abbrev pub kept_count : List ℕ → ℕ
kept_count kept = length kept / feature_numbers

-- the name of the feature that was kept at place i, and its block
abbrev pub kept_name : List ℕ → ℕ → ℕ
kept_name kept i = get_or kept (i * feature_numbers) 0

abbrev pub kept_block : List ℕ → ℕ → List ℕ
kept_block kept i = take feature_numbers (drop (i * feature_numbers) kept)

-- "the first destination feature whose last name is equal folded": its place among those that were kept
unfoldable pub partner_of : Tables → List ℕ → ℕ → Option ℕ
partner_of m kept name = first_of (keep (λ i. same_bytes (key m name) (key m (kept_name kept i))) (up_to (kept_count kept)))

-- the numbers of a row that a match leaves unused
abbrev pub spare_numbers : ℕ
spare_numbers = row_numbers - (3 + feature_numbers + feature_numbers)

-- a match, until its names are composed: connection, both components, the blocks of the source and of the destination feature, in the places
-- of a row
unfoldable pub match_block : ℕ → ℕ → ℕ → List ℕ → List ℕ → List ℕ
match_block conn src dst s d = conn ∷ src ∷ dst ∷ (s ++ d ++ zeros spare_numbers)

-- how the memory keeps an answer: 0 is kept of no answer
abbrev pub code_of : Option ℕ → ℕ
code_of None = 1
code_of (Some i) = i + 2

unfoldable pub match_by : Option ℕ → Matching → Meant → Held → Held
match_by None k f h = record { memo = set h.memo f.name 1; out = h.out; notes = append (diag_block (diag 5 k.connection f.name 0)) h.notes }
match_by (Some i) k f h =
    record {
      memo = set h.memo f.name (i + 2);
      out = append (match_block k.connection k.source k.destination (feature_block f) (kept_block k.kept.now i)) h.out;
      notes = h.notes;
    }

-- ---- WHAT A FEATURE DOES, by the purpose of the walk

unfoldable pub taken : Purpose → Tables → Meant → Held → Held
taken Count m f h = h
taken All m f h = record { memo = h.memo; out = append (feature_block f) h.out; notes = h.notes }
taken First m f h = first_by (eqb (get_or h.memo f.name 0) 0) f h
taken (Match k) m f h = match_by (partner_of m k.kept.now f.name) k f h

-- ---- what a walk relies on, and every feature keeps

-- what a number of the memory says of an answer
abbrev pub Remembered : ℕ → Option ℕ → Type 0
Remembered zero a = Unit {0}
Remembered (suc k) a = suc k ≡ code_of a

-- the answer that such a number keeps, if it keeps one
abbrev pub answer_of : ℕ → Option (Option ℕ)
answer_of zero = None
answer_of (suc zero) = Some None
answer_of (suc (suc i)) = Some (Some i)

-- what the memory keeps of a name is the search's answer
unfoldable pub Memory : Tables → List ℕ → List ℕ → Type 0
Memory m kept memo = (k : ℕ) → Remembered (get_or memo k 0) (partner_of m kept k)

unfoldable pub Ready : Purpose → Tables → List ℕ → Type 0
Ready Count m memo = Unit {0}
Ready All m memo = Unit {0}
Ready First m memo = Unit {0}
Ready (Match k) m memo = (kept_count k.kept.now ≤ 4096) × Memory m k.kept.now memo
