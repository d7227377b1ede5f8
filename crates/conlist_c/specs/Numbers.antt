-- Answers as numbers. Assumes nothing.
use Rattle.std.specs.Prelude.{cond, List, [], ◌∷◌, ℕ, ◌-◌, Result, Ok, Err}
use Rattle.as5506.specs.Lists.{zeros}
use Rattle.as5506.specs.declared.Refusal.{Refusal}
use Rattle.as5506.specs.declared.Listed.{Listed}
use Rattle.sheet.specs.declared.Counts.{Counts}
use Rattle.feature_group.specs.declared.Expanded.{Expanded}
use Rattle.listing.specs.declared.Both.{Both}
use Rattle.operation_modes.specs.declared.Modes.{Modes}
use Rattle.operation_modes.specs.declared.Selected.{Selected}

-- n numbers of a refusal: its number, which is never 0, its place and its letter, and zeros
abbrev pub refused_numbers : ℕ → Refusal → List ℕ
refused_numbers n r = r.number ∷ r.place ∷ r.letter ∷ zeros (n - 3)

-- n numbers of an answer, where so many stand for what is given
abbrev pub answer_numbers : {A : Type 0} → ℕ → (A → List ℕ) → Result A Refusal → List ℕ
answer_numbers n numbers (Ok a) = numbers a
answer_numbers n numbers (Err r) = refused_numbers n r

-- ---- what is given, behind a 0

abbrev pub none_numbers : Unit {0} → List ℕ
none_numbers u = zeros 3

-- what was read
abbrev pub read_numbers : Counts → List ℕ
read_numbers k = 0 ∷ k.bytes ∷ k.n ∷ k.c ∷ k.f ∷ k.x ∷ k.p ∷ k.i ∷ k.t ∷ k.q ∷ k.u ∷ k.e ∷ k.r ∷ k.m ∷ []

-- how many features there are, and how many visits were made
abbrev pub expanded_numbers : Expanded → List ℕ
expanded_numbers x = 0 ∷ x.features ∷ x.visits ∷ []

-- how many rows and diagnostics there are
abbrev pub listed_numbers : Listed → List ℕ
listed_numbers l = 0 ∷ l.rows ∷ l.diagnostics ∷ []

-- the same of both listings
abbrev pub both_numbers : Both → List ℕ
both_numbers b = 0 ∷ b.traced.rows ∷ b.traced.diagnostics ∷ b.group.rows ∷ b.group.diagnostics ∷ []

-- how many selections of modes there are, and 1 where the list was cut
abbrev pub modes_numbers : Modes → List ℕ
modes_numbers s = 0 ∷ s.number ∷ cond s.cut 1 0 ∷ []

-- how many rows the selection has, and how many bytes its joined name
abbrev pub selected_numbers : Selected → List ℕ
selected_numbers s = 0 ∷ s.rows ∷ s.bytes ∷ []
