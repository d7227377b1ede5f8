-- What an expansion does to what a walk carries, feature by feature, unless it has too many visits. Assumes nothing.
use Rattle.std.specs.Prelude.{Bool, true, false, ◌≡◌, List, [], ◌∷◌, ℕ, ◌+◌, leb, length, Option, Some, None}
use Rattle.as5506.specs.Groups.{Feature, Expansion}
use Rattle.lent.specs.Append.{Stays, Within}
use Rattle.sink.specs.Take.{Held}

-- what a feature does
abbrev pub Take : Type 0
Take = Feature → Held → Held

-- features, one after the other
unfoldable pub take_all : Take → List Feature → Held → Held
take_all take [] h = h
take_all take (f ∷ fs) h = take_all take fs (take f h)

-- "Over 65,536 the expansion stops"
abbrev pub visit_limit : ℕ
visit_limit = 65536

-- a walk: too many visits, or what it carries and the visits so far
pub data State : Type 0 where
  over : State
  going : Held → ℕ → State

unfoldable pub going_by : Bool → Held → ℕ → State
going_by true h visits = going h visits
going_by false h visits = over

-- the walk over an expansion
unfoldable pub run : Take → State → Expansion → State
run take over x = over
run take (going h visits) x = going_by (leb (visits + x.visits) visit_limit) (take_all take x.features h) (visits + x.visits)

-- the state that an answer tells, with what is carried then
unfoldable pub state_of : Option ℕ → Held → State
state_of None h = over
state_of (Some visits) h = going h visits

-- whatever the answer, what stood in the outputs before a walk stays there: it writes behind what is used; what is used of each output stays within
-- it; and the memory and the outputs stay as long as they were
pub record Behind (h t : Held) : Type 0 where
  pub in-out : Stays h.out t.out
  pub in-notes : Stays h.notes t.notes
  pub within-out : Within h.out → Within t.out
  pub within-notes : Within h.notes → Within t.notes
  pub length-memo : length t.memo ≡ length h.memo
  pub length-out : length t.out.holds ≡ length h.out.holds
  pub length-notes : length t.notes.holds ≡ length h.notes.holds
