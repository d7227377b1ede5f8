-- The words of 02 (ix): where two limits on the steps of a chain give one list. Assumes nothing.
use Rattle.std.specs.Prelude.{◌↔◌, ◌⊎◌, ◌≡◌, map, ℕ, ◌≤◌, min}
use Rattle.as5506.specs.Tables.{Tables}
use Rattle.as5506.specs.Names.{Comparison}
use Rattle.as5506.specs.Answers.{given}
use Rattle.as5506.specs.Tracing.{shown, largest_limit}
use Rattle.as5506.specs.Followed.{NoneHasNext}
use Rattle.as5506.specs.Listing.{Room, TracedList, traced_answer}
use Rattle.as5506.specs.Program.{conlist_text}

-- "exactly when they are the same number or no followed chain has a step beyond the smaller"
abbrev pub OneReach : Comparison → ℕ → ℕ → Tables → Type 0
OneReach same a b m = (a ≡ b) ⊎ NoneHasNext same (min a b) m

-- "For two limits, the lists are equal exactly when ..": the rows with the bytes of their names, and the lists as numbers, diagnostics included. "Both must
-- fit", each in room of its own
abbrev pub TwoLimits : Type 0
TwoLimits =
    (same : Comparison) (m : Tables) (a b links links' : ℕ) (room room' : Room) (l l' : TracedList)
    → traced_answer same a links room m ≡ given l → traced_answer same b links' room' m ≡ given l'
    → ((map (shown m) l.rows ≡ map (shown m) l'.rows) ↔ OneReach same a b m) × ((l ≡ l') ↔ OneReach same a b m)

-- Then they also print one text, lists, diagnostics or the line of a refusal, whatever the tables and the room for it
abbrev pub OneTextUnderBoth : Type 0
OneTextUnderBoth =
    (same : Comparison) (m : Tables) (a b n : ℕ) → a ≤ largest_limit → b ≤ largest_limit → OneReach same a b m → conlist_text same a n m ≡ conlist_text same b n m
