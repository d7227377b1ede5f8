-- What a walk knows already: group types below which nothing changes any more, with the number of visits made there. Assumes nothing.
use Rattle.std.specs.Prelude.{Bool, ◌≡◌, List, ℕ, zero, suc, ◌+◌, ◌*◌, ◌<◌, get_or, Option, Some, None}
use Rattle.as5506.specs.Followed.{In}
use Rattle.as5506.specs.Groups.{Feature, Expansion, depth_limit}
use Rattle.links.specs.Walk.{Groups, visit_link}
use Rattle.sink.specs.Take.{Held}

-- a test of names, by what a walk carries
abbrev pub Dullness : Type 1
Dullness = ℕ → Held → Type 0

-- an expansion of which no feature does anything
abbrev pub AllDull : Dullness → Held → Expansion → Type 0
AllDull dull h x = (f : Feature) → In f x.features → dull f.name h

-- what a number says of a visit of group type u with b levels below it: 0 nothing; else that it makes so many visits and changes nothing
unfoldable pub CalmAt : Groups → Dullness → Held → ℕ → ℕ → ℕ → Type 0
CalmAt g dull h u b zero = Unit {0}
CalmAt g dull h u b (suc k) =
    (inverse : Bool) (prefix : List ℕ) → ((visit_link g (suc b) u inverse prefix).visits ≡ suc k) × AllDull dull h (visit_link g (suc b) u inverse prefix)

-- how many visits may lie one inside the other
abbrev pub levels : ℕ
levels = suc depth_limit

-- a number for each group type and level: what a walk relies on, and keeps unless it is over
unfoldable pub Calm : Groups → Dullness → Held → List ℕ → Type 0
Calm g dull h calm = (u b : ℕ) → b < levels → CalmAt g dull h u b (get_or calm (u * levels + b) 0)

-- what an answer leaves, with what is carried then
unfoldable pub CalmAfter : Option ℕ → Groups → Dullness → Held → List ℕ → Type 0
CalmAfter None g dull h calm = Unit {0}
CalmAfter (Some visits) g dull h calm = Calm g dull h calm
