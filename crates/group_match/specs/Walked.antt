-- What a walk of a source leaves, and what a connection of the code stands for. Assumes nothing.
use Rattle.std.specs.Prelude.{List, [], ◌∷◌, ℕ, length, Option, Some, None}
use Rattle.as5506.specs.Lists.{zeros}
use Rattle.as5506.specs.Groups.{Expansion}
use Rattle.as5506.specs.GroupList.{GroupConnection as Meant}
use Rattle.links.specs.Walk.{Groups}
use Rattle.sink.specs.Take.{Held}
use Rattle.group_walk.specs.Run.{Take, State, going, run}
use Rattle.group_match.specs.declared.GroupConnection.{GroupConnection}
use Rattle.group_match.specs.Matching.{Lists, over, lists, group_at, between}

-- nothing is remembered
abbrev pub cleared : Held → Held
cleared h = record { memo = zeros (length h.memo); out = h.out; notes = h.notes }

-- a source that is walked, if there is one
unfoldable pub walked_from : Take → Option Expansion → Held → State
walked_from does None h = going h 0
walked_from does (Some x) h = run does (going (cleared h) 0) x

-- both outputs of what is carried, and what an answer tells of them
abbrev pub lists_in : Held → Lists
lists_in h = lists h.out h.notes

unfoldable pub listed : Option ℕ → Held → Lists
listed None h = over
listed (Some visits) h = lists_in h

-- the connection that one of the code stands for
abbrev pub connection_of : Groups → GroupConnection → Meant
connection_of g c = between c.connection c.source c.destination (group_at g c.from) (group_at g c.to)

abbrev pub connection_list : Groups → Option GroupConnection → List Meant
connection_list g None = []
connection_list g (Some c) = connection_of g c ∷ []
