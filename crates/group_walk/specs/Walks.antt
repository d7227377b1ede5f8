-- What a walk does, and what it asks for. Assumes nothing.
use Rattle.std.specs.Prelude.{List, ℕ, ◌+◌, ◌≤◌, length}
use Rattle.as5506.specs.Groups.{depth_limit}
use Rattle.lent.specs.Model.{model}
use Rattle.links.specs.Walk.{Groups, groups_of}
use Rattle.sink.specs.Take.{Held, taken, Ready}
use Rattle.sink.specs.Dull.{Dull}
use Rattle.group_walk.specs.declared.Walk.{Walk}
use Rattle.group_walk.specs.declared.position.Position.{Position}
use Rattle.group_walk.specs.Run.{Take, visit_limit}
use Rattle.group_walk.specs.Calm.{Dullness, Calm}

-- what it goes over, what it does with a feature, and which features change nothing any more
abbrev pub groups : Walk → Groups
groups w = groups_of (model w.tables.now) w.links.now

abbrev pub does : Walk → Take
does w = taken w.purpose (model w.tables.now)

abbrev pub dulls : Walk → Dullness
dulls w = Dull w.purpose (model w.tables.now)

-- a visit
pub record VisitReady (w : Walk) (h : Held) (calm : List ℕ) : Type 0 where
  pub ready : Ready w.purpose (model w.tables.now) h.memo
  pub known : Calm (groups w) (dulls w) h calm

-- what a group type gives, or its features only, behind so many visits; one level is taken by the visit that came to it
pub record TypeReady (w : Walk) (h : Held) (calm : List ℕ) (at : Position) (visits : ℕ) : Type 0 where
  pub ready : Ready w.purpose (model w.tables.now) h.memo
  pub deep : length at.prefix + at.left ≤ depth_limit
  pub few : visits ≤ visit_limit
  pub known : Calm (groups w) (dulls w) h calm
