-- No feature before place i is the partner. Assumes nothing.
use Rattle.lent.specs.Model.{model}
use Rattle.as5506.proofs.Searches.{Searching}
use Rattle.sink.specs.Take.{kept_count}
use Rattle.sink.proofs.Search.{test}
use Rattle.sink.proofs.Matching.find_partner.Given as goal

abbrev pub invariant-loop-i : goal.invariant-loop-i
invariant-loop-i l = Searching (test (model l.m) l.self.kept.now l.name) (kept_count l.self.kept.now) l.i
