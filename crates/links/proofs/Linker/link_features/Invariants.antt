-- `links::Linker::link_features` meets its contract. The invariant: the links from `row` on are left to write. Assumes nothing.
use Rattle.as5506.specs.Tables.{letter_e, count}
use Rattle.lent.specs.Model.{model}
use Rattle.links.specs.Links.{nested_link}
use Rattle.links.proofs.Rows.{Filling}
use Rattle.links.proofs.Linker.link_features.Given as goal

abbrev pub invariant-loop-row : goal.invariant-loop-row
invariant-loop-row l = Filling (nested_link (model l.self.m.now)) (count (model l.self.m.now) letter_e) l.initial.nested l.nested l.row
