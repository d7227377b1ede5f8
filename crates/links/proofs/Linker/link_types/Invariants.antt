-- `links::Linker::link_types` meets its contract. The invariant: in both tables the links from `row` on are left to write. Assumes nothing.
use Rattle.as5506.specs.Tables.{letter_u, count}
use Rattle.lent.specs.Model.{model}
use Rattle.links.specs.Links.{extends_link, inverse_link}
use Rattle.links.proofs.Rows.{Filling}
use Rattle.links.proofs.Linker.link_types.Given as goal

abbrev pub invariant-loop-row : goal.invariant-loop-row
invariant-loop-row l =
    record {
      extends : Filling (extends_link (model l.self.m.now)) (count (model l.self.m.now) letter_u) l.initial.extends l.extends l.row;
      inverse : Filling (inverse_link (model l.self.m.now)) (count (model l.self.m.now) letter_u) l.initial.inverse l.inverse l.row;
    }
