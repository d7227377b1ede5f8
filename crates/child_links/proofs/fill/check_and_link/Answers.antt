-- `child_links::fill::check_and_link` meets its contract. Assumes nothing.
use mathlib.Core.Path.{sym, ap, ◌∙◌}
use Prim.Native.Nat.{ℕ, ◌≤◌}
use native.Mathlib.Nat.{div-mul-le_self}
use native.Mathlib.Omega.{arith}
use lib.Dec.{T}
use lib.ListN.{length}
use Rattle.as5506.specs.Lists.{padded}
use Rattle.as5506.specs.Tables.{c_count}
use Rattle.as5506.specs.Refusals.{faults, accepted}
use Rattle.as5506.specs.Links.{link_table}
use Rattle.as5506.specs.Layout.{links_in}
use Rattle.as5506.proofs.Links.{enough-links}
use Rattle.tables.specs.Answer.{checked}
use Rattle.lent.specs.Model.{model}
use Rattle.tables.proofs.Answers.{none-is, accepted-is}
use Rattle.child_links.proofs.fill.check_and_link.Goals as goal

pub link_children-requires : goal.link_children-requires
link_children-requires c =
    (accepted-is (model c.args.m.now) c.check_tables.result c.check_tables.ensures c.in_ok-check_tables.was, omega (arith, c.if-links-m.false, div-mul-le_self (length c.args.links.now) 2))

pub returns : goal.returns
returns c =
    let ok : T (accepted (model c.args.m.now)) = accepted-is (model c.args.m.now) c.check_tables.result c.check_tables.ensures c.in_ok-check_tables.was in
    let room : c_count (model c.args.m.now) ≤ links_in (length c.args.links.now) = omega (arith, c.if-links-m.false) in
    record {
      answer = sym (ap checked (enough-links (links_in (length c.args.links.now)) (model c.args.m.now) room ∙ none-is (faults (model c.args.m.now)) c.check_tables.result c.check_tables.ensures c.in_ok-check_tables.was));
      size = c.link_children.auto.links;
      linked = λ e. record {
        ok = ok;
        filled = c.link_children.ensures ∙ ap (λ (n : ℕ). padded n (link_table (model c.args.m.now))) (sym c.link_children.auto.links);
      };
    }
