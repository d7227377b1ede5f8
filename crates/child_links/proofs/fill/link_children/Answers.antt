-- `child_links::fill::link_children` meets its contract. Assumes nothing.
use mathlib.Core.Path.{◌≡◌, sym, ap, ◌∙◌, subst}
use mathlib.Core.List.{List}
use Prim.Native.Nat.{ℕ}
use native.Mathlib.Omega.{arith}
use lib.ListN.{length}
use Rattle.as5506.specs.Lists.{padded}
use Rattle.as5506.specs.Tables.{c_count}
use Rattle.as5506.specs.Links.{link_table}
use Rattle.as5506.proofs.Accepted.{some-component}
use Rattle.lent.specs.Model.{model}
use Rattle.child_links.specs.Filling.{Spells}
use Rattle.child_links.proofs.Filling.{filled_twice, none_linked-length, spells_none, spells_all}
use Rattle.child_links.proofs.fill.link_children.Goals as goal

pub loop-i-init : goal.loop-i-init
loop-i-init c =
    subst (λ (t : List ℕ). Spells (model c.args.m.now) t (c_count (model c.args.m.now)) × length t ≡ length c.args.links.now)
    (sym (filled_twice (model c.args.m.now) (length c.args.links.now) c.requires.1 _ _ (c.fill.ensures.after (λ y e. e)) (c.fill-2.ensures.after (λ y e. e))))
    (spells_none _ _ c.requires.1 (some-component _ c.requires.0), none_linked-length (model c.args.m.now) _ c.requires.1)

pub loop-i-preserved : goal.loop-i-preserved
loop-i-preserved c = (c.link_row.ensures, c.link_row.auto.links ∙ c.loop-i.invariant.1)

pub link_row-requires : goal.link_row-requires
link_row-requires c = (c.requires.0, subst (λ (i : ℕ). Spells (model c.args.m.now) c.loop-i.links i) (omega (arith, c.loop-i-test.true)) c.loop-i.invariant.0)

pub returns : goal.returns
returns c =
    spells_all (model c.args.m.now) c.requires.0 c.loop-i.links (subst (λ (i : ℕ). Spells (model c.args.m.now) c.loop-i.links i) (omega (arith, c.loop-i-test.false)) c.loop-i.invariant.0)
    ∙ ap (λ (n : ℕ). padded n (link_table (model c.args.m.now))) c.loop-i.invariant.1
