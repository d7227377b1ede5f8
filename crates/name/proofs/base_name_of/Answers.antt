-- `name::base_name_of` meets its contract. Assumes nothing.
use Rattle.std.proofs.Common.{rules, tests, sym, ap, ◌∙◌, take}
use Rattle.std.proofs.lemmas.Iterator.{YieldsList-from_slice}
use Rattle.std.proofs.lemmas.Iterator.Search.{position_from_yields_List}
use Rattle.name.proofs.Scan.{is_bracket, at-some, base-none, base-is}
use Rattle.name.proofs.base_name_of.Goals as goal

pub returns-in-Some : goal.returns-in-Some
returns-in-Some c =
    let s = c.args.s.now in
    let h = position_from_yields_List is_bracket _ _ c.position.result c.position.ensures.ran (YieldsList-from_slice s cc) (λ x b q k. search (rules, tests)) in
    ap (λ n. take n s) (at-some _ _ _ (sym c.in-Some.is ∙ h)) ∙ base-is s

pub returns-in-None : goal.returns-in-None
returns-in-None c =
    let s = c.args.s.now in
    let h = position_from_yields_List is_bracket _ _ c.position.result c.position.ensures.ran (YieldsList-from_slice s cc) (λ x b q k. search (rules, tests)) in
    base-none s (sym c.in-None.is ∙ h)
