-- `name::good_name` meets its contract. Assumes nothing.
use Rattle.std.proofs.Common.{rules, tests, arith, ◌∙◌}
use Rattle.std.proofs.lemmas.Bool.Decides.{nat_tests}
use Rattle.std.proofs.lemmas.Iterator.{YieldsList-from_slice}
use Rattle.std.proofs.lemmas.Iterator.Search.{all_from_yields_List}
use Rattle.as5506.specs.Names.{name_byte}
use Rattle.name.proofs.Scan.{all-is, good-is}
use Rattle.name.proofs.good_name.Goals as goal

pub returns-then-s-le63 : goal.returns-then-s-le63
returns-then-s-le63 c =
    let s = c.args.s.now in
    good-is s _ (grind (arith, nat_tests)) (omega arith) (all_from_yields_List name_byte _ _ c.all.result c.all.ensures.ran (YieldsList-from_slice s cc) (λ x b q k. search (rules, tests)) ∙ all-is name_byte s)
