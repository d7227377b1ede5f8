-- `group_names::put_joined` meets its contract: so much more is used behind the names as they are long. Assumes nothing.
use mathlib.Core.Path.{◌≡◌, ◌∙◌}
use mathlib.Core.List.{[], ◌∷◌, ◌++◌}
use native.Mathlib.Omega.{arith}
use lib.ListN.{length-append}
use Rattle.lent.specs.Append.{append_all}
use Rattle.lent.specs.Model.{model}
use Rattle.output.specs.Put.{output_of}
use Rattle.group_names.specs.Pieces.{joined_pieces}
use Rattle.group_names.proofs.Joining.{joining_end, joined_from, joined_few, joined_told, joining_turn}
use Rattle.group_names.proofs.put_joined.Goals as goal
use Rattle.group_names.proofs.put_joined.Goals.{After-branch-end}

-- all names are put
all : (c : After-branch-end) → output_of c.put_dotted-2.new.out ≡ append_all (joined_pieces (model c.args.m.now) c.args.first (c.args.middle.now ++ (c.args.last ∷ []))) (output_of c.args.out.now)
all c = joining_end (model c.args.m.now) c.args.middle.now c.args.first c.args.last _ _ _ _ _ c.put_dotted-2.ensures.put c.loop-k.invariant.1 c.loop-k-test.false c.put.ensures.put

pub overflow_sub-result : goal.overflow_sub-result
overflow_sub-result c = joined_from _ _ _ _ _ (all (goal.at.overflow_sub-result c).After-branch-end) _ _ c.in_ok-start.ensures c.in_ok-end.ensures

pub overflow_cast-result : goal.overflow_cast-result
overflow_cast-result c =
    omega (
      arith,
      c.requires.1,
      length-append c.args.middle.now (c.args.last ∷ []),
      joined_few _ _ _ _ _ (all (goal.at.overflow_cast-result c).After-branch-end) _ _ c.in_ok-start.ensures c.in_ok-end.ensures c.requires.0 (omega (arith, c.requires.1, length-append c.args.middle.now (c.args.last ∷ []))),
    )

pub returns-clause-told : goal.returns-clause-told
returns-clause-told c = joined_told _ _ _ _ _ (all (goal.at.returns-clause-told c).After-branch-end) _ _ c.in_ok-start.ensures c.in_ok-end.ensures

pub loop-k-preserved : goal.loop-k-preserved
loop-k-preserved c = (
  c.put_dotted.ensures.same ∙ c.loop-k.invariant.0,
  joining_turn (model c.args.m.now) c.args.middle.now _ _ _ _ c.put_dotted.ensures.put c.loop-k.invariant.1 c.loop-k-test.true,
)

pub returns-in_err-end-clause-put : goal.returns-in_err-end-clause-put
returns-in_err-end-clause-put c = all (goal.at.returns-in_err-end-clause-put c).After-branch-end

pub returns-clause-put : goal.returns-clause-put
returns-clause-put c = all (goal.at.returns-clause-put c).After-branch-end
