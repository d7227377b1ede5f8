-- `operation_modes::join::put_names` meets its contract: a turn prints one name more. Assumes nothing.
use mathlib.Core.Path.{refl, sym, ap}
use mathlib.Core.List.{List, ◌∷◌}
use Prim.Native.Nat.{ℕ}
use native.Mathlib.Omega.{arith}
use lib.ListN.{drop_of_length-le}
use Rattle.as5506.specs.Lists.{each}
use Rattle.as5506.specs.Modes.{underscore}
use Rattle.lent.specs.Model.{model}
use Rattle.output.proofs.Put.{put_as, put_none, ◌▷◌, printing_start, printing_turn, printing_next, printing_end}
use Rattle.operation_modes.proofs.Joining.{behind, joined_none, joined_some}
use Rattle.operation_modes.proofs.join.put_names.Goals as goal

pub returns-in_default : goal.returns-in_default
returns-in_default c = put_as (put_none _) (joined_none _ _ (omega (arith, c.in_default.len_below)))

pub loop-row-init : goal.loop-row-init
loop-row-init c =
    printing_turn (printing_start (joined_some _ _ c.in-len1-up.len_at_least)) (put_as c.put.ensures.put (sym c.mode_name.ensures)) refl

pub loop-row-preserved : goal.loop-row-preserved
loop-row-preserved c =
    printing_next (behind (model c.args.m.now)) _ _ 0 c.loop-row.invariant c.loop-row-test.true
    (put_as (c.put-in-loop-row.ensures.put ▷ c.put-in-loop-row-2.ensures.put) (ap (λ (l : List ℕ). underscore ∷ l) (sym c.mode_name-in-loop-row.ensures)))

pub returns : goal.returns
returns c = printing_end c.loop-row.invariant (ap (each (behind (model c.args.m.now))) (drop_of_length-le _ c.loop-row-test.false))
