-- `group_names::compose_names` meets its contract: composing what is left leaves what composing all leaves. Assumes nothing.
use mathlib.Core.Bool.{not}
use mathlib.Core.Path.{refl, ap, ap₂, ◌∙◌}
use Prim.Native.Nat.{◌/◌}
use native.Mathlib.Omega.{arith}
use lib.ListN.{length}
use Rattle.std.proofs.Common.{rules}
use Rattle.as5506.specs.Layout.{row_numbers}
use Rattle.lent.specs.Append.{filled}
use Rattle.lent.specs.Model.{model}
use Rattle.output.specs.Put.{output_of}
use Rattle.group_names.specs.Pieces.{pairs_back}
use Rattle.group_names.specs.Compose.{Composed}
use Rattle.group_names.proofs.Composing.{composed_as, left_goes, left_stops, left_end}
use Rattle.group_names.proofs.compose_names.Goals as goal
use Rattle.group_names.proofs.compose_names.Goals.{else-loop-i-test, then-loop-i-test+then-is_none}

pub loop-i-preserved : goal.loop-i-preserved
loop-i-preserved c =
    let z = c.put_match.ensures in (
      z.same ∙ c.loop-i.invariant.0,
      left_goes _ _ _ _ _ _ _ c.loop-i.invariant.1 c.loop-i-test.true (omega arith) _ (omega arith) _ _ z.put _ (c.is_none.ensures ∙ ap not c.if-is_none.false) z.used z.row_after,
    )

pub returns : goal.returns
returns c =
    let z = c.loop-i-test.out in
    let all : Composed (model c.args.m.now) (pairs_back (length c.args.rows.now / row_numbers) c.args.rows.now) c.args.rows.now c.args.names.now z.used c.loop-i-test.rows z.bytes.now =
    elim c.loop-i-test.branch [
      | else-loop-i-test w ↦ composed_as (left_end _ _ _ _ _ _ _ c.loop-i.invariant.1 w.loop-i-test.false) (ap output_of w.out-is) w.rows-is
      | then-loop-i-test+then-is_none w ↦
          let y = w.put_match.ensures in
          composed_as
          (left_stops _ _ _ _ _ _ _ c.loop-i.invariant.1 w.loop-i-test.true (omega arith) _ (omega arith) _ _ y.put _ (w.is_none.ensures ∙ ap not w.if-is_none.true) y.used y.row_after)
          (ap output_of w.out-is) w.rows-is
    ] in
    composed_as all (ap₂ filled (search rules) c.done.ensures.0) refl
