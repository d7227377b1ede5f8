-- `group_match::match_connections` meets its contract. The invariant: the connections that are left, from what is carried, give what all give. Assumes nothing.
use mathlib.Core.Path.{refl, ◌∙◌}
use lib.ListN.{length}
use Rattle.std.proofs.Common.{rules}
use Rattle.sink.proofs.Buffers.{buffers-then}
use Rattle.group_match.proofs.Loop.{goes_start, goes_end, goes_past, goes_over, goes_on, all_new, into_over, into_end, room_ready}
use Rattle.group_match.proofs.match_connections.Goals as goal

pub loop-row-init : goal.loop-row-init
loop-row-init c = record { kept = refl; same = record { memo = refl; out = refl; notes = refl }; goes = goes_start _ _ _ }

pub match_groups-requires : goal.match_groups-requires
match_groups-requires c =
    let i = c.loop-row.invariant in room_ready _ c.args.tree.now.linked.ok c.args.links c.args.memo.now c.args.kept.now _ _ c.requires i.goes.names i.kept

pub returns-in_err-match_groups : goal.returns-in_err-match_groups
returns-in_err-match_groups c =
    into_over _ _ _ _ c.from_residual.ensures
    (goes_over _ _ _ _ c.loop-row.row c.loop-row.invariant.goes c.loop-row-test.true _ (c.in-Some.ensures c.args.links c.requires.linked) _ _ c.in_err-match_groups.ensures.matched refl)
    ∙ all_new _ _ _ _ _ c.new.ensures

pub loop-row-preserved-in_default : goal.loop-row-preserved-in_default
loop-row-preserved-in_default c =
    let i = c.loop-row.invariant in
    record { kept = i.kept; same = i.same; goes = goes_past _ _ _ _ c.loop-row.row i.goes c.loop-row-test.true (c.in_default.ensures c.args.links c.requires.linked) }

pub loop-row-preserved : goal.loop-row-preserved
loop-row-preserved c =
    let i = c.loop-row.invariant in
    let e = c.in_ok-match_groups.ensures in
    record {
      kept = ◌∙◌ {b = length c.loop-row.kept} c.match_groups.auto.kept i.kept;
      same = buffers-then _ _ _ i.same e.same;
      goes = goes_on _ _ _ _ c.loop-row.row i.goes c.loop-row-test.true _ (c.in-Some.ensures c.args.links c.requires.linked) _ _ e.matched _ refl e.names;
    }

pub returns : goal.returns
returns c = into_end c.loop-row.sink _ _ _ (goes_end _ _ _ _ c.loop-row.row c.loop-row.invariant.goes c.loop-row-test.false) (search rules) (search rules) ∙ all_new _ _ _ _ _ c.new.ensures
