-- `Matching::row` meets its contract. Assumes nothing.
use Rattle.sink.specs.Take.{feature_of}
use Rattle.sink.proofs.Blocks.{row_is}
use Rattle.sink.proofs.Matching.row.Goals as goal

pub returns : goal.returns
returns c =
    row_is _ _ _ (feature_of c.args.feature.now) _ c.args.i c.args.feature.now.short c.requires _ _ _ _ c.block.ensures c.part-partner.ensures c.put_all.ensures c.put_all-2.ensures
