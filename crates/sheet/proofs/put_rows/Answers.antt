-- `sheet::put_rows`: the rows that are left, written from here on, give the table with all of them. Assumes nothing.
use Rattle.std.proofs.Common.{rules}
use Rattle.sheet.proofs.Put.{put_row_laws}
use Rattle.sheet.proofs.put_rows.Goals as goal

pub split_at-requires : goal.split_at-requires
split_at-requires c = search (rules, put_row_laws)

pub put_fields-requires : goal.put_fields-requires
put_fields-requires c = search (rules, put_row_laws)

pub slice_bounds-rest-count : goal.slice_bounds-rest-count
slice_bounds-rest-count c = search (rules, put_row_laws)

pub slice_bounds-rest-start : goal.slice_bounds-rest-start
slice_bounds-rest-start c = search (rules, put_row_laws)

pub loop-form-preserved : goal.loop-form-preserved
loop-form-preserved c = search (rules, put_row_laws)

pub returns : goal.returns
returns c = search (rules, put_row_laws)
