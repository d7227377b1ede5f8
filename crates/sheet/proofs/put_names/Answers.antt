-- `sheet::put_names`: the names that are left and their rows, written from here on, give the tables with all of them. Assumes nothing.
use Rattle.std.proofs.Common.{◌≡◌, ◌+◌, ◌<◌, length, take, drop, rules}
use Rattle.sheet.proofs.Lines.{stop_of}
use Rattle.sheet.proofs.Put.{put_name_laws}
use Rattle.sheet.proofs.put_names.Goals as goal
use Rattle.sheet.proofs.put_names.Goals.{After-unwrap}

-- the line of this turn, and what follows it
found : (c : After-unwrap) →
    let s = c.loop-rest.rest.now in
    (stop_of s < length s) × (c.unwrap.result.0.now ≡ take (stop_of s) s) × (c.unwrap.result.1.now ≡ drop (stop_of s + 1) s)
found c = rw c.unwrap.ensures at c.first_line.ensures

pub unwrap-requires : goal.unwrap-requires
unwrap-requires c = search (rules, put_name_laws)

pub slice_bounds-name-count : goal.slice_bounds-name-count
slice_bounds-name-count c = search (rules, put_name_laws, found (goal.at.slice_bounds-name-count c).After-unwrap)

pub slice_bounds-name-start : goal.slice_bounds-name-start
slice_bounds-name-start c = search (rules, put_name_laws, found (goal.at.slice_bounds-name-start c).After-unwrap)

pub loop-rest-preserved : goal.loop-rest-preserved
loop-rest-preserved c = search (rules, put_name_laws, found (goal.at.loop-rest-preserved c).After-unwrap)

pub returns : goal.returns
returns c = search (rules, put_name_laws)
