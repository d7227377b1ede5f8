-- `path::Path::push` meets its contract. Assumes nothing.
use Rattle.std.proofs.Common.{arith, ap, length, ◌<◌}
use Rattle.path.specs.Places.{front-size}
use Rattle.path.proofs.Places.{places_put}
use Rattle.path.proofs.Path.push.Goals as goal

pub invariant_of-self : goal.invariant_of-self
invariant_of-self g c =
    let i = c.self.invariant in
    let k = front-size _ _ _ i.0 i.1 in
    let h : c.self.inside.len < g.row.N = omega (arith, k, ap length c.self.view_is, c.requires) in
    (omega arith, places_put _ _ _ i.0 i.1 _ h)
