-- `child_links::keys::key_of`: the key of the bytes that are left, behind those whose key is `key`, is the key of all. Assumes nothing.
use Rattle.child_links.proofs.Keyed.{Making}
use Rattle.child_links.proofs.keys.key_of.Given as goal

abbrev pub invariant-loop-b : goal.invariant-loop-b
invariant-loop-b l = Making l.name l.key l.b-index
