-- `child_links::keys::key_names`: the keys of the components below i are written. Assumes nothing.
use Rattle.lent.specs.Model.{model}
use Rattle.child_links.specs.Keys.{KeyedBelow}
use Rattle.child_links.proofs.keys.key_names.Given as goal

abbrev pub invariant-loop-i : goal.invariant-loop-i
invariant-loop-i l = KeyedBelow (model l.m) l.keys l.i
