-- What each case of `ConnectionPattern` says: whether it is one to one. Assumes nothing.
use Rattle.std.specs.Prelude.{Bool, true, false}
use Rattle.name.specs.declared.ConnectionPattern.{ConnectionPattern}
use Rattle.name.specs.declared.ConnectionPattern.TheVariants.{OneToOne, AllToAll}

abbrev pub says_one_to_one : ConnectionPattern → Bool
says_one_to_one OneToOne = true
says_one_to_one AllToAll = false
