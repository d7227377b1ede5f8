-- `semantic::Connection::diagnose_across` meets its contract. The three diagnostics one after the other are the definition's. Assumes nothing.
use mathlib.Core.Path.{refl}
use Rattle.output.proofs.Writing.{wrote_as, wrote_none, wrote_full, wrote_then}
use Rattle.semantic.proofs.Connection.diagnose_across.Goals as goal

pub returns-in_err-diagnose_side : goal.returns-in_err-diagnose_side
returns-in_err-diagnose_side c = wrote_full (wrote_full c.diagnose_side.ensures c.in_err-diagnose_side.was refl _) refl c.from_residual.ensures _

pub returns-in_err-diagnose_side-2 : goal.returns-in_err-diagnose_side-2
returns-in_err-diagnose_side-2 c =
    wrote_full (wrote_then c.diagnose_side.ensures c.in_ok-diagnose_side.was c.diagnose_side-2.ensures) c.in_err-diagnose_side-2.was c.from_residual-in_err-diagnose_side-2.ensures _

pub returns-in-OneToOne : goal.returns-in-OneToOne
returns-in-OneToOne c =
    wrote_then (wrote_then c.diagnose_side.ensures c.in_ok-diagnose_side.was c.diagnose_side-2.ensures) c.in_ok-diagnose_side-2.was
    (wrote_as c.diagnose_unequal.ensures (rw (c.in-OneToOne.is, c.count.ensures, c.count-in-OneToOne.ensures) refl))

pub returns-in-AllToAll : goal.returns-in-AllToAll
returns-in-AllToAll c =
    wrote_then (wrote_then c.diagnose_side.ensures c.in_ok-diagnose_side.was c.diagnose_side-2.ensures) c.in_ok-diagnose_side-2.was (wrote_none _ (rw c.in-AllToAll.is))
