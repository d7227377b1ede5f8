-- `conlist_c::diagnostic::fill_records`: the records of the numbers stand at each index below i.
use Rattle.std.proofs.Common.{◌≡◌, ◌<◌, ℕ, get_or}
use Rattle.conlist_c.specs.Records.{record_at}
use Rattle.conlist_c.proofs.diagnostic.fill_records.Given as goal

abbrev pub invariant-loop-i : goal.invariant-loop-i
invariant-loop-i l = (k : ℕ) → k < l.i → get_or l.out k (record_at l.numbers 0) ≡ record_at l.numbers k
