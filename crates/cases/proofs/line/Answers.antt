use Rattle.std.proofs.Common.{rules, refl, sym, subst}
use Rattle.std.proofs.lemmas.List.{take-set}
use Rattle.std.specs.Io.KnownBytes.{Consumes}
use Rattle.cases.specs.{Taken}
use Rattle.cases.proofs.line.Goals as goal
use mathlib.Core.Logic.{inl, inr}

pub returns-then-b-eq-LINE_FEED-clause-read : goal.returns-then-b-eq-LINE_FEED-clause-read
returns-then-b-eq-LINE_FEED-clause-read g c =
    let left = g.R.Read.remaining in (
      left c.loop-i.input,
      subst (Consumes (left c.args.input.now) (left c.loop-i.input)) (sym (take-set c.loop-i.out c.loop-i.i _)) c.loop-i.invariant.1,
      inl (subst (Taken (left c.loop-i.input) (left c.byte-b.new.input)) (search rules) c.byte-b.ensures),
    )

pub returns-clause-read : goal.returns-clause-read
returns-clause-read g c = (g.R.Read.remaining c.loop-i.input, search rules, inr refl)
