-- `semantic::Connection::trace_one_to_one` meets its contract. Assumes nothing.
use mathlib.Core.Logic.{◌⊎◌, inl, inr}
use mathlib.Core.List.{[]}
use mathlib.Core.Path.{◌≡◌, ◌∙◌}
use Rattle.std.specs.Prelude.{None}
use Rattle.children.specs.declared.Children.{Children}
use Rattle.children.specs.Found.{children_left, GivesChild}
use Rattle.output.proofs.Writing.{each_turn, each_full, each_end}
use Rattle.semantic.specs.Rows.{pair_on}
use Rattle.semantic.proofs.PairLaws.{zip_end, zip_next}
use Rattle.semantic.proofs.Connection.trace_one_to_one.Goals as goal

-- one of two iterators gives no child: of one none is left
none-left : (c d : Children) → ((c' : Children) × GivesChild c None c') ⊎ ((d' : Children) × GivesChild d None d') → (children_left c ≡ []) ⊎ (children_left d ≡ [])
none-left c d (inl g) = inl g.1.0.0
none-left c d (inr g) = inr g.1.0.0

pub returns-in_err-trace_pair : goal.returns-in_err-trace_pair
unfolding pair_on
returns-in_err-trace_pair c =
    each_full _ c.loop-a.invariant.rows (zip_next _ c.in-Some.ensures.steps.0.0 c.in-Some.ensures.steps.1.0) c.trace_pair.ensures c.in_err-trace_pair.was c.from_residual.ensures

pub loop-a-preserved : goal.loop-a-preserved
unfolding pair_on
loop-a-preserved c = record {
  sources = c.in-Some.ensures.steps.0.2 ∙ c.loop-a.invariant.sources;
  destinations = c.in-Some.ensures.steps.1.2 ∙ c.loop-a.invariant.destinations;
  rows = each_turn _ c.loop-a.invariant.rows (zip_next _ c.in-Some.ensures.steps.0.0 c.in-Some.ensures.steps.1.0) c.trace_pair.ensures c.in_ok-trace_pair.was;
}

pub returns : goal.returns
returns c = each_end _ c.loop-a.invariant.rows (zip_end _ _ _ (none-left _ _ c.in-None.ensures.steps))
