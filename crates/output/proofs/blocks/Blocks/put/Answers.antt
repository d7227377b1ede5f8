-- `output::blocks::Blocks::put` meets its contract. Assumes nothing.
use mathlib.Core.Path.{refl}
use Rattle.output.proofs.Writing.{put_over, put_one}
use Rattle.output.proofs.blocks.Blocks.put.Goals as goal

pub returns-then-self : goal.returns-then-self
returns-then-self g c = put_over _ _ c.if-self.true

pub returns : goal.returns
returns g c = put_one _ _ _ refl c.told-block c.if-self.false c.put_all.ensures refl
