-- `path::Path::contains` meets its contract. Assumes nothing.
use Rattle.std.proofs.Common.{ap, ◌∙◌}
use Rattle.as5506.specs.Lists.{has}
use Rattle.as5506.proofs.Searches.{any-has}
use Rattle.path.proofs.Path.contains.Goals as goal

pub returns : goal.returns
returns g c = c.contains.ensures.value ∙ any-has c.args.v c.numbers.result.now ∙ ap (has c.args.v) c.numbers.ensures
