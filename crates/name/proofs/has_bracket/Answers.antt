-- `name::has_bracket` meets its contract. Assumes nothing.
use Rattle.std.proofs.Common.{◌∙◌}
use Rattle.as5506.proofs.Searches.{any-has}
use Rattle.name.proofs.has_bracket.Goals as goal

pub returns : goal.returns
returns c = c.contains.ensures.value ∙ any-has 91 c.args.s.now
