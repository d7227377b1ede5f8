-- `sheet::letter`: the place of the first byte among the letters. Assumes nothing.
use Rattle.sheet.proofs.Letters.{letter_found}
use Rattle.sheet.proofs.letter.Goals as goal

pub returns : goal.returns
returns c = letter_found _ _ _ c.get_or.ensures c.index_of.ensures
