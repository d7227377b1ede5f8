-- `tables::FewRows::check_fields` meets its contract: by the letter. Assumes nothing.
use Rattle.std.proofs.Common.{rules}
use Rattle.lent.specs.Model.{model}
use Rattle.as5506.specs.Refusals.{row_faults, bad_row, faults6}
use Rattle.tables.proofs.FewRows.check_fields.Goals as goal

pub returns : goal.returns
unfolding faults6
returns c = let m = model c.args.self.now.m.now in c.check_letters.ensures (λ l. row_faults 6 m l (bad_row m l)) (record { gives = λ l r p. search rules })
