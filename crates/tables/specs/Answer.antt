-- The code's answer for the definition's faults: the first. Assumes nothing.
use Rattle.std.specs.Prelude.{List, [], ◌∷◌, Result, Ok, Err}
use Rattle.as5506.specs.declared.Refusal.{Refusal as Told}
use Rattle.as5506.specs.Answers.{Refusal, told}

-- what a check finds: nothing, or what the tables are refused for
abbrev pub Checked : Type 0
Checked = Result (Unit {0}) Told

abbrev pub checked : List Refusal → Checked
checked [] = Ok tt
checked (x ∷ xs) = Err (told x)
