-- `tables::letter::check_letters`: what the letters that are left give is what all give. Assumes nothing.
use Rattle.std.proofs.Common.{◌≡◌, drop, map, List}
use Rattle.as5506.specs.Answers.{Refusal}
use Rattle.as5506.specs.Lists.{each}
use Rattle.as5506.specs.Tables.{Letter}
use Rattle.tables.specs.Answer.{checked}
use Rattle.tables.specs.Letter.{letter_of, Gives}
use Rattle.tables.proofs.letter.check_letters.Given as goal

abbrev pub invariant-loop-letter : goal.invariant-loop-letter
invariant-loop-letter g l =
    (faults_of : Letter → List Refusal) → Gives (goal.F-post g l.check) faults_of
    → checked (each faults_of (map letter_of (drop l.letter-index l.letter-items))) ≡ checked (each faults_of (map letter_of l.letter-items))
