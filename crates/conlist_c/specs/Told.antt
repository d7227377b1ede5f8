-- What an exported listing leaves, for the definition's answer `wanted`: `told` holds the answer's numbers, and the outputs what the library's call leaves
-- where it answers so; of the traced listing and of both under a limit k, of both by how the entry compares names (`same`). Assumes nothing.
use Rattle.std.specs.Prelude.{◌≡◌, List, ℕ}
use Rattle.as5506.specs.Tables.{Tables}
use Rattle.as5506.specs.Names.{Comparison}
use Rattle.as5506.specs.Answers.{Answer, handed}
use Rattle.as5506.specs.Listing.{TracedList, GroupList, BothLists}
use Rattle.instance.specs.Answer.{TracedAs, listed as traced_listed}
use Rattle.group_list.specs.Answer.{GroupListedAs, listed as group_listed}
use Rattle.listing.specs.Answer.{Outputs, BothAs, listed as both_listed}
use Rattle.conlist_c.specs.Numbers.{answer_numbers, listed_numbers, both_numbers}

pub record TracedTold (wanted : Answer TracedList) (k : ℕ) (m : Tables) (links rows numbers told' links' rows' numbers' : List ℕ) : Type 0 where
  pub told : told' ≡ answer_numbers 3 listed_numbers (handed traced_listed wanted)
  pub outputs-hold : TracedAs wanted k m links rows numbers (handed traced_listed wanted) links' rows' numbers'

pub record GroupTold (wanted : Answer GroupList) (m : Tables) (links rows names numbers told' links' rows' names' numbers' : List ℕ) : Type 0 where
  pub told : told' ≡ answer_numbers 3 listed_numbers (handed group_listed wanted)
  pub outputs-hold : GroupListedAs wanted m links rows names numbers (handed group_listed wanted) links' rows' names' numbers'

pub record BothTold (same : Comparison) (wanted : Answer BothLists) (k : ℕ) (m : Tables) (o : Outputs) (told' : List ℕ) (p : Outputs) : Type 0 where
  pub told : told' ≡ answer_numbers 5 both_numbers (handed both_listed wanted)
  pub outputs-hold : BothAs same wanted k m o (handed both_listed wanted) p
