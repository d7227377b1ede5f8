-- What the outputs hold before a refusal clears them. Assumes nothing.
use Rattle.std.specs.Prelude.{◌≡◌, ℕ, length, Result, Ok}
use Rattle.as5506.specs.Tables.{Tables}
use Rattle.as5506.specs.Names.{Comparison}
use Rattle.as5506.specs.Answers.{Answer, handed}
use Rattle.as5506.specs.declared.Refusal.{Refusal as Told}
use Rattle.as5506.specs.Listing.{BothLists, traced_list, traced_within, after_traced}
use Rattle.as5506.specs.Layout.{room_in, traced_row_numbers, traced_diag_numbers, group_row_numbers, group_diag_numbers, composed_names, of_traced, of_group}
use Rattle.lent.specs.Answered.{AnswerIn}
use Rattle.child_links.specs.Linked.{Linked}
use Rattle.listing.specs.declared.Both.{Both}
use Rattle.listing.specs.Answer.{listed, Outputs}

-- the definition's answer for accepted tables, under a limit of k steps
abbrev pub answer_of : Comparison → ℕ → Tables → Outputs → Answer BothLists
answer_of same k m o =
    after_traced same (room_in (length o.group-rows) (length o.group-diags)) (length o.names) m (traced_within (room_in (length o.rows) (length o.diags)) (traced_list same k m))

-- a call with the outputs o, for which the definition's answer is `wanted`, before a refusal clears them: it answers z and leaves p in them
pub record Lists (wanted : Answer BothLists) (m : Tables) (o : Outputs) (z : Result Both Told) (p : Outputs) : Type 0 where
  pub answer : z ≡ handed listed wanted
  pub in_rows : AnswerIn (of_traced (traced_row_numbers m)) wanted o.rows p.rows
  pub in_diagnostics : AnswerIn (of_traced traced_diag_numbers) wanted o.diags p.diags
  pub in_group_rows : AnswerIn (of_group group_row_numbers) wanted o.group-rows p.group-rows
  pub in_names : AnswerIn (of_group composed_names) wanted o.names p.names
  pub in_group_diagnostics : AnswerIn (of_group group_diag_numbers) wanted o.group-diags p.group-diags

-- the same of one that links the components too
pub record ListsLinked (wanted : Answer BothLists) (m : Tables) (o : Outputs) (z : Result Both Told) (p : Outputs) : Type 0 where
  pub lists : Lists wanted m o z p
  pub linked : (b : Both) → z ≡ Ok b → Linked m p.links
