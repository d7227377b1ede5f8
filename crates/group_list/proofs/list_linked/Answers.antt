-- `group_list::list_linked` meets its contract: a tree of the tables is listed. Assumes nothing.
use Rattle.as5506.specs.Tables.{letter_c, letter_x}
use Rattle.child_links.proofs.Answers.{few-linked}
use Rattle.group_list.proofs.list_linked.Goals as goal

pub invariant_of-tree : goal.invariant_of-tree
invariant_of-tree c =
    let linked = c.requires.linked in
    record { linked = linked; keyed = c.key_names.ensures; components = few-linked _ _ linked letter_c; connections = few-linked _ _ linked letter_x }
