-- `children::found::named` meets its contract. Assumes nothing.
use mathlib.Core.Path.{refl, sym, ap, ◌∙◌}
use Rattle.std.proofs.Common.{rules}
use Rattle.as5506.specs.Tables.{name_of}
use Rattle.as5506.specs.Names.{base_name}
use Rattle.child_links.specs.Keys.{key_of}
use Rattle.child_links.specs.Trees.{of_tree}
use Rattle.children.specs.Found.{children_left}
use Rattle.children.proofs.Finding.{whole_key, base_key, by_name, none_named, by_element}
use Rattle.children.proofs.found.named.Goals as goal

pub invariant_of-whole : goal.invariant_of-whole
invariant_of-whole c = record { keyed = λ i h. whole_key _ _ _ i h ∙ sym (c.key_of.ensures ∙ ap key_of (c.base_name_of.ensures ∙ ap base_name c.name_of-name.ensures)) }

pub invariant_of-elements : goal.invariant_of-elements
invariant_of-elements c =
    record { keyed = λ i h. base_key _ _ (name_of (of_tree c.args.tree.now) c.args.wanted) (search rules) i h ∙ sym (c.key_of.ensures ∙ ap key_of (c.base_name_of.ensures ∙ ap base_name c.name_of-name.ensures)) }

pub returns-then-is_some-clause-left : goal.returns-then-is_some-clause-left
unfolding children_left
returns-then-is_some-clause-left c =
    by_name _ c.args.owner c.first_child-first.result c.find-found.result refl c.first_child-first.ensures.value c.find-found.ensures.value (λ e. search rules)

pub returns-clause-left : goal.returns-clause-left
unfolding children_left
returns-clause-left c =
    by_element _ c.args.owner c.first_child-first.result c.find.result refl c.first_child-first.ensures.value
    (none_named _ c.args.owner c.first_child-first.result c.find-found.result refl c.first_child-first.ensures.value c.find-found.ensures.value (search rules)) (search rules) c.find.ensures.value
