-- The rules by which a name finds children, and the key of those that it can find. Assumes nothing.
use Rattle.std.specs.Prelude.{Bool, true, ◌≡◌, List, ℕ}
use Rattle.as5506.specs.Tables.{Tables}
use Rattle.as5506.specs.Names.{Comparison}
use Rattle.as5506.specs.Tracing.{is_named, is_element}
use Rattle.child_links.specs.Keys.{component_key}
use Rattle.children.specs.declared.Rule.{Rule}
use Rattle.children.specs.declared.Rule.TheVariants.{Whole, Base}

-- component i by a rule: names that the comparison takes for one, or "an array index" and a "name up to the first `[`" that "is equal folded"
unfoldable pub fits : Comparison → Tables → Rule → List ℕ → ℕ → Bool
fits same m Whole w i = is_named same m w i
fits same m Base w i = is_element m w i

-- each component that the name w finds by the rule has the key k
abbrev pub HaveKey : Comparison → Tables → Rule → List ℕ → ℕ → Type 0
HaveKey same m rule w k = (i : ℕ) → fits same m rule w i ≡ true → component_key m i ≡ k
