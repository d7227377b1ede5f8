-- How a reading compares names. Assumes nothing.
use Rattle.as5506.specs.Lists.{same_bytes}
use Rattle.as5506.specs.Names.{Comparison, same_folded}
use Rattle.name.specs.declared.Reading.{Reading}
use Rattle.name.specs.declared.Reading.TheVariants.{Ported, CaseIgnored}

-- "the ported one, which keeps the Rust's reading", and the second entry, "in which tracing compares features folded and the first child rule compares names
-- folded"
unfoldable pub comparison : Reading → Comparison
comparison Ported = same_bytes
comparison CaseIgnored = same_folded
