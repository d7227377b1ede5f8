-- Laws of what is done with a feature.
--
--     Ready     what a purpose asks for, and that it stays so
--     Dull      features that change nothing
--     Buffers   the lent slices that a walk stays in
--     Blocks    the block of a feature, and that of a match
--     Search    the search for a partner
pub mod Ready
pub mod Dull
pub mod Buffers
pub mod Blocks
mod Search
