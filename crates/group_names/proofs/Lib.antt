-- Laws of composed names. For callers: Blocks and Named.
--
--     Names       the pieces of names are together the names of the definition's row
--     Blocks      matches read back from their blocks, and the numbers of their rows
--     Named       the matches whose names find room, and what composing leaves where all do
--     Joining     names joined by dots, as they are put
--     Composing   the loop over the matches, each replaced by its row
mod Names
pub mod Blocks
pub mod Named
mod Joining
mod Composing
