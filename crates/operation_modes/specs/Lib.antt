-- Selections of modes.
--
--     Linked      the modes of each component as a chain of M rows
--     Combining   how many combinations of modes there are
--     Answer      what the calls answer and what their outputs hold
--     Handed      what the calls hand back, in the words of 02
pub mod Linked
pub mod Combining
pub mod Answer
pub mod Handed
