-- Laws of what is written piece by piece.
--
--     Put       one text of several parts, and a loop that prints what is left of it
--     Writing   what is left to write in blocks, and how a call brings it on
pub mod Put
pub mod Writing
