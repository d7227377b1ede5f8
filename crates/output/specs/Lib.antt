-- What is written piece by piece into an output that is lent for it.
--
--     Put      what a call that prints a part of a text leaves
--     Blocks   blocks of numbers written one behind the other
pub mod Put
pub mod Blocks
