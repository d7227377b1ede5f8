-- Laws of lent slices, for callers.
--
--     Sets       a block written into a slice, and read back
--     Padded     a list, and zeros behind it
--     Pieces     pieces written one behind the other
--     Answered   an output that holds an answer, or is cleared after a refusal
pub mod Sets
pub mod Padded
pub mod Pieces
pub mod Answered
