-- The names of group rows.
--
--     Pairs     matches and their rows
--     Pieces    the pieces that names are written in, and a match read back from its block
--     Compose   what composing leaves in the outputs of rows and of names
pub mod Pairs
pub mod Pieces
pub mod Compose
