-- Laws of the printed list. For callers: Printed.
--
--     Blocks     rows and diagnostics, block by block from the listings' outputs
--     Messages   the text of a diagnostic
--     Printed    the definition's list is the one that is printed
--     Pieces     what each function goes by that prints in pieces
mod Blocks
mod Messages
pub mod Printed
mod Pieces
