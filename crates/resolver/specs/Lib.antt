-- Resolving a reference.
--
--     Keys    what a scan of a table asks of a row
--     Found   the answers of the code, as the definition has them
pub mod Keys
pub mod Found
