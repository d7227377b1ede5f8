-- The ends of a group connection.
--
--     Ends   the answers of this crate as the definition has them, and the tests of a row
pub mod Ends
