-- Laws of names. For callers: Compare.
--
--     Compare   when two names are equal
--     Scan      tests of all bytes, and the name up to its first bracket
--     Pattern   the text of a pattern
pub mod Compare
mod Scan
mod Pattern
