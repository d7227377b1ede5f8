-- Laws of the checks. For callers: Answers and Facts.
--
--     Scans     the loop that looks for an earlier row with a key
--     Order     checks one after the other
--     Letters   what holds of all letters
--     Facts     what acceptance says of tables
--     Answers   what the answer of the checks tells
mod Scans
mod Order
mod Letters
pub mod Facts
pub mod Answers
