-- The words of the checks' contracts.
--
--     Answer   the answer for the definition's faults
--     Rule     the numbers of the rules
--     Letter   the letters, and what a check of each asks of its closure
--     Few      that tables are not too long
--     Rows     what a check asks of closures that are called with rows
--     Column   the fields of a row
--     Keys     the keys of rows
--     Ends     the bad rows of rule 8
pub mod Answer
pub mod Rule
pub mod Letter
pub mod Few
pub mod Rows
pub mod Column
pub mod Keys
pub mod Ends
