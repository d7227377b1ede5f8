-- Laws of resolving. For callers: Scan, Answers and Others.
--
--     Scan      a search of rows for the first that passes a test
--     Keys      a search by a key is the definition's
--     Rows      a row that is found by its key is one of its table and of its package
--     Steps     what each step of the code says of the definition
--     Answers   what is found is a row, and the definition's answer is read off the code's
--     Others    which tables resolving does not ask for
pub mod Scan
mod Keys
mod Rows
mod Steps
pub mod Answers
pub mod Others
