-- Laws of the links. For callers: Tables, Walk, Range and Others.
--
--     Rows    what each step of the code says of the links, and a table that is filled row by row
--     Tables  the tables of links, read by row
--     Walk    an expansion over the tables of links is the definition's
--     Range   the features of an expansion
--     Others  which tables the links do not ask for
mod Rows
pub mod Tables
pub mod Walk
pub mod Range
pub mod Others
