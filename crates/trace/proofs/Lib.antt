-- Laws of tracing. For callers: Scan and Others.
--
--     Scan   the steps that are left, row by row, and how chains begin by them
--     Others which tables found children and steps do not ask for
--     Rows   the rows of chains behind a path
pub mod Scan
pub mod Others
mod Rows
