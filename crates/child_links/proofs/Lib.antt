-- Laws of links.
--
--     Spelled   the rows that links lead through, and a row linked in among them
--     Filling   the children of every component, linked row by row; all rows linked make the link table
--     Search    the search for the slot of a row
--     Reading   a link that is read from the table
--     Answers   what the answer of the call tells a caller
pub mod Spelled
pub mod Filling
pub mod Search
pub mod Reading
pub mod Answers
pub mod Keyed
