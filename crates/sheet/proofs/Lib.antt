-- Laws of the reader.
--
--     Letters   letters, their places in the order, and a line's letter
--     Lines     the first line of a sheet
--     Rows      the lines of a letter and their rows
--     Check     the check, and what a line without fault is
--     Order     lines in order: the first one, and where the lines of a letter end
--     Put       the passes that write the tables
--     Whole     a sheet that is read, and the end of a call
--     Model     for callers: what a success hands over
--     Kept      02 (ii): a padded sheet hands back the index of before
pub mod Letters
pub mod Lines
pub mod Rows
pub mod Check
pub mod Order
pub mod Put
pub mod Whole
pub mod Model
pub mod Kept
