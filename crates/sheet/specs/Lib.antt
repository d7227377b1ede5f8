-- What the reader's contracts cite.
--
--     Read    what a call of `read_sheet` gives and leaves
--     Steps   what the private functions say beside that
pub mod Read
pub mod Steps
