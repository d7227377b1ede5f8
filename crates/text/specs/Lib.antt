-- What printing leaves in the output of text.
--
--     Printing   the listings' outputs, and the list as it is printed from them
--     Listed     the list of what both listings gave
pub mod Printing
pub mod Listed
