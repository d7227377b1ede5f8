-- The digits of a number, and the table that they come from.
--
--     Powers   the powers of ten, each ten times the one before
--     Spelt    so many digits of a number, from the front
pub mod Powers
pub mod Spelt
