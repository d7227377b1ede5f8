-- Laws of printed numbers. For callers: Columns, Each.
--
--     Digits    the decimal digits of a number, and how many there are
--     Table     the table of powers
--     Spelt     digits from the front, found by subtracting
--     Columns   numbers over the end of columns
--     Each      a loop that prints the entries of a list
mod Digits
mod Table
mod Spelt
pub mod Columns
pub mod Each
