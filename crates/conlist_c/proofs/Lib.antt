-- Laws of the exported calls.
--
--     Records   from what a listing leaves in its output of diagnostics to the records
--     Laid      from a listing in the front of the numbers that are lent for records to all of them, and to the records
pub mod Records
mod Laid
