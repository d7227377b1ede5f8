-- What the exported calls tell.
--
--     Numbers       answers as numbers
--     Told          what the listings tell, and what their outputs hold
--     Records       diagnostics as records
--     WithRecords   what the listings tell that fill the caller's records, and what records and outputs hold
pub mod Numbers
pub mod Told
pub mod Records
pub mod WithRecords
