-- The rows and the diagnostics of each connection.
--
--     Rows          the rows of some pairs of a connection, and of all by its ends
--     Diagnostics   the codes of diagnostics, and the diagnostics of a connection by its ends
--     Ends          what its ends say of it
--     Told          what is told of all connections
pub mod Rows
pub mod Diagnostics
pub mod Ends
pub mod Told
