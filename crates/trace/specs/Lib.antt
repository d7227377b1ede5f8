-- Tracing connections.
--
--     Steps   the steps that are left from a row on and behind a step, and how chains begin
--     Ends    the end that a chain has come to, and the rows of chains behind a path
pub mod Steps
pub mod Ends
