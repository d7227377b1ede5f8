-- The matches of group connections.
--
--     Matching   what a connection leaves in the outputs of matches and of diagnostics
--     Firsts     the first appearances of names, which are kept of a destination
--     Walked     what a walk of a source leaves, and what a connection of the code stands for
--     Ready      what matching asks for
pub mod Matching
pub mod Firsts
pub mod Walked
pub mod Ready
