-- A walk over an expansion.
--
--     Run    what an expansion does to what a walk carries, and when it is over the limit of visits
--     Calm   visits that are known to change nothing
--     Walks  what a walk does, and what it asks for
pub mod Run
pub mod Calm
pub mod Walks
