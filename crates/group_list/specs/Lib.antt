-- The contract of the group listing.
--
--     Answer   what the call answers and what its outputs hold
--     Ready    what is asked for
pub mod Answer
pub mod Ready
