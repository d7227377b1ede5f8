-- The contract of an expansion's call.
--
--     Answer   what the call answers and what its output holds
pub mod Answer
