-- What is done with the features of an expansion.
--
--     Take   a feature, what a walk carries, and what a feature does to it
--     Dull   a feature that changes nothing any more
pub mod Take
pub mod Dull
