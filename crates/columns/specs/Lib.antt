-- The fields of rows.
--
--     Side        the side of a connection that a value of the code stands for
--     Reference   the reference that one stands for
pub mod Side
pub mod Reference
