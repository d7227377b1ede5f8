-- Laws of reading a case.
--
--     Taking   what is taken, piece by piece
pub mod Taking
