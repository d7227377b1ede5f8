-- Fields of a line.
--
--     Fields   how the code holds a field and its columns
pub mod Fields
