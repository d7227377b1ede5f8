-- Names. What a name is and when two are equal: as5506's Names and Lists.
--
--     Pattern   what a pattern says
--     Reading   how a reading compares
pub mod Pattern
pub mod Reading
