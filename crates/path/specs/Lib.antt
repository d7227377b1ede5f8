-- A path.
--
--     Places   a list in places, with zeros behind, is known by its numbers
pub mod Places
