-- References between group types, resolved once each.
--
--     Links   the number that stands for what a reference means, and the three tables of them
--     Walk    an expansion over those tables
pub mod Links
pub mod Walk
