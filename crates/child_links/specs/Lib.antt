-- Children by links.
--
--     Linked    a link table that is filled, and what the call that fills it answers
--     Filling   a link table while it is filled
--     Keys      keys of names
--     Trees     the model that a tree is of, and how its names are compared
pub mod Linked
pub mod Filling
pub mod Keys
pub mod Trees
