-- What the calls of this crate do beyond lib's lists, and how contracts of other crates speak of what is lent.
--
--     Append     pieces written one behind the other into an output, and how much of it is used
--     Printed    what printing from the front of an output leaves in it
--     Answered   what an output holds after an answer, before a refusal clears it
--     Lent       the tables that a contract speaks of
--     Model      the model that lent tables are, and models that have some of a model's tables
pub mod Append
pub mod Printed
pub mod Answered
pub mod Lent
pub mod Model
