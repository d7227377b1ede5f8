-- Laws of the ends of a group connection. For callers: Answers and Others.
--
--     Steps     what each step of the code says of the definition
--     Answers   the component of an end is a row
--     Others    which tables the group of an end does not ask for
mod Steps
pub mod Answers
pub mod Others
