-- Laws of an expansion's call.
--
--     Blocks    the output of a walk that writes all features, block behind block
--     Answers   the answer and the output, case by case: of the walk, of the tables' check, of the whole call
mod Blocks
mod Answers
