-- Laws of the group listing.
--
--     Matches   what matching leaves as a whole, the matches that have a partner, and how many numbers they take
--     Short     the lengths that composing relies on
--     Answers   the answer and the outputs, case by case
mod Matches
mod Short
mod Answers
