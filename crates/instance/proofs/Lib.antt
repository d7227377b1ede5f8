-- Laws of the traced listing.
--
--     Answers   the call's answer and outputs, case by case
--     Limits    02 (ix): what two calls hand back
mod Answers
mod Limits
