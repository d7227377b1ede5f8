-- Laws of the rows and the diagnostics of each connection. How a loop brings on what is left to write: output's Writing.
--
--     PairLaws   the rows of pairs
--     DiagLaws   diagnostics
--     EndLaws    what the ends of a connection say of it
--     Fronts     what is written of the first X rows, and of one more
mod PairLaws
mod DiagLaws
mod EndLaws
mod Fronts
