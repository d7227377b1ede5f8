-- Laws of selections of modes.
--
--     Linking     the modes of each component, linked in one pass over the M rows
--     Combining   the combinations, one component after the other until they pass the limit
--     Choosing    the selection at a number, one component after the other
--     Joining     the joined name, one piece behind the other
--     Answers     the number of selections, and the ways out of the call for one, of accepted tables
--     Calls       the same of any tables, and the outputs after the call
--     Handed      the words of 02 (xi), of what the calls hand back
mod Linking
mod Combining
mod Choosing
mod Joining
mod Answers
mod Calls
mod Handed
