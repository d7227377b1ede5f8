-- Laws of the matches of group connections, for callers (Loop) and for the functions of this crate.
--
--     Range         what is known of the features of an expansion that is matched
--     Firsts        the first appearances of names, which a walk keeps of a destination
--     Partners      a search of them finds the definition's partner, and a walk of a source leaves its matches
--     Walks         what a link means, and the walks of both ends of a connection
--     Connections   one X row
--     Loop          the connections of all X rows, one after the other
mod Range
mod Firsts
mod Partners
mod Walks
mod Connections
pub mod Loop
