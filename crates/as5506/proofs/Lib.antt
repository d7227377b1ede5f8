-- Laws of the definition, its trials, and the theorems that contracts cite.
--
--     Laws          lists, tests and numbers that may be missing
--     Scans         what is left of a scan of rows, and what it keeps
--     Searches      a search for the first place that passes a test; whether a list has a number
--     Sorted        lists in an order, and rows sorted by keys
--     Members       the entries of mapped, joined and cut lists; lists of different entries
--     Letters       the orders of letters agree with each other; the byte that a line begins with
--     Fields        what a field of few columns can say, and the fields of a line one by one
--     Answers       answers that are given or refused
--     Whole         what the limit of steps takes of accepted tables, and demand 3's condition over lists
--     Accepted      accepted tables have it
--     Keys          the definition's clashes, and keys without one
--     Children      children in the order of the drawing: the rows that name the parent, ascending by place
--     Links         02 (xiii): children by links, what a link table holds, and that the walk along it gives the children by place
--     Ends          where chains end, and how long their paths are
--     Limit         tracing with and without a limit of steps
--     Demand        demand 3 over the definition, and 02 (ix), rows under two limits
--     Back          rows and diagnostics read back from their outputs
--     Allowed       whether 19 refuses a number that is taken for a limit
--     Output        what the traced listing hands back: demand 3, and 02 (ix), the lists of two limits
--     Entries       02 (vi): both entries give one list where all names that differ also differ folded
--     Widened       tables with the index in three numbers in place of one: refused as before
--     PaddedLines   lines with the index in six columns, padded: their rows, refused as before
--     IndexKept     02 (ii): a sheet written before keeps its index once padded
--     Modes         02 (xi): the selections are combinations, none twice; cut exactly if one is lacking; the selection at a number
--     TrialForms    how a trial is written
--     Trials        the trials, of reading (TrialsRead), resolving and expanding (TrialsFind), listing and printing (TrialsList), as one table
pub mod Laws
pub mod Scans
pub mod Searches
pub mod Sorted
pub mod Members
pub mod Letters
pub mod Fields
pub mod Answers
pub mod Whole
pub mod Limit
pub mod Ends
pub mod Accepted
pub mod Keys
pub mod Children
pub mod Links
pub mod Demand
pub mod Back
pub mod Allowed
pub mod Output
pub mod Entries
pub mod Widened
pub mod PaddedLines
pub mod IndexKept
pub mod Modes
pub mod TrialForms
pub mod TrialsRead
pub mod TrialsFind
pub mod TrialsList
pub mod Trials
