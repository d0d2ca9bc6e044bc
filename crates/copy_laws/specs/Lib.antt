-- What holds of the whole-path copy after every list of calls. The claims are in `Claims`, and proved in proofs/Theorems; what leads there stands in this order.

-- paths as document 01 has them, and tables of tokens
pub mod Walks
pub mod Routes
pub mod Tables
-- facts carried through the passes, with or without the claim that nothing is cut
pub mod Drops
pub mod Begun
-- the invariant: of a token, of a table, of a state
pub mod Sums
pub mod Shapes
pub mod Tokens
pub mod Active
pub mod Kept
pub mod States
-- the queue ends; where nothing is cut, every path is covered
pub mod Spending
pub mod Ends
pub mod Within
pub mod Closing
pub mod Least
-- lists of calls, and the copy that is told
pub mod Points
pub mod Cuts
pub mod Agrees
pub mod Told
-- what is read
pub mod Ranks
pub mod Sooner
pub mod Listed
pub mod Distinct
pub mod Stamps
pub mod Segments
-- below joins, and the Rust's own forms
pub mod Below
pub mod Bounds
pub mod Costs
pub mod Relative
pub mod Ways
pub mod Folded
pub mod Groups
pub mod Traces
-- the claims
pub mod Claims
pub mod Sayings
pub mod Refusals
pub mod StartSums
-- closed cases
pub mod Cases
