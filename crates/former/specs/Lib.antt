-- Lay and the former rule: open AsFormerly first.
-- Kept: lists of which some entries are kept. Choices: if the best vertex of a list passes a test, it is the best of those that pass.
-- Unseen: isolated vertices among the placed ones change neither the next vertex with edges nor the crossings at an end.
-- Runs (proofs): so the rule's list is the former one with the isolated vertices, but for the start, at the back. AsFormerly: the call, by either rule.
-- Weights that are and stay 1, and the definitions from before there were weights: open AsBefore first.
-- Units: layouts in which every edge weighs 1, and that the calls keep it. Forgetting: such a layout without its weights. AsBefore: every list of calls.
-- Reads: the calls that only read, the writer and the exporter. Starts: which starts weigh 1, and that reading gives what it gave. Listed (proofs): what
-- ringlist prints. The theorems stand in proofs/, what they say in specs/.
pub mod Kept
pub mod Choices
pub mod Unseen
pub mod AsFormerly
pub mod Units
pub mod Forgetting
pub mod AsBefore
pub mod Reads
pub mod Starts
