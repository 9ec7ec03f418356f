-- Rows sorted by node and merged.
pub mod NodesIn
pub mod MergeLaws
pub mod MergedRows
pub mod MergedLen
pub mod MergedOrder
pub mod MergedRuns
pub mod NodeOrder
pub mod NodesAscend
pub mod FitMerged
pub mod Unstable
pub mod UpTo
