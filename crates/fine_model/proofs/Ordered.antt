-- Lists, and pairs and keys in the order of their bytes.
pub mod Order
pub mod Sets
pub mod Pairs
pub mod Gathered
pub mod KeptPairs
pub mod AllPairs
pub mod FewPairs
pub mod Times
pub mod Zip
pub mod Parts
pub mod Nothing
pub mod Arranged
pub mod Permuted
pub mod Lists
pub mod InOrder
pub mod Digits
