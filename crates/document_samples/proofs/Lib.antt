pub mod OnDocuments
pub mod Unspelled
