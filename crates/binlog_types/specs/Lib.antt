pub mod Charsets
pub mod ColumnTypes
pub mod Found
