pub mod OnBytes
pub mod OnSets
pub mod OnWords
pub mod GrownFiles
pub mod NextLooks
pub mod Paths
pub mod Windows
