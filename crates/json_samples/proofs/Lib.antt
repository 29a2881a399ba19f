pub mod OnTypes
pub mod OnValues
pub mod OnLines
