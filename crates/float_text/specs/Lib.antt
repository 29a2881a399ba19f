pub mod Closest
pub mod JsonSizes
pub mod Layout
pub mod Limbs
pub mod ReadBack
pub mod Search
pub mod Shortest
pub mod Stored
