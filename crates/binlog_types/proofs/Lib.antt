pub mod Numbers
pub mod Pairs
pub mod Walk
