pub mod RisingPlaces
pub mod Extending
pub mod GoneFiles
mod Apart
mod ProfileLaws
