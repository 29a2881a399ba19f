pub mod Order
pub mod Apart
pub mod ProfileLaws
