pub mod NeedsFound
pub mod TokensCounted
