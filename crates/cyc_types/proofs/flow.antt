-- examples, by computation
pub mod Examples
