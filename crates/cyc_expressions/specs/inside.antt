-- the contracts between the functions that check expressions
pub mod Walks
