-- the answers to the commands that check, compile or format a program
pub mod Work
pub mod Formatting
