-- The number of words that a frame needs is defined in `cyc_meaning`. The module below has the contract of counting the words of a
-- frame one list element at a time.
pub mod Needs
