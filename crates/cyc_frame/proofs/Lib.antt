-- the proof that the stack frames are correct and that a reported function is the first one whose frame has too many words
pub mod Sound
