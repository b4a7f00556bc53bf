-- the answers of the command-line program to the commands that run, list or describe an image
pub mod Work
-- the texts that `run --report` and `info` write
pub mod Report
pub mod Info
