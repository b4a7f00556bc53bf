-- These modules define the outcomes (answers) of the program's commands, with their last lines and exit statuses.
pub mod Answer
-- This module defines the bytes of standard input and standard output in a run, and the final outcome of a command.
pub mod Console
