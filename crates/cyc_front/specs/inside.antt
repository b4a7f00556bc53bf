-- the results of the front end's phases for a source text, as the code stores them
pub mod Phases
