-- the answer to a request for the description of a fault code
pub mod Page
