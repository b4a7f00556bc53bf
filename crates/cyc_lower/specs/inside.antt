-- the contracts in which the functions of the emitter describe the code that they append
pub mod Emission
