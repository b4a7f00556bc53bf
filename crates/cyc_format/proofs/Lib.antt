-- lemmas about the results of `format` and of the comparison of tokens
pub mod SameTokens
pub mod Answering
