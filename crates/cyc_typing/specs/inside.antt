-- the values of the specification that stand for the arguments and results of the functions that check the forms of expressions
pub mod Forms
-- comparisons for equality
pub mod Comparisons
