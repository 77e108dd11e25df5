-- rules that were read of a program
pub mod Rows
