-- The answers of each command, one command a file: with which statuses, exactly when, and with which texts.
pub mod Analyse
pub mod Prove
pub mod Facts
pub mod Best
pub mod Certify
pub mod Check
pub mod Replay
pub mod Lasso
pub mod Generate
pub mod Selfrun
pub mod Lp
pub mod While
pub mod Translate
