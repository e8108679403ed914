pub mod Numerals
pub mod Words
pub mod Listed
pub mod Fields
pub mod Judged
pub mod Tallied
