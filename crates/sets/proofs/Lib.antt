pub mod Bits
pub mod Sums
pub mod Steps
