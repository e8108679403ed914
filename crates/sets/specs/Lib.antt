pub mod Members
pub mod Sums
pub mod Parity
pub mod Steps
