pub mod Binomials
pub mod Lists
pub mod Search
