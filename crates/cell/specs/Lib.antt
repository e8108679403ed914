pub mod Kinds
pub mod Bytes
pub mod Passages
pub mod SumLaws
