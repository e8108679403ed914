pub mod Choose
pub mod Deadly
pub mod Extends
pub mod RiskOf
