pub mod Amounts
pub mod Fixed
pub mod Adaptive
