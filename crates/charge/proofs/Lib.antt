pub mod Charging
pub mod Stated
pub mod Billing
