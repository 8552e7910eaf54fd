pub mod Weighing
pub mod Same
pub mod Demands
