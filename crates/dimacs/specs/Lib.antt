pub mod Import
pub mod Drawing
pub mod Export
pub mod File
