pub mod Rows
pub mod Layouts
pub mod LeadsBack
