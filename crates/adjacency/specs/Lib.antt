pub mod Layout
pub mod LeadsBack
