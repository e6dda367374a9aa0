pub mod MessageSections
