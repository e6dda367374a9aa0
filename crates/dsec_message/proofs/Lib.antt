pub mod SectionReading
