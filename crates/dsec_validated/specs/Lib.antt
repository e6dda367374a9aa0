pub mod Validated
pub mod SigCaches
pub mod Nsec3Caches
