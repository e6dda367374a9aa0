-- Laws about what is found of a reply.
pub mod FoundLaws
