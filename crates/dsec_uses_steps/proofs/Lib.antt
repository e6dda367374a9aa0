pub mod FrontLaws
pub mod GoingLaws
