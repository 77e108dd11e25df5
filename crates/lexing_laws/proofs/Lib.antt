pub mod FrontLaws
pub mod FitLaws
pub mod LastLaws
