-- Laws of the certificates with a section of facts.
mod GuardLaws
pub mod RefinedLaws
-- the shape of the section of facts
mod StepEnds
mod RequiredBranches
mod FewRules
pub mod ShapedSections
