-- Laws of the graph of places and of its components.
pub mod Numbers
pub mod Places
pub mod EdgeLists
pub mod ReadPlaces
pub mod ProgramAnswers
pub mod FlowLaws
pub mod Listings
pub mod InnerFlows
pub mod FlowComponents
pub mod WorkedFlows
