-- Laws of run files and their texts, and of replays and their tallies.
pub mod RuleNumbers
pub mod RunParts
pub mod RunText
pub mod RunsApart
pub mod WorkedRuns
pub mod ReplayFaults
pub mod ReplayRuns
pub mod ReplayTallies
pub mod ReplayStands
mod ReplayLaws
mod WorkedReplays
