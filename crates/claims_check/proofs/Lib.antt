mod BelowLaws
mod ExpansionLaws
mod PositionLaws
mod PairLaws
mod BoundLaws
mod VerdictLaws
mod ListLaws
mod StatementLaws
