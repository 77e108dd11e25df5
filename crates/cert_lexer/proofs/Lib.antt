-- The grammar of proof files can be read.
pub mod ReadableGrammar
-- the position of a name among others
mod Positions
-- reading a bound
pub mod BoundLaws
-- packed pieces
pub mod PackedLaws
-- bounds within the limits are the answers to the pieces that spell them, and no others
pub mod BoundTexts
-- pieces of a class, and the bytes of a piece
pub mod PieceClasses
pub mod CutBack
pub mod InnerBack
pub mod PlaceBack
-- worked values
mod WorkedBounds
-- the pieces of bounds, and how they are cut from their bytes again
pub mod BoundCuts
pub mod BoundBack
-- outlines and levels represent the pieces read so far
pub mod MarkMoves
pub mod OutlineLaws
pub mod BracketMarks
pub mod FollowLaws
pub mod ItemLaws
pub mod OutlineStepLaws
pub mod ListLaws
pub mod ShallowLaws
pub mod DeepLaws
pub mod LevelsLaws
pub mod FollowerLaws
