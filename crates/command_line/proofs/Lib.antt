-- the first word after the command decides the first item
pub mod Firsts
-- what words give with one word more
pub mod StepLaws
-- words are read in one way
pub mod OneWay
-- the words after a command
pub mod Commands
-- the worked values hold
pub mod WorkedLines
pub mod WorkedOthers
