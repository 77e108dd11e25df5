-- Which requests have one answer at most.
use Rattle.std.specs.Prelude.{⊤}
use Rattle.command_line.specs.Lines.{Words}
use Rattle.command_line.specs.Requests.{Request, OfProgram, OfPair, OfNumber, OfFile, While, HasRequest}
use Rattle.command_line.specs.declared.task.ProgramTask.{ProgramTask}
use Rattle.command_line.specs.declared.task.ProgramTask.TheVariants.{Analyse, Prove, Facts, Best, Certify}

-- what the task writes of a program is determined by the program and the pivots; of `best` and `certify` only that it is
-- true is stated, whichever bounds are found
abbrev pub IsDeterminedTask : ProgramTask → Type 0
IsDeterminedTask Analyse = ⊤
IsDeterminedTask Prove = ⊤
IsDeterminedTask Facts = ⊤
IsDeterminedTask Best = ⊥
IsDeterminedTask Certify = ⊥

-- the answer to the request is determined by the contents of its files
abbrev pub IsDetermined : Request → Type 0
IsDetermined (OfProgram task pivots file) = IsDeterminedTask task
IsDetermined (OfPair task file second) = ⊤
IsDetermined (OfNumber task n) = ⊤
IsDetermined (OfFile task file) = ⊤
IsDetermined (While pivots file) = ⊤

-- the answer to these words is determined by the contents of the files
abbrev pub AreDetermined : Words → Type 0
AreDetermined words = (request : Request) → HasRequest words request → IsDetermined request
