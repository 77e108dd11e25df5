-- The words that request the analysis of a file, its analysis with facts, the best bounds on it, the check of a proof, and
-- the replay of a run.
use Rattle.std.specs.Prelude.{◌≡◌, [], ◌∷◌, codes, IsTrue}
use Rattle.command_line.specs.Lines.{Word, Words, is_value}
use Rattle.command_line.specs.Requests.{Request, OfProgram, OfPair, HasRequest}
use Rattle.command_line.specs.declared.task.ProgramTask.TheVariants.{Analyse, Facts, Best}
use Rattle.command_line.specs.declared.task.PairTask.TheVariants.{Check, Replay}

-- the words `analyse` and the name of a file
abbrev pub analyse_command : Word → Words
analyse_command file = codes "analyse" ∷ file ∷ []

-- the words `facts` and the name of a file
abbrev pub facts_command : Word → Words
facts_command file = codes "facts" ∷ file ∷ []

-- the words `best` and the name of a file
abbrev pub best_command : Word → Words
best_command file = codes "best" ∷ file ∷ []

-- the words `check` and the names of a program's file and of a proof's
abbrev pub check_command : Word → Word → Words
check_command file proof = codes "check" ∷ file ∷ proof ∷ []

-- the words `replay` and the names of a program's file and of a run's
abbrev pub replay_command : Word → Word → Words
replay_command file run = codes "replay" ∷ file ∷ run ∷ []

-- the words have this request, and no other one
pub record HaveOnlyRequest (words : Words) (request : Request) : Type 0 where
  pub requested : HasRequest words request
  pub alone : (other : Request) → HasRequest words other → other ≡ request

-- The words `analyse` and a name that doesn't begin with `-` request the analysis of the file of this name, with 10,000
-- pivots for each linear program; `facts` and such a name the same with facts, and `best` and such a name the best
-- bounds; `check` and two such names the check of the proof in the second file against the program in the first, and
-- `replay` that of the run in it. They request nothing else.
pub record WordsHaveRequests : Type 0 where
  pub of_analyse : (file : Word) → IsTrue (is_value file) → HaveOnlyRequest (analyse_command file) (OfProgram Analyse 10000 file)
  pub of_facts : (file : Word) → IsTrue (is_value file) → HaveOnlyRequest (facts_command file) (OfProgram Facts 10000 file)
  pub of_best : (file : Word) → IsTrue (is_value file) → HaveOnlyRequest (best_command file) (OfProgram Best 10000 file)
  pub of_check : (file proof : Word) → IsTrue (is_value file) → IsTrue (is_value proof)
      → HaveOnlyRequest (check_command file proof) (OfPair Check file proof)
  pub of_replay : (file run : Word) → IsTrue (is_value file) → IsTrue (is_value run)
      → HaveOnlyRequest (replay_command file run) (OfPair Replay file run)
