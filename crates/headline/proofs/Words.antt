-- The words that ask for an analysis, for one with facts, for the check of a proof and for the replay of a run have one
-- request each.
use Rattle.std.proofs.Common.{[], ◌∷◌, None, refl}
use Rattle.std.specs.Prelude.{IsTrue}
use Rattle.command_line.specs.Lines.{Word, Words, Positional, is_plain, is_value}
use Rattle.command_line.specs.Requests.{Request, OfProgram, OfPair, HasRequest, command_of, word_of}
use Rattle.command_line.specs.declared.task.ProgramTask.{ProgramTask}
use Rattle.command_line.specs.declared.task.ProgramTask.TheVariants.{Analyse, Facts, Best}
use Rattle.command_line.specs.declared.task.PairTask.TheVariants.{Check, Replay}
use Rattle.command_line.specs.declared.task.PairTask.{PairTask}
use Rattle.command_line.proofs.OneWay.{read_in_one_way}
use Rattle.headline.specs.Words.{HaveOnlyRequest, WordsHaveRequests}

-- a word that doesn't begin with `-` is a positional
plain_of_value : (word : Word) → IsTrue (is_value word) → IsTrue (is_plain word)
plain_of_value [] h = refl
plain_of_value (b ∷ []) h = refl
plain_of_value (b ∷ c ∷ word) h = h

-- the word of a task for a program, and the name of a file
program_requested : (task : ProgramTask) (file : Word) → IsTrue (is_value file)
    → HasRequest (word_of (command_of (OfProgram task 10000 file)) ∷ file ∷ []) (OfProgram task 10000 file)
program_requested task file h = record {
  others = file ∷ [];
  values = [];
  positionals = file ∷ [];
  command = refl;
  gives = record {
    items = Positional file ∷ [];
    after_end = None;
    proper = (plain_of_value file h, tt);
    spelled = refl;
    has_values = refl;
    has_positionals = refl;
  };
  parts = record { allowed = refl; one = refl };
}

-- the word of a task for a program and a second file, and the names of two files
pair_requested : (task : PairTask) (file second : Word) → IsTrue (is_value file) → IsTrue (is_value second)
    → HasRequest (word_of (command_of (OfPair task file second)) ∷ file ∷ second ∷ []) (OfPair task file second)
pair_requested task file second h g = record {
  others = file ∷ second ∷ [];
  values = [];
  positionals = file ∷ second ∷ [];
  command = refl;
  gives = record {
    items = Positional file ∷ Positional second ∷ [];
    after_end = None;
    proper = (plain_of_value file h, (plain_of_value second g, tt));
    spelled = refl;
    has_values = refl;
    has_positionals = refl;
  };
  parts = record { no_option = refl; two = refl };
}

-- words with a request have no other one
have_request : (words : Words) (request : Request) → HasRequest words request → HaveOnlyRequest words request
have_request words request asked = record {
  requested = asked;
  alone = λ other also. read_in_one_way.one_request words other request also asked;
}

pub words_have_requests : WordsHaveRequests
words_have_requests = record {
  of_analyse = λ file h. have_request _ (OfProgram Analyse 10000 file) (program_requested Analyse file h);
  of_facts = λ file h. have_request _ (OfProgram Facts 10000 file) (program_requested Facts file h);
  of_best = λ file h. have_request _ (OfProgram Best 10000 file) (program_requested Best file h);
  of_check = λ file proof h g. have_request _ (OfPair Check file proof) (pair_requested Check file proof h g);
  of_replay = λ file run h g. have_request _ (OfPair Replay file run) (pair_requested Replay file run h g);
}
