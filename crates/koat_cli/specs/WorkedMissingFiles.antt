-- Worked values of the answers of commands, if a shelf lacks a file, or holds an empty one.
use Rattle.std.specs.Prelude.{◌≡◌, ℕ, List, [], ◌∷◌, ◌++◌, Some, codes}
use Rattle.std.specs.List.{AllByRecursion}
use Rattle.std.specs.FinMap.{empty, insert}
use Rattle.command_line.specs.Lines.{Word, Words}
use Rattle.call_plans.specs.declared.status.Status.{Status}
use Rattle.call_plans.specs.declared.status.Status.TheVariants.{ReadFault, ProgramRefused}
use Rattle.call_plans.specs.Calls.{ShelfUse}
use Rattle.call_plans.specs.OnFiles.{read_fault_text}
use Rattle.koat_cli.specs.WorkedAnswers.{Answered}

-- a shelf without faults that discloses that it holds an empty file of this name, and no other; one file was fetched
-- from it, after none before
abbrev pub holding : Word → ShelfUse
holding name = record {
  files_if_disclosed = Some (insert empty name []);
  faults_before = 0;
  faults_after = 0;
  fetches_after = Some 1;
  taken = 0;
}

-- on such a shelf the answer to these words is this status and this text, and no other status
pub record IsAnsweredAlone (name : Word) (status : Status) (text : List ℕ) (words : Words) : Type 0 where
  pub answered : Answered words (Some 0) (holding name) status text
  pub alone : (other : Status) (bytes : List ℕ) → Answered words (Some 0) (holding name) other bytes → other ≡ status

-- commands on a program `p`, and on a second file `q`, if they read one; and commands on another file `p`
abbrev pub program_words : List Words
program_words =
    (codes "analyse" ∷ codes "p" ∷ [])
    ∷ (codes "check" ∷ codes "p" ∷ codes "q" ∷ [])
    ∷ (codes "lasso" ∷ codes "p" ∷ codes "q" ∷ [])
    ∷ []

abbrev pub other_words : List Words
other_words =
    (codes "lp" ∷ codes "p" ∷ []) ∷ (codes "while" ∷ codes "p" ∷ []) ∷ (codes "translate" ∷ codes "p" ∷ []) ∷ []

-- the replay of a run `-q` of the program `p`
abbrev pub replay_words : Words
replay_words = codes "replay" ∷ codes "p" ∷ codes "--" ∷ codes "-q" ∷ []

-- if `p` is missing, the answer is a fault of reading and no other, though the second file exists and has no text of
-- its kind; and if `p` exists and is empty, it is a refusal of `p` and no other, though the second file is missing
pub record FilesAreReadInOrder : Type 0 where
  pub lacking : AllByRecursion (IsAnsweredAlone (codes "q") ReadFault read_fault_text) (program_words ++ other_words)
  pub lacking_replayed : IsAnsweredAlone (codes "-q") ReadFault read_fault_text replay_words
  pub empty_program : AllByRecursion
      (IsAnsweredAlone (codes "p") ProgramRefused (codes "program refused at 0: MissingSection\n"))
      (replay_words ∷ program_words)
  pub empty_other : AllByRecursion
      (IsAnsweredAlone (codes "p") ProgramRefused (codes "program refused at 0: Syntax\n")) other_words
