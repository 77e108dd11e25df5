-- The text that `prove` or `certify` writes is accepted by `check`.
use Rattle.std.specs.Prelude.{◌≡◌, ◌≢◌, ◌⊎◌, ℕ, ◌≤◌, List, length, Some, IsSome}
use Rattle.std.specs.FinMap.{get}
use Rattle.outside_io.specs.Counts.{Rose}
use Rattle.outside_io.specs.Files.{Files}
use Rattle.command_line.specs.Lines.{Word}
use Rattle.command_line.specs.Requests.{OfProgram, OfPair, HasRequest}
use Rattle.command_line.specs.declared.task.ProgramTask.{ProgramTask}
use Rattle.command_line.specs.declared.task.ProgramTask.TheVariants.{Prove, Certify}
use Rattle.command_line.specs.declared.task.PairTask.TheVariants.{Check}
use Rattle.call_plans.specs.declared.status.Status.{Status}
use Rattle.call_plans.specs.declared.status.Status.TheVariants.{Done, Unknown, Memory}
use Rattle.call_plans.specs.Calls.{SinkUse}
use Rattle.call_plans.specs.Meanings.{Appended}
use Rattle.koat_cli.specs.Calls.{Call}
use Rattle.koat_cli.specs.ProofTexts.{proof_limit}
use Rattle.koat_cli.specs.Ends.{Ends}

-- the shelf discloses these contents, and neither its count of faults nor that of the sink rises
pub record IsSteady (call : Call) (put : SinkUse) (files : Files) : Type 0 where
  pub held : call.shelf.files_if_disclosed ≡ Some files
  pub no_read_fault : ¬ (Rose call.shelf.faults_before call.shelf.faults_after)
  pub no_write_fault : ¬ (Rose put.faults_before put.faults_after)

-- `prove` or `certify` wrote this text for the program in a file with these bytes: a call requested it, with some number
-- of pivots, the file being held and no count of faults rising; it ended with `Done` or `Unknown`, the latter only with
-- `prove`; and the sink discloses that this text was appended
pub record WroteProofText (bytes text : List ℕ) : Type 0 where
  pub call : Call
  pub put : SinkUse
  pub files : Files
  pub task : ProgramTask
  pub writes : (task ≡ Prove) ⊎ (task ≡ Certify)
  pub pivots : ℕ
  pub file : Word
  pub asked : HasRequest call.words (OfProgram task pivots file)
  pub steady : IsSteady call put files
  pub held : get files file ≡ Some bytes
  pub status : Status
  pub proved : (status ≡ Done) ⊎ (status ≡ Unknown)
  pub ends : Ends status call put
  pub is_disclosed : IsSome put.written_before
  pub appended : Appended put text

-- the words request the check of one file against another, the shelf discloses that it holds them with these bytes, and
-- no count of faults rises
pub record RequestsCheck (call : Call) (put : SinkUse) (bytes text : List ℕ) : Type 0 where
  pub files : Files
  pub file : Word
  pub second : Word
  pub asked : HasRequest call.words (OfPair Check file second)
  pub steady : IsSteady call put files
  pub held : get files file ≡ Some bytes
  pub second_held : get files second ≡ Some text

-- the text that `prove` or `certify` wrote for a program, if it has at most 67,108,864 bytes, is accepted by `check` for
-- the same program: any call that requests it, the two files being held and no count of faults rising, ends with
-- `Done`, if memory suffices
pub record WhatIsProvedIsAccepted : Type 0 where
  pub each : (bytes text : List ℕ) → WroteProofText bytes text → length text ≤ proof_limit
      → (call : Call) (put : SinkUse) (s : Status) → RequestsCheck call put bytes text → Ends s call put → s ≢ Memory
      → s ≡ Done
