-- What `check` wrote on a program: facts, or facts at symbols and statements of claims, that hold on all of its runs,
-- whoever made the proof.
use Rattle.std.specs.Prelude.{◌≡◌, ◌⊎◌, ℕ, List, ◌++◌, codes, IsTrue}
use Rattle.std.specs.List.{All, flat_map}
use Rattle.std.specs.Io.KnownBytes.{Appends}
use Rattle.std.specs.Process.{exit_status}
use Rattle.std.specs.declared.process.ExitCode.{ExitCode}
use Rattle.model.specs.Programs.{Program}
use Rattle.model.specs.Facts.{Fact, Holds}
use Rattle.its_text.specs.Spelling.{Spells}
use Rattle.its_writer.specs.Texts.{canonical_text}
use Rattle.its_writer.specs.Spellable.{IsSpellable}
use Rattle.check_text.specs.Texts.{fact_line, gap_line}
use Rattle.program_claims.specs.Claims.{Stated, AllHoldOf}
use Rattle.symbol_facts.specs.Facts.{SymbolFact, IsSymbolFact}
use Rattle.claims_text.specs.Symbols.{symbol_fact_line}
use Rattle.claims_text.specs.Statements.{stated_line}
use Rattle.command_line.specs.Lines.{Word, is_value}
use Rattle.call_plans.specs.Calls.{SinkUse}
use Rattle.koat_cli.specs.Calls.{Call}
use Rattle.headline.specs.Words.{check_command}
use Rattle.headline.specs.Premises.{WasCalled}

-- That a proof is accepted was appended, whole, to the output: a line for each of its facts, in order, and then one for
-- each gap's rule. Every fact holds on every run of the program, from any integers and by any choice of rules.
pub record WroteFacts (p : Program) (put : SinkUse) (facts : List Fact) : Type 0 where
  pub gaps : List ℕ
  pub appended : Appends put.written_before put.written_after
      (codes "accepted\n" ++ (flat_map (fact_line p.start_names) facts ++ flat_map gap_line gaps))
  pub hold : All (Holds p) facts

-- That a proof of the third form is accepted was appended, whole, to the output: a line for each of some facts at
-- symbols, and one for what each of its claims states, in order. On every run of the program, from any integers and by
-- any choice of rules, each fact holds whenever the run is at its symbol, and so does every statement.
pub record WroteStatements (p : Program) (put : SinkUse) (facts : List SymbolFact) (stated : List Stated) : Type 0 where
  pub appended : Appends put.written_before put.written_after
      (codes "accepted\n" ++ (flat_map (symbol_fact_line p) facts ++ flat_map (stated_line p) stated))
  pub facts_hold : All (IsSymbolFact p) facts
  pub hold : AllHoldOf p stated

-- Facts of a proof were written, or facts at symbols and what the claims of one state; all of it holds on all runs.
abbrev pub WroteWhatHolds : Program → SinkUse → Type 0
WroteWhatHolds p put =
    ((facts : List Fact) × WroteFacts p put facts)
    ⊎ ((facts : List SymbolFact) × (stated : List Stated) × WroteStatements p put facts stated)

-- The headline of `check`. A process that was to check a proof against a file with the canonical text of a program, which is
-- one that can be spelled, and ended with status 0, wrote facts or statements that hold on all runs of the program;
-- whatever the proof's file held, whose name doesn't begin with `-` either.
pub record CheckedFactsHold : Type 0 where
  pub each : (code : ExitCode) (call : Call) (put : SinkUse) (file proof : Word) (p : Program)
      → WasCalled code call put (check_command file proof) file (canonical_text p) → IsTrue (is_value proof) → IsSpellable p
      → exit_status code ≡ 0 → WroteWhatHolds p put

-- The same for a file with any text that spells a program.
pub record FactsOfAnyTextHold : Type 0 where
  pub each : (code : ExitCode) (call : Call) (put : SinkUse) (file proof : Word) (text : List ℕ) (p : Program)
      → WasCalled code call put (check_command file proof) file text → IsTrue (is_value proof) → Spells text p
      → exit_status code ≡ 0 → WroteWhatHolds p put
