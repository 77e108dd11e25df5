-- The answers of commands, if a shelf lacks a file, or holds an empty one.
use Rattle.std.proofs.Common.{◌≡◌, ℕ, List, [], Some, None, refl, ◌∙◌, inl, inr, arith, codes}
use Rattle.std.specs.Fmt.{digits}
use Rattle.std.specs.Cmp.Lexicographic.{slice_cmp, nat_list_cmp_total}
use Rattle.std.specs.Ordering.{nat_cmp}
use Rattle.std.specs.FinMap.{get, empty, insert, get-insert, get-empty}
use Rattle.outside_io.specs.Counts.{Rose}
use Rattle.outside_io.specs.Files.{Files}
use Rattle.its_reader.specs.its_text.Kinds.{MissingSection}
use Rattle.its_reader.proofs.its_text.VerdictLaws.{verdicts_are_right}
use Rattle.text_grammar.specs.Texts.{reader}
use Rattle.text_grammar.specs.ByteTexts.{tokens}
use Rattle.text_grammar.proofs.text_core.FirstFaults.{answer_is}
use Rattle.text_grammar.proofs.ReaderLaws.{reader_laws}
use Rattle.lp_text.specs.declared.kind.LpKind.TheVariants as lp
use Rattle.lp_text.specs.Texts.{lps}
use Rattle.lp_text.proofs.LpParts.{lps_lawful}
use Rattle.command_line.specs.Lines.{Word, Words}
use Rattle.command_line.specs.Requests.{Request, OfProgram, OfPair, OfFile, While, HasRequest}
use Rattle.command_line.specs.declared.task.ProgramTask.TheVariants.{Analyse}
use Rattle.command_line.specs.declared.task.PairTask.TheVariants.{Check, Replay, Lasso}
use Rattle.command_line.specs.declared.task.FileTask.TheVariants.{Lp, Translate}
use Rattle.command_line.proofs.WorkedLines.{command_lines}
use Rattle.while_answer.specs.while_text.declared.kind.Kind.TheVariants as whiles
use Rattle.while_answer.proofs.WorkedAnswers.{nothing_written}
use Rattle.call_plans.specs.declared.status.Status.{Status}
use Rattle.call_plans.specs.declared.status.Status.TheVariants.{ReadFault, ProgramRefused}
use Rattle.call_plans.specs.Kinds.{TextKind}
use Rattle.call_plans.specs.OnFiles.{read_fault_text, IsNoText, Unread, Bad, WithoutText}
use Rattle.call_plans.specs.Plans.{IsAnswerByPlan}
use Rattle.call_plans.proofs.Faults.{fails_if_lacking_without_rise}
use Rattle.call_plans.proofs.OneEnding.{answer_unique}
use Rattle.koat_cli.specs.LpTexts.{linear_programs}
use Rattle.koat_cli.specs.ProgramTexts.{programs}
use Rattle.koat_cli.specs.RequestPlans.{plan_of}
use Rattle.koat_cli.specs.WhileTexts.{while_programs}
use Rattle.koat_cli.specs.Answers.{ToRequest}
use Rattle.koat_cli.specs.WorkedMissingFiles.{holding, IsAnsweredAlone, FilesAreReadInOrder}
use Rattle.koat_cli.proofs.Determined.{Determined}
use Rattle.koat_cli.specs.OneAnswer.{IsDetermined}
use Rattle.koat_cli.proofs.LawfulPlans.{plans_lawful}
use Rattle.koat_cli.proofs.OneRequest.{answer_of}

-- the files of a shelf with one file
abbrev one_file : Word → Files
one_file name = insert empty name []

-- the shelf has no fault
pub steady : ¬ (Rose 0 0)
steady (inl more) = omega (arith, more)
steady (inr most) = omega (arith, most)

-- the look-up of names in the files that the shelf holds
lacks_program : get (one_file (codes "-q")) (codes "p") ≡ None
lacks_program = get-insert nat_list_cmp_total empty (codes "-q") [] (codes "p") ∙ get-empty (slice_cmp nat_cmp) (codes "p")

pub lacks_checked : get (one_file (codes "q")) (codes "p") ≡ None
lacks_checked = get-insert nat_list_cmp_total empty (codes "q") [] (codes "p") ∙ get-empty (slice_cmp nat_cmp) (codes "p")

pub has_program : get (one_file (codes "p")) (codes "p") ≡ Some []
has_program = get-insert nat_list_cmp_total empty (codes "p") [] (codes "p")

-- an answer of the plan of a request whose answer is determined is the only one on such a shelf
alone : Determined → {words : Words} {name : Word} {s : Status} {x : List ℕ} (r : Request) → HasRequest words r
    → IsDetermined r → IsAnswerByPlan (holding name) (Some 0) (plan_of r) s x → IsAnsweredAlone name s x words
alone laws {words} {name} {s} {x} r asked one on = record {
  answered = ToRequest r asked on;
  alone = λ t y reply.
      (answer_unique (holding name) (one_file name) (Some 0) (plan_of r) refl (plans_lawful laws r one) t s y x
      (fails_if_lacking_without_rise (holding name) steady t) (fails_if_lacking_without_rise (holding name) steady s)
      (answer_of (record { words = words; fetches_before = Some 0; shelf = holding name }) r t y asked reply) on).0;
}

-- the file `p` is lacking, beside another one
pub lacks : {T : Type 0} {kind : TextKind T} → IsNoText kind (holding (codes "q")) (codes "p") ReadFault read_fault_text
lacks = Unread (record { fault = inr lacks_checked; result_is = refl; ends = refl })

-- an empty file is no program, no linear program, and no while program
pub no_program : IsNoText programs (holding (codes "p")) (codes "p") ProgramRefused
    (codes "program refused at 0: MissingSection\n")
unfolding digits
no_program =
    Bad (record {
      bytes = [];
      fetched = record { held = has_program; taken = refl; within = omega arith };
      refused = record {
        fault = record { kind = MissingSection; at = 0 };
        refused = refl;
        first = verdicts_are_right.each [];
        result_is = refl;
      };
      ends = refl;
    })

no_linear_program : IsNoText linear_programs (holding (codes "p")) (codes "p") ProgramRefused
    (codes "program refused at 0: Syntax\n")
unfolding digits
no_linear_program =
    Bad (record {
      bytes = [];
      fetched = record { held = has_program; taken = refl; within = omega arith };
      refused = record {
        subject = record { kind = lp.Syntax; at = 0 };
        is = answer_is (reader lps) (reader_laws lps lps_lawful) 0 (tokens []);
        result_is = refl;
      };
      ends = refl;
    })

no_while_program : IsNoText while_programs (holding (codes "p")) (codes "p") ProgramRefused
    (codes "program refused at 0: Syntax\n")
unfolding digits
no_while_program =
    Bad (record {
      bytes = [];
      fetched = record { held = has_program; taken = refl; within = omega arith };
      refused = record { subject = record { kind = whiles.Syntax; at = 0 }; is = nothing_written; result_is = refl };
      ends = refl;
    })

pub files_read_in_order : Determined → FilesAreReadInOrder
files_read_in_order laws = record {
  lacking = (
    alone laws (OfProgram Analyse 10000 (codes "p")) command_lines.file_alone tt (WithoutText refl lacks),
    (
      alone laws (OfPair Check (codes "p") (codes "q")) command_lines.check tt (WithoutText refl lacks),
      (
        alone laws (OfPair Lasso (codes "p") (codes "q")) command_lines.lasso tt (WithoutText refl lacks),
        (
          alone laws (OfFile Lp (codes "p")) command_lines.linear_program tt (WithoutText refl lacks),
          (
            alone laws (While 10000 (codes "p")) command_lines.while_program tt (WithoutText refl lacks),
            (alone laws (OfFile Translate (codes "p")) command_lines.translation tt (WithoutText refl lacks), tt),
          ),
        ),
      ),
    ),
  );
  lacking_replayed =
      alone laws (OfPair Replay (codes "p") (codes "-q")) command_lines.replay tt
      (WithoutText refl (Unread (record { fault = inr lacks_program; result_is = refl; ends = refl })));
  empty_program = (
    alone laws (OfPair Replay (codes "p") (codes "-q")) command_lines.replay tt (WithoutText refl no_program),
    (
      alone laws (OfProgram Analyse 10000 (codes "p")) command_lines.file_alone tt (WithoutText refl no_program),
      (
        alone laws (OfPair Check (codes "p") (codes "q")) command_lines.check tt (WithoutText refl no_program),
        (alone laws (OfPair Lasso (codes "p") (codes "q")) command_lines.lasso tt (WithoutText refl no_program), tt),
      ),
    ),
  );
  empty_other = (
    alone laws (OfFile Lp (codes "p")) command_lines.linear_program tt (WithoutText refl no_linear_program),
    (
      alone laws (While 10000 (codes "p")) command_lines.while_program tt (WithoutText refl no_while_program),
      (alone laws (OfFile Translate (codes "p")) command_lines.translation tt (WithoutText refl no_while_program), tt),
    ),
  );
}
