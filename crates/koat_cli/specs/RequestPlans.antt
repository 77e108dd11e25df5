-- The plan of each request: which files it reads, and by which table it answers.
use Rattle.std.specs.Prelude.{ℕ}
use Rattle.model.specs.Programs.{Program}
use Rattle.command_line.specs.declared.task.ProgramTask.{ProgramTask}
use Rattle.command_line.specs.declared.task.PairTask.{PairTask}
use Rattle.command_line.specs.declared.task.NumberTask.{NumberTask}
use Rattle.command_line.specs.Lines.{Word}
use Rattle.command_line.specs.Requests.{Request, OfProgram, OfPair, OfNumber, OfFile, While}
use Rattle.command_line.specs.declared.task.ProgramTask.TheVariants.{Analyse, Prove, Facts, Best, Certify}
use Rattle.command_line.specs.declared.task.PairTask.TheVariants.{Check, Replay, Lasso}
use Rattle.command_line.specs.declared.task.NumberTask.TheVariants.{Generate, Selfrun}
use Rattle.command_line.specs.declared.task.FileTask.TheVariants.{Lp, Translate}
use Rattle.call_plans.specs.Plans.{Cases, Plan, Answers, Reads}
use Rattle.koat_cli.specs.ProgramTexts.{programs}
use Rattle.koat_cli.specs.ProofTexts.{proofs}
use Rattle.koat_cli.specs.RunTexts.{runs}
use Rattle.koat_cli.specs.LassoTexts.{lassos}
use Rattle.koat_cli.specs.LpTexts.{linear_programs}
use Rattle.koat_cli.specs.WhileTexts.{while_programs}
use Rattle.koat_cli.specs.Commands.Analyse.{analyse_answers}
use Rattle.koat_cli.specs.Commands.Prove.{prove_answers}
use Rattle.koat_cli.specs.Commands.Facts.{facts_answers}
use Rattle.koat_cli.specs.Commands.Best.{best_answers}
use Rattle.koat_cli.specs.Commands.Certify.{certify_answers}
use Rattle.koat_cli.specs.Commands.Check.{check_answers}
use Rattle.koat_cli.specs.Commands.Replay.{replay_answers}
use Rattle.koat_cli.specs.Commands.Lasso.{lasso_answers}
use Rattle.koat_cli.specs.Commands.Generate.{generate_answers}
use Rattle.koat_cli.specs.Commands.Selfrun.{selfrun_answers}
use Rattle.koat_cli.specs.Commands.Lp.{lp_answers}
use Rattle.koat_cli.specs.Commands.While.{while_answers}
use Rattle.koat_cli.specs.Commands.Translate.{translate_answers}

-- the table of answers on a program
abbrev pub program_answers : ProgramTask → ℕ → Program → Cases
program_answers Analyse pivots program = analyse_answers pivots program
program_answers Prove pivots program = prove_answers pivots program
program_answers Facts pivots program = facts_answers pivots program
program_answers Best pivots program = best_answers pivots program
program_answers Certify pivots program = certify_answers program

-- the plan after the program in the first of two files was read
abbrev pub second_plan : PairTask → Program → Word → Plan
second_plan Check program second = Reads (proofs program) second (λ proof. Answers (check_answers program proof))
second_plan Replay program second = Reads (runs program) second (λ run. Answers (replay_answers program run))
second_plan Lasso program second = Reads (lassos program) second (λ file. Answers (lasso_answers program file))

-- the table of answers on a number
abbrev pub number_answers : NumberTask → ℕ → Cases
number_answers Generate n = generate_answers n
number_answers Selfrun n = selfrun_answers n

-- the plan of a request
abbrev pub plan_of : Request → Plan
plan_of (OfProgram task pivots file) = Reads programs file (λ program. Answers (program_answers task pivots program))
plan_of (OfPair task file second) = Reads programs file (λ program. second_plan task program second)
plan_of (OfNumber task n) = Answers (number_answers task n)
plan_of (OfFile Lp file) = Reads linear_programs file (λ p. Answers (lp_answers p))
plan_of (OfFile Translate file) = Reads while_programs file (λ source. Answers (translate_answers source))
plan_of (While pivots file) = Reads while_programs file (λ source. Answers (while_answers pivots source))
