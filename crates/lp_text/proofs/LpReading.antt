-- The result of reading, by the problem of the linear program that was read.
use Rattle.std.proofs.Common.{◌≡◌, ◌≤◌, ℕ, List, Option, None, sym, subst}
use Rattle.std.specs.Prelude.{Result, Ok, Err, IfOk, IfSome}
use Rattle.text_grammar.specs.text_core.Readers.{Fault}
use Rattle.simplex_core.specs.declared.problem.Problem.{Problem}
use Rattle.simplex_core.specs.Problem.{program_of, IsProper, table_size, widest}
use Rattle.lp_text.specs.declared.error.LpTextError.{LpTextError}
use Rattle.lp_text.specs.declared.kind.LpKind.{LpKind}
use Rattle.lp_text.specs.Lps.{Lp}
use Rattle.lp_text.specs.Spelled.{IsTextWithin}
use Rattle.lp_text.specs.Decided.{IsFirstFault}
use Rattle.lp_text.specs.Views.{refusal_in, Answers, GivesProblem}
use Rattle.lp_text.proofs.LpDecided.{texts_decided}
use Rattle.lp_text.proofs.LpProblems.{problem-proper, problem-narrow}

module _ (bytes : List ℕ) (p : Lp) (w : IsTextWithin bytes p) where
  -- the problem of the linear program that was read is a right result
  pub given-answers : (r : Result Problem LpTextError) → GivesProblem p r → Answers bytes r
  given-answers (Ok q) h = (p, w, h)
  given-answers (Err e) h = subst (λ (o : Option (Fault LpKind)). IfSome o (IsFirstFault bytes)) (sym h) tt

  -- the problem is that of each linear program whose text the bytes are
  pub given-complete : (r : Result Problem LpTextError) → GivesProblem p r → (q : Lp) → IsTextWithin bytes q
      → GivesProblem q r
  given-complete r h q k = subst (λ (z : Lp). GivesProblem z r) (texts_decided.one bytes p q w k) h

  -- the problem is proper, and its table isn't too wide
  pub given-proper : (r : Result Problem LpTextError) → GivesProblem p r → IfOk r IsProper
  given-proper (Ok q) h = problem-proper p q w.within h
  given-proper (Err e) h = tt

  pub given-narrow : (r : Result Problem LpTextError) → GivesProblem p r
      → IfOk r (λ q. table_size (program_of q) ≤ widest)
  given-narrow (Ok q) h = problem-narrow p q w.within h
  given-narrow (Err e) h = tt
