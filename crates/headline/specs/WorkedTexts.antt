-- Worked values: texts of the program that counts down, facts that may have been written of it, alone and with
-- bounds, and tallies of its runs.
use Rattle.std.specs.Prelude.{◌≡◌, ℕ, List, [], ◌∷◌, ◌++◌, codes, pos, negsuc, Some}
use Rattle.model.specs.Bounds.{Constant}
use Rattle.model.specs.Facts.{Fact, Time, Size}
use Rattle.model.specs.Runs.{Config}
use Rattle.model.specs.WorkedRuns.{countdown}
use Rattle.location_facts.specs.declared.fact.LocFact.{LocFact}
use Rattle.outcome.specs.Reports.{Timed, Report}
use Rattle.outcome.specs.Holding.{numbered_entry}
use Rattle.its_text.specs.Spelling.{Spells}
use Rattle.its_writer.specs.Texts.{canonical_text}
use Rattle.call_plans.specs.Calls.{SinkUse}
use Rattle.symbol_facts.specs.Facts.{SymbolFact}
use Rattle.program_claims.specs.Claims as claims
use Rattle.signed_bounds.specs.Bounds as signed
use Rattle.headline.specs.AtSymbols.{difference_at}
use Rattle.headline.specs.Checked.{WroteFacts, WroteStatements}
use Rattle.headline.specs.WithFacts.{WroteFactsAndBounds}
use Rattle.headline.specs.Replayed.{WroteTally}
use Rattle.headline.specs.Worked.{sink_use_appending, countdown_report}

-- The canonical text spells the program, and so does one with a comment, with sections in another order, with other
-- blanks, brackets and signs. Without the loop, or without one of its two atoms, a text spells another program.
pub record TextsAreOfCountdown : Type 0 where
  pub canonical : Spells (canonical_text countdown) countdown
  pub other : Spells (codes "(COMMENT counts (A) down)(VAR A)(RULES l0(A,B)->l1((A),B)\n\n"
      ++ codes "l1(A,B) -> Com_1(l1(A - 1, (-A))) [ A>=1 /\\ A<=9 ])\n(STARTTERM(FUNCTIONSYMBOLS l0))") countdown
  pub no_loop : ¬ (Spells (codes "(STARTTERM (FUNCTIONSYMBOLS l0))(RULES l0(A,B) -> l1(A,B))") countdown)
  pub no_end : ¬ (Spells (codes "(STARTTERM (FUNCTIONSYMBOLS l0))(RULES l0(A,B) -> l1(A,B) "
      ++ codes "l1(A,B) -> l1(A-1,-A) :|: A >= 1)") countdown)

-- The facts that the loop's rule occurs at most 9 times and that A is at most 8 after it may have been written, each in
-- its line, and no fact, too. None may have been written of which a bound is too small, whatever comes with it;
-- nor no fact with a fact's line, nor one fact with another's line; none at all if nothing was written.
pub record FactsAreOfCountdown : Type 0 where
  pub two : WroteFacts countdown (sink_use_appending (codes "accepted\ntime 2: 9\nsize 2.1: 8\ngap 2\n"))
      (Time 2 (Constant 9) ∷ Size 2 1 (Constant 8) ∷ [])
  pub none : WroteFacts countdown (sink_use_appending (codes "accepted\n")) []
  pub time_less : (put : SinkUse) (facts : List Fact) → ¬ (WroteFacts countdown put (Time 2 (Constant 8) ∷ facts))
  pub size_less : (put : SinkUse) (first : Fact) (facts : List Fact)
      → ¬ (WroteFacts countdown put (first ∷ Size 2 1 (Constant 7) ∷ facts))
  pub no_line : ¬ (WroteFacts countdown (sink_use_appending (codes "accepted\ntime 2: 9\n")) [])
  pub other_line : ¬ (WroteFacts countdown (sink_use_appending (codes "accepted\ntime 2: 9\n")) (Size 2 1 (Constant 8) ∷ []))
  pub unwritten : (facts : List Fact) → ¬ (WroteFacts countdown (sink_use_appending []) facts)

-- the fact that the first place is at least 0 at l1, as a form, and the fact that a form without a place is at least -1
abbrev pub first_not_negative_form : SymbolFact
first_not_negative_form = record { symbol = 1; form = record { coef = pos 1; vars = 0 ∷ [] } ∷ []; least = pos 0 }

abbrev pub zero_at_least_minus_one : SymbolFact
zero_at_least_minus_one = record { symbol = 1; form = []; least = negsuc 0 }

-- A statement with the time of the loop may have been written as its line, after a fact or without one, and none after
-- the first line; not one with a time that is too small, nor with a fact that a run disproves, whatever comes with it,
-- nor none with a statement's line, nor any if nothing was written.
pub record StatementsAreOfCountdown : Type 0 where
  pub one : WroteStatements countdown (sink_use_appending (codes "accepted\ntime 2: 9\n")) [] (claims.Time 2 (signed.Constant 9) ∷ [])
  pub with_fact : WroteStatements countdown (sink_use_appending (codes "accepted\nfact l1: 0 >= -1\ntime 2: 9\n"))
      (zero_at_least_minus_one ∷ []) (claims.Time 2 (signed.Constant 9) ∷ [])
  pub none : WroteStatements countdown (sink_use_appending (codes "accepted\n")) [] []
  pub time_less : (put : SinkUse) (facts : List SymbolFact) (stated : List claims.Stated)
      → ¬ (WroteStatements countdown put facts (claims.Time 2 (signed.Constant 8) ∷ stated))
  pub false_fact : (put : SinkUse) (facts : List SymbolFact) (stated : List claims.Stated)
      → ¬ (WroteStatements countdown put (first_not_negative_form ∷ facts) stated)
  pub no_line : ¬ (WroteStatements countdown (sink_use_appending (codes "accepted\ntime 2: 9\n")) [] [])
  pub unwritten : (facts : List SymbolFact) (stated : List claims.Stated)
      → ¬ (WroteStatements countdown (sink_use_appending []) facts stated)

-- the facts that A is at least 0 at l1, that B is at least A there, and that A is at most 0 there
abbrev pub first_not_negative : LocFact
first_not_negative = record { symbol = 1; plus = 1; minus = 0; least = pos 0 }

abbrev pub second_minus_first : LocFact
second_minus_first = record { symbol = 1; plus = 2; minus = 1; least = pos 0 }

abbrev pub zero_minus_first : LocFact
zero_minus_first = record { symbol = 1; plus = 0; minus = 1; least = pos 0 }

-- l1(3, 7)
abbrev pub at_loop : Config
at_loop = record { at = 1; values = pos 3 ∷ pos 7 ∷ [] }

-- The report with all bounds may have been written without a fact. Not with the fact that A is at least 0 at l1, which a
-- run from l0(-1, 0) disproves, whatever else was written; nor one in which the time of the loop is 8. Of a fact the
-- value at the second place that it names is subtracted: at l1(3, 7) that of B less A is 4, and that of 0 less A is -3.
pub record BoundsWithFactsAreOfCountdown : Type 0 where
  pub without : WroteFactsAndBounds countdown
      (sink_use_appending (codes "bounded\ntime 1: 1\ntime 2: 9\ntotal: 10\n"
      ++ codes "size 1.1: A\nsize 1.2: B\nsize 2.1: 8\nsize 2.2: 9\n")) [] countdown_report
  pub false_fact : (put : SinkUse) (facts : List LocFact) (r : Report)
      → ¬ (WroteFactsAndBounds countdown put (first_not_negative ∷ facts) r)
  pub time_less : (put : SinkUse) (facts : List LocFact) (r : Report) → numbered_entry r.times 2 ≡ Some (Timed (Constant 8))
      → ¬ (WroteFactsAndBounds countdown put facts r)
  pub second_minus : difference_at second_minus_first at_loop ≡ pos 4
  pub zero_minus : difference_at zero_minus_first at_loop ≡ negsuc 2

-- The tally of the run from l0(3, 7) that enters the loop may have been written beside the bounds of the report with all
-- bounds. None may have been written for a text that is no run's, and none at all if nothing was written.
pub record TalliesAreOfCountdown : Type 0 where
  pub enters : WroteTally countdown
      (sink_use_appending (codes "steps 1\ntime 1: 1 of 1\ntime 2: 0 of 9\ntotal: 1 of 10\nsize 1.1: 3 of 3\n"
      ++ codes "size 1.2: 7 of 7\nsize 2.1: 0 of 8\nsize 2.2: 0 of 9\n")) (codes "koat-run 1\nstart 3 7\nstep 1\nend\n")
  pub no_run : (put : SinkUse) → ¬ (WroteTally countdown put (codes "koat-run 2\nstart 3 7\nend\n"))
  pub unwritten : (text : List ℕ) → ¬ (WroteTally countdown (sink_use_appending []) text)
