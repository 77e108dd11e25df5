-- The facts or the statements that a process wrote that was to check a proof hold on all runs of the program that the
-- text spells.
use Rattle.std.proofs.Common.{◌≡◌, ◌⊎◌, ℕ, List, [], ◌∷◌, ◌++◌, map, refl, sym, ◌∙◌, ap, subst, inl, inr, codes, arith}
use Rattle.std.proofs.lemmas.List.Folds.{flat_map-map}
use Rattle.std.specs.List.{flat_map}
use Rattle.std.specs.Prelude.{IsTrue}
use Rattle.std.specs.Process.{exit_status}
use Rattle.std.specs.declared.process.ExitCode.{ExitCode}
use Rattle.model.specs.Programs.{Program}
use Rattle.model.specs.Facts.{Fact}
use Rattle.its_text.specs.Spelling.{Spells}
use Rattle.its_writer.specs.Texts.{canonical_text}
use Rattle.its_writer.proofs.SpellingLaws.{spelled_programs}
use Rattle.cert_types.specs.cert_rules.Gaps.{Gap, ProofFile}
use Rattle.program_claims.specs.Claims.{Stated}
use Rattle.refined_files.specs.Files.{RefinedFile}
use Rattle.check_text.specs.Texts.{fact_line, gap_line, accepted_text}
use Rattle.check_text.specs.Verdicts.{IsAcceptance}
use Rattle.symbol_facts.specs.Facts.{SymbolFact}
use Rattle.claims_text.specs.Symbols.{symbol_fact_line}
use Rattle.claims_text.specs.Statements.{stated_line, stated_text}
use Rattle.proof_forms.specs.Texts.{ProofText, Plain, Refined, NotRefined}
use Rattle.form_verdicts.specs.Verdicts.{IsAcceptanceOf, IsRefinedAcceptance}
use Rattle.command_line.specs.Lines.{Word, Words, is_value}
use Rattle.command_line.specs.Requests.{OfPair, HasRequest}
use Rattle.command_line.specs.declared.task.PairTask.TheVariants.{Check}
use Rattle.call_plans.specs.declared.status.Status.{Status}
use Rattle.call_plans.specs.declared.status.Status.TheVariants.{Done}
use Rattle.call_plans.specs.Numbers.{number_of}
use Rattle.call_plans.specs.Sorts.{sort_of}
use Rattle.call_plans.specs.Calls.{SinkUse}
use Rattle.call_plans.specs.Meanings.{Appended, Wrote}
use Rattle.call_plans.specs.Plans.{HasRow}
use Rattle.koat_cli.specs.Calls.{Call}
use Rattle.koat_cli.specs.RequestPlans.{plan_of}
use Rattle.koat_cli.specs.Commands.Check.{check_answers}
use Rattle.headline.specs.Words.{check_command}
use Rattle.headline.specs.Premises.{WasCalled}
use Rattle.headline.specs.Checked.{WroteFacts, WroteStatements, WroteWhatHolds}
use Rattle.headline.specs.Checked.{CheckedFactsHold, FactsOfAnyTextHold}
use Rattle.headline.proofs.Words.{words_have_requests}
use Rattle.headline.proofs.Statuses.{done_of}
use Rattle.headline.proofs.GivenPrograms.{program_given}

-- the text of an accepted file has the lines of its facts, and then those of its gaps, by the numbers of their rules
accepted_lines : (p : Program) (facts : List Fact) (gaps : List Gap)
    → accepted_text p facts gaps
    ≡ codes "accepted\n"
    ++ (flat_map (fact_line p.start_names) facts ++ flat_map gap_line (map (λ (g : Gap). g.rule) gaps))
unfolding accepted_text
accepted_lines p facts gaps =
    ap (λ (w : List ℕ). codes "accepted\n" ++ (flat_map (fact_line p.start_names) facts ++ w))
    (sym (flat_map-map gap_line (λ (g : Gap). g.rule) gaps))

-- the row of the table with status 0 is that of acceptance
acceptance_of : (p : Program) (t : ProofText) (x : List ℕ) → HasRow (check_answers p t) Done x → IsAcceptanceOf p t x
acceptance_of p t x (inl (e, accepted)) = accepted
acceptance_of p t x (inr (inl (e, refused))) = let none : 0 ≡ 8 = ap number_of e in absurd (omega (arith, none))
acceptance_of p t x (inr (inr never)) = absurd never

-- the text is the line of acceptance, and then the lines of facts and of statements
stated_as_lines : (p : Program) (facts : List SymbolFact) (stated : List Stated)
    → stated_text p facts stated
    ≡ codes "accepted\n" ++ (flat_map (symbol_fact_line p) facts ++ flat_map (stated_line p) stated)
unfolding stated_text
stated_as_lines p facts stated = refl

-- what was written of an accepted file
facts_written : (p : Program) (f : ProofFile) (put : SinkUse) (x : List ℕ) → IsAcceptance p f x → Appended put x
    → (facts : List Fact) × WroteFacts p put facts
facts_written p f put x accepted appended = (
  accepted.facts,
  record {
    gaps = map (λ (g : Gap). g.rule) f.gaps;
    appended =
        subst (λ (text : List ℕ). Appended put text) (accepted.result_is ∙ accepted_lines p accepted.facts f.gaps)
        appended;
    hold = accepted.hold;
  },
)

-- what was written of an accepted file of the third form
statements_written : (p : Program) (f : RefinedFile) (put : SinkUse) (x : List ℕ) → IsRefinedAcceptance p f x
    → Appended put x → (facts : List SymbolFact) × (stated : List Stated) × WroteStatements p put facts stated
statements_written p f put x accepted appended = (
  accepted.facts,
  accepted.stated,
  record {
    appended =
        subst (λ (text : List ℕ). Appended put text)
        (accepted.result_is ∙ stated_as_lines p accepted.facts accepted.stated) appended;
    facts_hold = accepted.facts_hold;
    hold = accepted.hold;
  },
)

-- what was written of an accepted file of any form
written_of : (p : Program) (t : ProofText) (put : SinkUse) (x : List ℕ) → IsAcceptanceOf p t x → Appended put x
    → WroteWhatHolds p put
written_of p (Plain f) put x accepted appended = inl (facts_written p f put x accepted appended)
written_of p (Refined f) put x accepted appended = inr (statements_written p f put x accepted appended)
written_of p (NotRefined s r) put x accepted appended = absurd accepted

module _ (code : ExitCode) (call : Call) (put : SinkUse) (file proof : Word) (text : List ℕ) (p : Program)
    (was : WasCalled code call put (check_command file proof) file text) (proof_name : IsTrue (is_value proof))
    (spells : Spells text p) where
  asked : HasRequest call.words (OfPair Check file proof)
  asked =
      subst (λ (words : Words). HasRequest words (OfPair Check file proof)) (sym was.called)
      (words_have_requests.of_check file proof was.name proof_name).requested

  -- what was written is of the program that the text spells
  of_plan : Wrote call.shelf put (plan_of (OfPair Check file proof)) Done → WroteWhatHolds p put
  of_plan (q, (gives, (t, (proof_gives, (x, (row, appended)))))) =
      let its_program : q ≡ p =
      program_given call.shelf was.files file text p q was.disclosed was.holds spells gives in
      subst (λ (r : Program). WroteWhatHolds r put) its_program
      (written_of q t put x (acceptance_of q t x row) appended)

  ended_with_facts : exit_status code ≡ 0 → WroteWhatHolds p put
  ended_with_facts e =
      let done : was.exits.status ≡ Done = done_of was.exits.status (sym was.exits.numbered ∙ e) in
      of_plan
      (subst (λ (s : Status). Wrote call.shelf put (plan_of (OfPair Check file proof)) s) done
      (was.exits.means.answered (OfPair Check file proof) asked (ap sort_of done)))

pub any_facts : FactsOfAnyTextHold
any_facts = record { each = ended_with_facts }

pub checked_facts : CheckedFactsHold
checked_facts = record {
  each = λ code call put file proof p was proof_name spellable.
      ended_with_facts code call put file proof (canonical_text p) p was proof_name
      (spelled_programs.spells p spellable);
}
