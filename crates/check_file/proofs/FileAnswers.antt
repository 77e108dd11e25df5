-- The answer on a proof file.
use Rattle.std.proofs.Common.{◌≡◌, List, All, map, sym, ap, ◌∙◌, subst}
use Rattle.its_model.specs.Valid.{IsValid}
use Rattle.model.specs.Facts.{Fact, Holds}
use Rattle.model.specs.Programs.{Program}
use Rattle.cert_types.specs.AnswerViews.{fault_of, gap_of, file_of}
use Rattle.cert_types.specs.Views.{proof_of}
use Rattle.cert_types.specs.declared.file.ProofFile as code
use Rattle.cert_types.specs.declared.gap.Gap as gaps
use Rattle.cert_types.specs.declared.proof.Proof as codes
use Rattle.cert_types.specs.cert_rules.Refusals.{IsRefusedAtGap}
use Rattle.cert_types.specs.cert_program.RankedSets.{forms_at}
use Rattle.cert_types.specs.cert_program.Setting.{setting_of}
use Rattle.cert_types.proofs.cert_program.Files.{files-hold}
use Rattle.check_file.specs.declared.error.CheckError.{CheckError}
use Rattle.check_file.specs.declared.error.CheckError.TheVariants as error
use Rattle.check_file.specs.declared.gaps.RefusedGap.{RefusedGap}
use Rattle.cert_context.specs.declared.stated_facts.StatedFacts.{StatedFacts}
use Rattle.cert_context.specs.Statements.{all_facts}
use Rattle.check_file.specs.Files.{RefusesLemmas, RefusesFile, HoldAll, IsFirstOff, IsAcceptedWith, ExcludeFunctions}
use Rattle.check_file.specs.Judging.{IsKeptOf}
use Rattle.cert_context.specs.Statements.{past_of}
use Rattle.cert_context.proofs.JoinedFacts.{all-joined}

-- the refusal of a file's lemmas is the refusal of the file
pub refused-lemmas : (p : Program) (f : code.ProofFile) (e : CheckError)
    → RefusesLemmas (setting_of p) (map proof_of f.lemmas.items) e → RefusesFile p (file_of f) e
refused-lemmas p f (error.No lemma node reason) h = h
refused-lemmas p f (error.NoGap gap fault) h = absurd h
refused-lemmas p f error.Memory h = tt

module _ (p : Program) (f : code.ProofFile) (kept : StatedFacts)
    (k : IsKeptOf p (setting_of p) (map proof_of f.lemmas.items) kept) where
  -- if a gap doesn't hold, the file is refused at the first such gap
  pub refused-gap : (off : RefusedGap) → IsFirstOff p (map gap_of f.gaps.items) off
      → IsRefusedAtGap (setting_of p) (forms_at p) (file_of f) off.gap (fault_of off.fault)
  refused-gap off h = record { lemmas = k.accepted; first = h }

  module _ (h : HoldAll p (map gap_of f.gaps.items)) (facts : List Fact) (e : facts ≡ all_facts (past_of kept)) where
    -- if all lemmas and gaps are accepted, the file is accepted with these facts
    pub accepted-with : IsAcceptedWith p (file_of f) facts
    accepted-with = record { accepted = record { lemmas = k.accepted; gaps = h }; result_is = e ∙ ap all_facts k.facts }

    -- the facts of an accepted file hold
    pub facts-hold : IsValid p → All (Holds p) facts
    facts-hold v =
        subst (All (Holds p)) (sym accepted-with.result_is)
        (all-joined (Holds p) _ (files-hold.each p v (file_of f) accepted-with.accepted).facts)

    -- the gaps of an accepted file exclude functions
    pub gaps-exclude : IsValid p → ExcludeFunctions p (map gap_of f.gaps.items)
    gaps-exclude v = (files-hold.each p v (file_of f) accepted-with.accepted).gaps

module _ (p q : Program) (f : code.ProofFile) (same : q ≡ p) where
  -- the stored facts of the lemmas that were checked are those of the file's lemmas
  pub kept-same : (ps : List codes.Proof) (kept : StatedFacts) → ps ≡ f.lemmas.items
      → IsKeptOf q (setting_of q) (map proof_of ps) kept → IsKeptOf p (setting_of p) (map proof_of f.lemmas.items) kept
  kept-same ps kept e h =
      subst (λ (r : Program). IsKeptOf r (setting_of r) (map proof_of f.lemmas.items) kept) same
      (subst (λ (xs : List codes.Proof). IsKeptOf q (setting_of q) (map proof_of xs) kept) e h)

  -- if the gaps that were checked hold, those of the file do
  pub hold-same : (gs : List gaps.Gap) → gs ≡ f.gaps.items → HoldAll q (map gap_of gs) → HoldAll p (map gap_of f.gaps.items)
  hold-same gs e h =
      subst (λ (r : Program). HoldAll r (map gap_of f.gaps.items)) same
      (subst (λ (xs : List gaps.Gap). HoldAll q (map gap_of xs)) e h)
