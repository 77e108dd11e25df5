-- A file is accepted exactly if it is refused neither at a node nor at a gap; it is refused at one place at most; and
-- the claims of an accepted file hold.
use Rattle.std.proofs.Common.{◌≡◌, ◌↔◌, ℕ, List, [], Option, Some, None, refl, sym, subst, All}
use Rattle.std.proofs.lemmas.List.Elements.{All-from_recursion, recursion_from_All, All-weaker}
use Rattle.run_counting.specs.model.Programs.{Program}
use Rattle.rule_forms.specs.linear_forms.RuleQuestions.{RuleForms}
use Rattle.cert_rules.specs.Gaps.{Gap, ProofFile}
use Rattle.cert_rules.specs.GapChecks.{GapFault, GapHolds}
use Rattle.cert_rules.specs.Setting.{Setting}
use Rattle.cert_rules.specs.Tests.{first_failing}
use Rattle.cert_rules.specs.GapTests.{gap_tests}
use Rattle.cert_rules.specs.Deciding.{Refused, At, refused_lemma, refused_gap}
use Rattle.cert_rules.specs.Refusals.{IsFirstFault, FailsFirst, AcceptsFile, IsRefusedAtGap}
use Rattle.cert_rules.specs.RefusalLaws.{FileRefusalsAreInLine, ExcludesFunctions, AcceptedFilesHold}
use Rattle.cert_rules.proofs.FirstFailures.{passed-none, none-passed, computed-fails, first-computed, one-computed}
use Rattle.cert_rules.proofs.FirstFailures.{none-computed}
use Rattle.cert_rules.proofs.GapExclusion.{gap-excludes}
use Rattle.cert_rules.proofs.GapsInLine.{tested-holds, holds-tested, first-fault, fault-first}
use Rattle.cert_rules.proofs.Refusals.{refusals-in-line, accepted-computed, computed-accepted}
use Rattle.cert_rules.proofs.Soundness.{accepted_facts_hold}

module _ (p : Program) (rule : ℕ → RuleForms) where
  -- a gap holds, or has a first fault, exactly if that is computed
  holds-computed : (g : Gap) → (first_failing (gap_tests p rule g) ≡ None) ↔ GapHolds p rule g
  holds-computed g = (tested-holds p rule g, holds-tested p rule g)

  fault-computed : (g : Gap) (x : GapFault) → (first_failing (gap_tests p rule g) ≡ Some x) ↔ IsFirstFault p rule g x
  fault-computed g x = (first-fault p rule g x, fault-first p rule g x)

  -- gaps hold exactly if no fault is computed, and the gap that is computed is the first with a fault
  held-none : (gs : List Gap) → All (GapHolds p rule) gs → refused_gap p rule gs ≡ None
  held-none gs h =
      passed-none (GapHolds p rule) (IsFirstFault p rule) _ holds-computed fault-computed gs 1
      (recursion_from_All (GapHolds p rule) gs h)

  pub none-held : (gs : List Gap) → refused_gap p rule gs ≡ None → All (GapHolds p rule) gs
  none-held gs e =
      All-from_recursion (GapHolds p rule) gs
      (none-passed (GapHolds p rule) (IsFirstFault p rule) _ holds-computed fault-computed gs 1 e)

  gap-fails : (gs : List Gap) (n : ℕ) (x : GapFault) → refused_gap p rule gs ≡ Some (At n x)
      → FailsFirst (GapHolds p rule) (IsFirstFault p rule) gs n x
  gap-fails = computed-fails (GapHolds p rule) (IsFirstFault p rule) _ holds-computed fault-computed

  fails-gap : (gs : List Gap) (n : ℕ) (x : GapFault) → FailsFirst (GapHolds p rule) (IsFirstFault p rule) gs n x
      → refused_gap p rule gs ≡ Some (At n x)
  fails-gap = first-computed (GapHolds p rule) (IsFirstFault p rule) _ holds-computed fault-computed

module _ (s : Setting) (rule : ℕ → RuleForms) (f : ProofFile) where
  -- a file is accepted, or refused at a gap, if that is computed
  pub computed-file : refused_lemma s [] 1 f.lemmas ≡ None → refused_gap s.program rule f.gaps ≡ None → AcceptsFile s rule f
  computed-file e d = record { lemmas = computed-accepted s f.lemmas e; gaps = none-held s.program rule f.gaps d }

  pub computed-gap : (n : ℕ) (x : GapFault) → refused_lemma s [] 1 f.lemmas ≡ None
      → refused_gap s.program rule f.gaps ≡ Some (At n x) → IsRefusedAtGap s rule f n x
  computed-gap n x e d = record {
    lemmas = computed-accepted s f.lemmas e;
    first = gap-fails s.program rule f.gaps n x d;
  }

-- refusals of files agree with acceptance
pub file-refusals-in-line : FileRefusalsAreInLine
file-refusals-in-line = record {
  none = λ s rule f. (
    (λ h. (
      (refusals-in-line.none s f.lemmas).0 h.lemmas,
      record {
        none = λ n x k.
            none-computed _ (At n x) (held-none s.program rule f.gaps h.gaps) (fails-gap s.program rule f.gaps n x k.first);
      },
    )),
    (λ h.
        let accepted = (refusals-in-line.none s f.lemmas).1 h.0 in
        computed-file s rule f (accepted-computed s f.lemmas accepted)
        (go s rule f (accepted-computed s f.lemmas accepted) (refused_gap s.program rule f.gaps) refl h.1.none)),
  );
  not_both = λ s rule f l i g r x h k. ((refusals-in-line.none s f.lemmas).0 k.lemmas).none l i r h;
  one = λ s rule f g h x y k m.
      one-computed _ g h x y (fails-gap s.program rule f.gaps g x k.first) (fails-gap s.program rule f.gaps h y m.first);
}
  where
    go : (s : Setting) (rule : ℕ → RuleForms) (f : ProofFile) → refused_lemma s [] 1 f.lemmas ≡ None
        → (o : Option (Refused GapFault)) → refused_gap s.program rule f.gaps ≡ o
        → ((n : ℕ) (x : GapFault) → ¬ (IsRefusedAtGap s rule f n x)) → refused_gap s.program rule f.gaps ≡ None
    go s rule f e None d h = d
    go s rule f e (Some (At n x)) d h = absurd (h n x (computed-gap s rule f n x e d))

-- a gap that holds excludes functions of each set that it is about
excludes : (p : Program) (rule : ℕ → RuleForms) (g : Gap) → GapHolds p rule g → ExcludesFunctions p rule g
excludes p rule g h = record {
  each = λ b same is about. gap-excludes p b g is about (subst (λ (r : ℕ → RuleForms). GapHolds p r g) (sym same) h);
}

-- the claims of an accepted file hold
pub accepted-files-hold : AcceptedFilesHold
accepted-files-hold = record {
  each = λ s true_to rule f h. record {
    facts = accepted_facts_hold.each s true_to f.lemmas h.lemmas;
    gaps = All-weaker (GapHolds s.program rule) (ExcludesFunctions s.program rule) (excludes s.program rule) f.gaps h.gaps;
  };
}
