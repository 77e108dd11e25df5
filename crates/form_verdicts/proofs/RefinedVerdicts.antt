-- A file of the third form is accepted with one text, or is refused for one reason.
use Rattle.std.proofs.Common.{◌≡◌, ℕ, List, Option, Some, None, refl, ap, sym, ◌∙◌}
use Rattle.std.specs.Prelude.{IsSomeAnd}
use Rattle.model.specs.Programs.{Program}
use Rattle.refined_programs.specs.Annotated.{Section}
use Rattle.section_checks.specs.Faults.{Fault, IsFirstFault}
use Rattle.section_checks.specs.Laws.{HasDistinctNames}
use Rattle.section_checks.proofs.Deciding.{first_faults_are_unique}
use Rattle.refinement_check.specs.Views as sections
use Rattle.cert_types.specs.AnswerViews.{reason_of, fault_of}
use Rattle.cert_types.specs.cert_rules.GapChecks.{GapFault}
use Rattle.cert_types.specs.cert_rules.Reasons.{Reason}
use Rattle.cert_types.specs.cert_rules.Refusals.{IsRefusedAt, IsRefusedAtGap}
use Rattle.cert_types.specs.cert_program.Laws.{AcceptsFileFor}
use Rattle.cert_types.specs.cert_program.RankedSets.{forms_at}
use Rattle.cert_types.specs.cert_program.Setting.{setting_of}
use Rattle.cert_types.proofs.cert_rules.FilesInLine.{file-refusals-in-line}
use Rattle.cert_types.proofs.cert_rules.Refusals.{refusals-in-line}
use Rattle.potential_types.specs.potential_nodes.Acceptance as lemma_refusals
use Rattle.check_potentials.specs.Lists as lemmas
use Rattle.potential_types.specs.Views as reasons
use Rattle.check_potentials.specs.declared.lemmas.Refusal as refused_lemmas
use Rattle.symbol_facts.specs.Facts.{SymbolFact}
use Rattle.program_claims.specs.Claims.{Stated}
use Rattle.program_claims.specs.Acceptance.{ClaimRefusal}
use Rattle.claims_check.specs.Views as claims
use Rattle.claims_check.specs.declared.reason.RefusedClaim.{RefusedClaim}
use Rattle.refined_files.specs.Files.{RefinedFile, IsSectionAccepted, program_above}
use Rattle.check_refined.specs.Files.{IsForFault, RefusesFile}
use Rattle.check_refined.specs.declared.refusal.FileRefusal.{FileRefusal}
use Rattle.check_refined.specs.declared.refusal.FileRefusal.TheVariants as by
use Rattle.claims_text.specs.Statements.{stated_text}
use Rattle.claims_text.specs.Lemmas.{refused_lemma_text, refused_claim_text}
use Rattle.form_verdicts.specs.Texts.{fault_text_in, StatesRefusal}
use Rattle.form_verdicts.specs.Verdicts.{IsRefinedAcceptance, IsRefinedRefusal}
use Rattle.form_verdicts.proofs.PlainVerdicts.{same_node_text, same_gap_text}

-- a file is accepted with one text
pub one_refined_acceptance : (p : Program) (f : RefinedFile) (x y : List ℕ) → IsRefinedAcceptance p f x
    → IsRefinedAcceptance p f y → x ≡ y
one_refined_acceptance p f x y a b =
    let same : a.stated ≡ b.stated = a.accepted.statements ∙ sym b.accepted.statements in
    let facts : a.facts ≡ b.facts = a.by_copies ∙ sym b.by_copies in
    a.result_is
    ∙ (ap (λ (fs : List SymbolFact). stated_text p fs a.stated) facts
    ∙ (ap (λ (stated : List Stated). stated_text p b.facts stated) same ∙ sym b.result_is))

-- `None` isn't `Some`; and an option has at most one element
not_something : {A : Type 0} (o : Option A) (x : A) → o ≡ None → o ≡ Some x → ⊥
not_something o x e k = cc

none_some : {A G : Type 0} (o : Option A) (x : A) → o ≡ None → o ≡ Some x → G
none_some o x e k = absurd (not_something o x e k)

one_some : {A : Type 0} (o : Option A) (x y : A) → o ≡ Some x → o ≡ Some y → x ≡ y
one_some o x y e k = cc

-- names that aren't different, a fault of a section, and an accepted section exclude each other
names_or_fault : {G : Type 0} (p : Program) (o : Option Section) (x : Fault)
    → IsSomeAnd o (λ s. ¬ (HasDistinctNames s)) → IsSomeAnd o (λ s. HasDistinctNames s × IsFirstFault p s x) → G
names_or_fault p None x h k = absurd h
names_or_fault p (Some s) x h k = absurd (h k.0)

names_or_accepted : {G : Type 0} (p : Program) (o : Option Section) → IsSomeAnd o (λ s. ¬ (HasDistinctNames s))
    → IsSectionAccepted p o → G
names_or_accepted p None h k = absurd h
names_or_accepted p (Some s) h k = absurd (h k.0)

fault_or_accepted : {G : Type 0} (p : Program) (o : Option Section) (x : Fault)
    → IsSomeAnd o (λ s. HasDistinctNames s × IsFirstFault p s x) → IsSectionAccepted p o → G
fault_or_accepted p None x h k = absurd h
fault_or_accepted p (Some s) x h k = absurd (first_faults_are_unique.excluded p s x h.1 k.1)

-- the first fault of a section has one text
one_fault : (p : Program) (o : Option Section) (x y : Fault)
    → IsSomeAnd o (λ s. HasDistinctNames s × IsFirstFault p s x)
    → IsSomeAnd o (λ s. HasDistinctNames s × IsFirstFault p s y) → fault_text_in o x ≡ fault_text_in o y
one_fault p None x y h k = refl
one_fault p (Some s) x y h k =
    ap (λ (z : Fault). fault_text_in (Some s) z) (first_faults_are_unique.one p s x y h.1 k.1)

module _ (p : Program) (f : RefinedFile) where
  -- a plain part that is refused at a node or at a gap isn't accepted
  node_or_accepted : {G : Type 0} (l i : ℕ) (r : Reason)
      → IsRefusedAt (setting_of (program_above p f.section)) f.plain.lemmas l i r
      → AcceptsFileFor (program_above p f.section) f.plain → G
  node_or_accepted l i r h k =
      absurd (((refusals-in-line.none (setting_of (program_above p f.section)) f.plain.lemmas).0 k.lemmas).none l i r h)

  gap_or_accepted : {G : Type 0} (g : ℕ) (x : GapFault)
      → IsRefusedAtGap (setting_of (program_above p f.section)) (forms_at (program_above p f.section)) f.plain g x
      → AcceptsFileFor (program_above p f.section) f.plain → G
  gap_or_accepted g x h k =
      absurd
      (((file-refusals-in-line.none (setting_of (program_above p f.section)) (forms_at (program_above p f.section))
      f.plain).0 k).1.none g x h)

  node_or_gap : {G : Type 0} (l i g : ℕ) (r : Reason) (x : GapFault)
      → IsRefusedAt (setting_of (program_above p f.section)) f.plain.lemmas l i r
      → IsRefusedAtGap (setting_of (program_above p f.section)) (forms_at (program_above p f.section)) f.plain g x → G
  node_or_gap l i g r x h k =
      absurd
      (file-refusals-in-line.not_both (setting_of (program_above p f.section)) (forms_at (program_above p f.section))
      f.plain l i g r x h k)

  -- a refused lemma, and a refused claim, have one text
  one_lemma : (r q : refused_lemmas.Refusal) → lemmas.refusal_of r ≡ lemmas.refusal_of q
      → refused_lemma_text r.number (reasons.reason_of r.reason) ≡ refused_lemma_text q.number (reasons.reason_of q.reason)
  one_lemma r q e = ap (λ (x : lemma_refusals.Refusal). refused_lemma_text x.number x.reason) e

  one_claim : (r q : RefusedClaim) → claims.refusal_of r ≡ claims.refusal_of q
      → refused_claim_text r.claim (claims.reason_of r.reason) ≡ refused_claim_text q.claim (claims.reason_of q.reason)
  one_claim r q e = ap (λ (x : ClaimRefusal). refused_claim_text x.number x.reason) e

  -- a file that is refused for a fault has one text
  one_text : (r q : FileRefusal) (v w : List ℕ) → StatesRefusal p f r v → StatesRefusal p f q w → RefusesFile p f r
      → RefusesFile p f q → v ≡ w
  one_text by.Memory q v w a b h k = absurd a
  one_text by.Names by.Names v w a b h k = a ∙ sym b
  one_text by.Names (by.Section y) v w a b h k = names_or_fault p f.section (sections.fault_of y) h k
  one_text by.Names (by.Node m j q) v w a b h k = names_or_accepted p f.section h k.0
  one_text by.Names (by.Gap g y) v w a b h k = names_or_accepted p f.section h k.0
  one_text by.Names (by.Lemma q) v w a b h k = names_or_accepted p f.section h k.0
  one_text by.Names (by.Claim q) v w a b h k = names_or_accepted p f.section h k.0.section
  one_text by.Names by.Memory v w a b h k = absurd b
  one_text (by.Section x) by.Names v w a b h k = names_or_fault p f.section (sections.fault_of x) k h
  one_text (by.Section x) (by.Section y) v w a b h k =
      a ∙ (one_fault p f.section (sections.fault_of x) (sections.fault_of y) h k ∙ sym b)
  one_text (by.Section x) (by.Node m j q) v w a b h k = fault_or_accepted p f.section (sections.fault_of x) h k.0
  one_text (by.Section x) (by.Gap g y) v w a b h k = fault_or_accepted p f.section (sections.fault_of x) h k.0
  one_text (by.Section x) (by.Lemma q) v w a b h k = fault_or_accepted p f.section (sections.fault_of x) h k.0
  one_text (by.Section x) (by.Claim q) v w a b h k = fault_or_accepted p f.section (sections.fault_of x) h k.0.section
  one_text (by.Section x) by.Memory v w a b h k = absurd b
  one_text (by.Node l i r) by.Names v w a b h k = names_or_accepted p f.section k h.0
  one_text (by.Node l i r) (by.Section y) v w a b h k = fault_or_accepted p f.section (sections.fault_of y) k h.0
  one_text (by.Node l i r) (by.Node m j q) v w a b h k =
      let one =
      refusals-in-line.one (setting_of (program_above p f.section)) f.plain.lemmas l m i j (reason_of r) (reason_of q) h.1
      k.1 in
      a ∙ (same_node_text l m i j (reason_of r) (reason_of q) one.0 one.1 one.2 ∙ sym b)
  one_text (by.Node l i r) (by.Gap g y) v w a b h k = node_or_gap l i g (reason_of r) (fault_of y) h.1 k.1
  one_text (by.Node l i r) (by.Lemma q) v w a b h k = node_or_accepted l i (reason_of r) h.1 k.1.plain
  one_text (by.Node l i r) (by.Claim q) v w a b h k = node_or_accepted l i (reason_of r) h.1 k.0.lemmas.plain
  one_text (by.Node l i r) by.Memory v w a b h k = absurd b
  one_text (by.Gap g x) by.Names v w a b h k = names_or_accepted p f.section k h.0
  one_text (by.Gap g x) (by.Section y) v w a b h k = fault_or_accepted p f.section (sections.fault_of y) k h.0
  one_text (by.Gap g x) (by.Node m j q) v w a b h k = node_or_gap m j g (reason_of q) (fault_of x) k.1 h.1
  one_text (by.Gap g x) (by.Gap d y) v w a b h k =
      let one =
      file-refusals-in-line.one (setting_of (program_above p f.section)) (forms_at (program_above p f.section)) f.plain g d
      (fault_of x) (fault_of y) h.1 k.1 in
      a ∙ (same_gap_text (program_above p f.section) g d (fault_of x) (fault_of y) one.0 one.1 ∙ sym b)
  one_text (by.Gap g x) (by.Lemma q) v w a b h k = gap_or_accepted g (fault_of x) h.1 k.1.plain
  one_text (by.Gap g x) (by.Claim q) v w a b h k = gap_or_accepted g (fault_of x) h.1 k.0.lemmas.plain
  one_text (by.Gap g x) by.Memory v w a b h k = absurd b
  one_text (by.Lemma r) by.Names v w a b h k = names_or_accepted p f.section k h.0
  one_text (by.Lemma r) (by.Section y) v w a b h k = fault_or_accepted p f.section (sections.fault_of y) k h.0
  one_text (by.Lemma r) (by.Node m j q) v w a b h k = node_or_accepted m j (reason_of q) k.1 h.1.plain
  one_text (by.Lemma r) (by.Gap g y) v w a b h k = gap_or_accepted g (fault_of y) k.1 h.1.plain
  one_text (by.Lemma r) (by.Lemma q) v w a b h k =
      a ∙ (one_lemma r q (one_some _ _ _ h.1.first k.1.first) ∙ sym b)
  one_text (by.Lemma r) (by.Claim q) v w a b h k = none_some _ _ k.0.lemmas.signed h.1.first
  one_text (by.Lemma r) by.Memory v w a b h k = absurd b
  one_text (by.Claim r) by.Names v w a b h k = names_or_accepted p f.section k h.0.section
  one_text (by.Claim r) (by.Section y) v w a b h k = fault_or_accepted p f.section (sections.fault_of y) k h.0.section
  one_text (by.Claim r) (by.Node m j q) v w a b h k = node_or_accepted m j (reason_of q) k.1 h.0.lemmas.plain
  one_text (by.Claim r) (by.Gap g y) v w a b h k = gap_or_accepted g (fault_of y) k.1 h.0.lemmas.plain
  one_text (by.Claim r) (by.Lemma q) v w a b h k = none_some _ _ h.0.lemmas.signed k.1.first
  one_text (by.Claim r) (by.Claim q) v w a b h k = a ∙ (one_claim r q (one_some _ _ _ h.1 k.1) ∙ sym b)
  one_text (by.Claim r) by.Memory v w a b h k = absurd b

-- a refusal that has a text is for a fault
pub states_fault : (p : Program) (f : RefinedFile) (r : FileRefusal) (x : List ℕ) → StatesRefusal p f r x → IsForFault r
states_fault p f by.Names x h = tt
states_fault p f (by.Section fault) x h = tt
states_fault p f (by.Node lemma node reason) x h = tt
states_fault p f (by.Gap gap fault) x h = tt
states_fault p f (by.Lemma r) x h = tt
states_fault p f (by.Claim r) x h = tt
states_fault p f by.Memory x h = h

-- a file is refused with one text
pub one_refined_refusal : (p : Program) (f : RefinedFile) (x y : List ℕ) → IsRefinedRefusal p f x
    → IsRefinedRefusal p f y → x ≡ y
one_refined_refusal p f x y a b = one_text p f a.refusal b.refusal x y a.result_is b.result_is a.refused b.refused
