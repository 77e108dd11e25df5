-- A file of the first or the second form is accepted with one text, or is refused at one place.
use Rattle.std.proofs.Common.{◌≡◌, ℕ, List, ap, sym, ◌∙◌}
use Rattle.model.specs.Facts.{Fact}
use Rattle.model.specs.Programs.{Program}
use Rattle.cert_types.specs.cert_rules.GapChecks.{GapFault}
use Rattle.cert_types.specs.cert_rules.Gaps.{ProofFile}
use Rattle.cert_types.specs.cert_rules.Reasons.{Reason}
use Rattle.cert_types.specs.cert_program.Laws.{AcceptsFileFor}
use Rattle.cert_types.specs.cert_program.RankedSets.{forms_at}
use Rattle.cert_types.specs.cert_program.Setting.{setting_of}
use Rattle.cert_types.proofs.cert_rules.FilesInLine.{file-refusals-in-line}
use Rattle.cert_types.proofs.cert_rules.Refusals.{refusals-in-line}
use Rattle.check_text.specs.Texts.{accepted_text, refused_node_text, refused_gap_text}
use Rattle.check_text.specs.Verdicts.{IsAcceptance, IsRefusal, AtNode, AtGap}

-- the texts of equal refusals are the same
pub same_node_text : (l m i j : ℕ) (r q : Reason) → l ≡ m → i ≡ j → r ≡ q → refused_node_text l i r ≡ refused_node_text m j q
same_node_text l m i j r q e d c =
    ap (λ (n : ℕ). refused_node_text n i r) e
    ∙ (ap (λ (n : ℕ). refused_node_text m n r) d ∙ ap (λ (x : Reason). refused_node_text m j x) c)

pub same_gap_text : (p : Program) (g h : ℕ) (x y : GapFault) → g ≡ h → x ≡ y → refused_gap_text p g x ≡ refused_gap_text p h y
same_gap_text p g h x y e d =
    ap (λ (n : ℕ). refused_gap_text p n x) e ∙ ap (λ (z : GapFault). refused_gap_text p h z) d

-- a file that is refused isn't accepted
pub refused_not_accepted : (p : Program) (f : ProofFile) (x : List ℕ) → IsRefusal p f x → ¬ (AcceptsFileFor p f)
refused_not_accepted p f x (AtNode b) accepts =
    ((refusals-in-line.none (setting_of p) f.lemmas).0 accepts.lemmas).none b.lemma b.node b.reason b.refused
refused_not_accepted p f x (AtGap b) accepts =
    ((file-refusals-in-line.none (setting_of p) (forms_at p) f).0 accepts).1.none b.gap b.fault b.refused

-- a file is refused at one place, with one text
pub one_refusal : (p : Program) (f : ProofFile) (x y : List ℕ) → IsRefusal p f x → IsRefusal p f y → x ≡ y
one_refusal p f x y (AtNode a) (AtNode b) =
    let one = refusals-in-line.one (setting_of p) f.lemmas a.lemma b.lemma a.node b.node a.reason b.reason a.refused b.refused in
    a.result_is
    ∙ (same_node_text a.lemma b.lemma a.node b.node a.reason b.reason one.0 one.1 one.2 ∙ sym b.result_is)
one_refusal p f x y (AtNode a) (AtGap b) =
    absurd (file-refusals-in-line.not_both (setting_of p) (forms_at p) f a.lemma a.node b.gap a.reason b.fault a.refused b.refused)
one_refusal p f x y (AtGap a) (AtNode b) =
    absurd (file-refusals-in-line.not_both (setting_of p) (forms_at p) f b.lemma b.node a.gap b.reason a.fault b.refused a.refused)
one_refusal p f x y (AtGap a) (AtGap b) =
    let one = file-refusals-in-line.one (setting_of p) (forms_at p) f a.gap b.gap a.fault b.fault a.refused b.refused in
    a.result_is ∙ (same_gap_text p a.gap b.gap a.fault b.fault one.0 one.1 ∙ sym b.result_is)

-- a file is accepted with one text
pub one_acceptance : (p : Program) (f : ProofFile) (x y : List ℕ) → IsAcceptance p f x → IsAcceptance p f y → x ≡ y
one_acceptance p f x y a b =
    let same : a.facts ≡ b.facts = a.accepted.result_is ∙ sym b.accepted.result_is in
    a.result_is ∙ (ap (λ (facts : List Fact). accepted_text p facts f.gaps) same ∙ sym b.result_is)
