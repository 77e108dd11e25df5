-- The facts of a file that is accepted can be printed.
use Rattle.std.proofs.Common.{◌≡◌, ℕ, List, [], ◌∷◌, length, map, All, subst, sym}
use Rattle.std.proofs.lemmas.List.Elements.{All-nil, All-cons, All-head, All-tail, All-weaker}
use Rattle.its_model.specs.Valid.{IsValid}
use Rattle.model.specs.Facts as plain
use Rattle.model.specs.Programs.{Program}
use Rattle.cert_types.specs.Views.{fact_of, facts_of}
use Rattle.cert_types.specs.declared.fact.Fact.{Fact}
use Rattle.cert_types.specs.cert_rules.Gaps.{ProofFile}
use Rattle.cert_types.specs.cert_rules.Printable.{HasTidyFactNumbers}
use Rattle.cert_types.proofs.cert_program.Tidying.{facts-printable}
use Rattle.cert_context.proofs.JoinedFacts.{all-joined}
use Rattle.check_file.specs.Files.{IsAcceptedWith}
use Rattle.check_text.specs.StatedErrors.{FactReadsBelow}

-- a property of all facts as plain data is one of all facts
each-fact : (P : plain.Fact → Type 0) (fs : List Fact) → All P (facts_of fs) → All (λ f. P (fact_of f)) fs
each-fact P [] h = All-nil (λ f. P (fact_of f))
each-fact P (f ∷ fs) h =
    All-cons (λ g. P (fact_of g)) f fs (All-head P (fact_of f) (facts_of fs) h)
    (each-fact P fs (All-tail P (fact_of f) (facts_of fs) h))

-- the bounds of the facts of a file that is accepted for a valid program are over its start arguments alone
pub facts-over_start : (p : Program) (f : ProofFile) (fs : List Fact) → IsValid p → IsAcceptedWith p f (facts_of fs)
    → All (λ g. FactReadsBelow (length p.start_names) (fact_of g)) fs
facts-over_start p f fs valid h =
    each-fact (FactReadsBelow (length p.start_names)) fs
    (All-weaker (HasTidyFactNumbers (length p.start_names)) (FactReadsBelow (length p.start_names)) (λ g k. k.1)
    (facts_of fs)
    (subst (All (HasTidyFactNumbers (length p.start_names))) (sym h.result_is)
    (all-joined (HasTidyFactNumbers (length p.start_names)) _ (facts-printable.numbers p valid f.lemmas h.accepted.lemmas))))
