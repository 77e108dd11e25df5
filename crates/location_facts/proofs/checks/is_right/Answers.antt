use Rattle.location_facts.proofs.checks.is_right.Goals as goal

pub returns-then-not-is_candidate : goal.returns-then-not-is_candidate
returns-then-not-is_candidate c =
    (λ e. absurd (let no : ⊥ = cc in no), λ h. c.if-not-is_candidate.ensures.1 h.candidate)
