-- Subjects of a report's lines.
use Rattle.std.specs.Prelude.{ℕ, suc, List, [], ◌∷◌, ◌++◌, Option, Some, None}
use Rattle.its_model.specs.model.Terms.{Term}
use Rattle.its_model.specs.model.Programs.{Rule, Program}
use Rattle.signed_bounds.specs.Bounds.{Signed}
use Rattle.program_claims.specs.Claims as claims
use Rattle.best_report.specs.declared.subject.Subject.{Subject}
use Rattle.best_report.specs.declared.subject.Subject.TheVariants.{Time, Cost, Total, Above, Below}

-- what a bound on a subject states: how often a rule occurs, what its steps cost together, what all steps cost
-- together, the value at a place after a rule, or the negation of that value
abbrev pub stated_by : Subject → Signed → claims.Stated
stated_by (Time rule) b = claims.Time rule b
stated_by (Cost rule) b = claims.Cost rule b
stated_by Total b = claims.Total b
stated_by (Above rule place) b = claims.Above rule place b
stated_by (Below rule place) b = claims.Below rule place b

-- what each element gives, by its number, counted up from the first one's
abbrev pub flat_map_numbered : {X A : Type 0} → (ℕ → X → List A) → ℕ → List X → List A
flat_map_numbered of n [] = []
flat_map_numbered of n (x ∷ xs) = of n x ++ flat_map_numbered of (suc n) xs

-- how often a rule occurs
abbrev pub time_subject : ℕ → Rule → List Subject
time_subject t r = Time t ∷ []

-- what the steps of a rule cost, if a cost is written
abbrev pub cost_subject_if_written : ℕ → Option Term → List Subject
cost_subject_if_written t None = []
cost_subject_if_written t (Some c) = Cost t ∷ []

abbrev pub cost_subject : ℕ → Rule → List Subject
cost_subject t r = cost_subject_if_written t r.cost

-- the value at a place after a rule, from above, and from below
abbrev pub above_subject : ℕ → ℕ → Term → List Subject
above_subject t i update = Above t i ∷ []

abbrev pub below_subject : ℕ → ℕ → Term → List Subject
below_subject t i update = Below t i ∷ []

-- the values at all places after a rule, which has an update for each place of its target
abbrev pub above_subjects : ℕ → Rule → List Subject
above_subjects t r = flat_map_numbered (above_subject t) 1 r.updates

abbrev pub below_subjects : ℕ → Rule → List Subject
below_subjects t r = flat_map_numbered (below_subject t) 1 r.updates

-- The subjects of a program, in order: how often each rule occurs, what the steps of each rule with a cost cost, what
-- all steps cost, and the value at each place after each rule, from above, and then from below. Rules and places are
-- numbered from 1.
abbrev pub subjects_of : Program → List Subject
subjects_of p =
    flat_map_numbered time_subject 1 p.rules
    ++ (flat_map_numbered cost_subject 1 p.rules
    ++ (Total ∷ (flat_map_numbered above_subjects 1 p.rules ++ flat_map_numbered below_subjects 1 p.rules)))
