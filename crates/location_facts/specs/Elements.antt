-- Points and rays of the combined rows of rules, and which facts they refute.
use Rattle.std.specs.Prelude.{ℕ, ◌≤◌, List, length, pos}
use Rattle.std.specs.List.{All}
use Rattle.poly_terms.specs.linear_forms.Certificates.{minus_one}
use Rattle.poly_terms.specs.linear_forms.Limits.{point_limit}
use Rattle.poly_terms.specs.linear_forms.Points.{Meets}
use Rattle.poly_terms.specs.model.Programs.{Program}
use Rattle.farkas_cert.specs.Scales.{numerators_of}
use Rattle.farkas_cert.specs.Sizes.{AreParts}
use Rattle.rule_questions.specs.ProgramQuestions.{forms_at}
use Rattle.location_facts.specs.declared.fact.LocFact.{LocFact}
use Rattle.location_facts.specs.declared.elements.Element.{Element}
use Rattle.location_facts.specs.Kept.{goal_program, IsSolvedWithin}
use Rattle.location_facts.specs.Rows.{combined}

-- an element belongs to a rule of the program, and its numbers are within the limit on points
pub record IsMeasured (p : Program) (e : Element) : Type 0 where
  pub rule : (1 ≤ e.rule) × (e.rule ≤ length p.rules)
  pub few : length e.at.parts.items ≤ 128
  pub parts : AreParts e.at.parts.items
  pub den : e.at.den ≤ point_limit

-- an element is a point or a ray of its rule's combined rows under a list of facts, and no solved linear program shows
-- that these have no point
pub record IsElement (p : Program) (pivots : ℕ) (kept : List LocFact) (e : Element) : Type 0 where
  pub fit : All (λ r. length r.coefs ≤ (forms_at p e.rule).unknowns) (combined (forms_at p e.rule) kept)
  pub meets : Meets (combined (forms_at p e.rule) kept) (numerators_of e.at) (pos e.at.den)
  pub not_empty : ¬ IsSolvedWithin pivots
      (goal_program (forms_at p e.rule).unknowns (combined (forms_at p e.rule) kept) minus_one)

-- each of these elements is such a point or ray
abbrev pub AreElements : Program → ℕ → List LocFact → List Element → Type 0
AreElements p pivots kept es = All (IsElement p pivots kept) es
