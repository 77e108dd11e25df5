-- Points under a list of facts: which rules are known to have one.
use Rattle.std.specs.Prelude.{◌≡◌, ⊤, ℕ, ℤ, List, Bool, true, Option, Some, None, slice_get}
use Rattle.poly_terms.specs.linear_forms.Forms.{Form}
use Rattle.poly_terms.specs.linear_forms.Points.{IsPoint}
use Rattle.poly_terms.specs.model.Programs.{Program, Rule}
use Rattle.rule_questions.specs.ProgramQuestions.{forms_in}
use Rattle.location_facts.specs.declared.fact.LocFact.{LocFact}
use Rattle.location_facts.specs.declared.implied.RuleUnderFacts.{RuleUnderFacts}
use Rattle.location_facts.specs.Rows.{combined}

-- rows have a point
pub record HasPoint (rows : List Form) : Type 0 where
  pub at : ℕ → ℤ
  pub den : ℤ
  pub is : IsPoint rows at den

-- if a rule under a list says that it has a point, these rows have one
abbrev pub StatesPoint : List Form → Option RuleUnderFacts → Type 0
StatesPoint rows None = ⊤
StatesPoint rows (Some u) = u.has_point ≡ true → HasPoint rows

-- the combined rows of each rule with a mark have a point under a list of facts
pub record ArePointed (p : Program) (kept : List LocFact) (marks : List Bool) : Type 0 where
  pub each : (i : ℕ) (r : Rule) → slice_get marks i ≡ Some true → slice_get p.rules i ≡ Some r
      → HasPoint (combined (forms_in (Some r)) kept)
