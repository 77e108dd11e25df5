-- The certificates of facts after the rules into their symbols.
use Rattle.std.specs.Prelude.{◌≡◌, ◌≢◌, ℕ, ◌≤◌, List, Some, pos}
use Rattle.std.specs.List.{Contains}
use Rattle.poly_terms.specs.linear_forms.Forms.{Form}
use Rattle.poly_terms.specs.linear_forms.Combinations.{form_times}
use Rattle.poly_terms.specs.linear_forms.Certificates.{Implies, minus_one}
use Rattle.poly_terms.specs.linear_forms.Limits.{certificate_limit}
use Rattle.poly_terms.specs.model.Programs.{Program, Rule, rule_at, arity_of}
use Rattle.farkas_cert.specs.Sizes.{AreWithinLimit}
use Rattle.rule_questions.specs.ProgramQuestions.{forms_at}
use Rattle.location_facts.specs.declared.fact.LocFact.{LocFact}
use Rattle.location_facts.specs.declared.fact.FactProof.{FactProof}
use Rattle.location_facts.specs.declared.fact.FactProof.TheVariants.{Empty, Implied}
use Rattle.location_facts.specs.Rows.{row_after, combined}

-- the multipliers are at most 2^56, and the factor of the goal is from 1 to 2^56
abbrev pub IsWithinLimit : FactProof → Type 0
IsWithinLimit (Empty multipliers) = AreWithinLimit multipliers.items
IsWithinLimit (Implied multipliers den) = AreWithinLimit multipliers.items × (1 ≤ den) × (den ≤ certificate_limit)

-- the multipliers show that the rows have no point, or that a multiple of the goal follows from them
abbrev pub Shows : List Form → Form → FactProof → Type 0
Shows rows goal (Empty multipliers) = Implies rows multipliers.items minus_one
Shows rows goal (Implied multipliers den) = Implies rows multipliers.items (form_times (pos den) goal)

-- a proof within the limit shows a fact after rule t, under a list of facts
pub record IsShownBy (p : Program) (t : ℕ) (facts : List LocFact) (f : LocFact) : Type 0 where
  pub proof : FactProof
  pub within : IsWithinLimit proof
  pub shows : Shows (combined (forms_at p t) facts) (row_after (forms_at p t).new_values f) proof

-- the facts hold by induction along runs: each has another symbol than the start symbol, is about places of it, and is
-- shown after each rule into it, under the list
pub record AreInductive (p : Program) (facts : List LocFact) : Type 0 where
  pub not_start : (f : LocFact) → Contains facts f → f.symbol ≢ p.start
  pub plus : (f : LocFact) → Contains facts f → f.plus ≤ arity_of p f.symbol
  pub minus : (f : LocFact) → Contains facts f → f.minus ≤ arity_of p f.symbol
  pub shown : (f : LocFact) → Contains facts f → (t : ℕ) (r : Rule) → rule_at p t ≡ Some r → r.target ≡ f.symbol
      → IsShownBy p t facts f
