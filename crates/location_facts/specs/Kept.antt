-- The facts that are kept: the last list of a sequence.
use Rattle.std.specs.Prelude.{◌≡◌, ◌⊎◌, ℕ, List, [], ◌∷◌, Some}
use Rattle.poly_terms.specs.linear_forms.Certificates.{minus_one}
use Rattle.poly_terms.specs.linear_forms.Forms.{Form}
use Rattle.poly_terms.specs.linear_forms.LinearProgram.{LinearProgram, HasSolution}
use Rattle.poly_terms.specs.linear_forms.Questions.{Question, program_of_question}
use Rattle.poly_terms.specs.linear_forms.RuleQuestions.{RuleForms}
use Rattle.poly_terms.specs.model.Programs.{Program, Rule, rule_at}
use Rattle.rule_questions.specs.ProgramQuestions.{forms_at}
use Rattle.rule_questions.specs.Programs.{NothingHitsLimit}
use Rattle.location_facts.specs.declared.fact.LocFact.{LocFact}
use Rattle.location_facts.specs.Candidates.{candidates}
use Rattle.location_facts.specs.Rows.{row_after, combined}

-- the question whether a goal follows from rows over this many unknowns
abbrev pub goal_question : ℕ → List Form → Form → Question
goal_question unknowns rows goal = record {
  parameters = 0;
  sizes = [];
  heights = [];
  groups = record { unknowns = unknowns; rows = rows; goals = []; fixed = goal } ∷ [];
}

-- the linear program of this question: it has a column for each row, and then a slack
abbrev pub goal_program : ℕ → List Form → Form → LinearProgram
goal_program unknowns rows goal = program_of_question (goal_question unknowns rows goal)

-- a linear program has a solution, and hits no limit within a number of pivots
pub record IsSolvedWithin (pivots : ℕ) (q : LinearProgram) : Type 0 where
  pub solution : HasSolution q
  pub hits_no_limit : NothingHitsLimit q pivots

-- a rule implies a fact under a list: one of two linear programs is solved. The first asks whether the combined rows
-- have no point, the second whether the fact at the new values follows from them
abbrev pub IsImplied : ℕ → RuleForms → List LocFact → LocFact → Type 0
IsImplied pivots r kept f =
    IsSolvedWithin pivots (goal_program r.unknowns (combined r kept) minus_one)
    ⊎ IsSolvedWithin pivots (goal_program r.unknowns (combined r kept) (row_after r.new_values f))

-- every rule into its symbol implies the fact under the list
pub record IsImpliedByAll (p : Program) (pivots : ℕ) (kept : List LocFact) (f : LocFact) : Type 0 where
  pub each : (t : ℕ) (r : Rule) → rule_at p t ≡ Some r → r.target ≡ f.symbol → IsImplied pivots (forms_at p t) kept f

-- the second list consists of those facts of the first one, in order, that satisfy a condition
abbrev pub HasThose : (LocFact → Type 0) → List LocFact → List LocFact → Type 0
HasThose Keeps [] those = those ≡ []
HasThose Keeps (f ∷ facts) those =
    (Keeps f × ((rest : List LocFact) × (those ≡ f ∷ rest) × HasThose Keeps facts rest))
    ⊎ ((¬ Keeps f) × HasThose Keeps facts those)

-- the next list: the facts of a list that every rule into their symbol implies under that list
abbrev pub IsNext : Program → ℕ → List LocFact → List LocFact → Type 0
IsNext p pivots old new = HasThose (IsImpliedByAll p pivots old) old new

-- the sequence that begins with a list ends with this one: it is the first list all of whose facts are kept
pub data EndsWith (p : Program) (pivots : ℕ) (end : List LocFact) : List LocFact → Type 0 where
  Stays : {kept : List LocFact} → kept ≡ end → IsNext p pivots kept kept → EndsWith p pivots end kept
  GoesOn : {old new : List LocFact} → IsNext p pivots old new → EndsWith p pivots end new → EndsWith p pivots end old

-- the facts that are kept: the end of the sequence that begins with all candidate facts
abbrev pub AreKept : Program → ℕ → List LocFact → Type 0
AreKept p pivots end = EndsWith p pivots end (candidates p)
