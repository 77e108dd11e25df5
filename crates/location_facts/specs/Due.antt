-- Rules that are due under a list of facts, which means that they have to be queried again; and the earlier answers of
-- the others, which remain valid.
use Rattle.std.specs.Prelude.{◌≡◌, ⊤, ℕ, ◌-◌, ◌≤◌, List, length, map, Vec, Option, Some, None, slice_get, [], ◌∷◌}
use Rattle.std.specs.Prelude.{Bool, true, false}
use Rattle.std.specs.declared.alloc.Global.{Global}
use Rattle.std.specs.List.{All}
use Rattle.poly_terms.specs.linear_forms.Forms.{Form}
use Rattle.poly_terms.specs.linear_forms.RuleQuestions.{RuleForms}
use Rattle.poly_terms.specs.model.Programs.{Program, Rule}
use Rattle.poly_terms.specs.Views.{form_of}
use Rattle.lp_builder.specs.Descriptions.{IsWritable}
use Rattle.rule_questions.specs.ProgramQuestions.{forms_in, forms_at}
use Rattle.location_facts.specs.declared.fact.LocFact.{LocFact}
use Rattle.location_facts.specs.declared.fact.FactProof.{FactProof}
use Rattle.location_facts.specs.declared.elements.Element.{Element}
use Rattle.location_facts.specs.declared.implied.Answered.{Answered}
use Rattle.location_facts.specs.declared.implied.Answered.TheVariants as answers
use Rattle.location_facts.specs.declared.implied.RuleUnderFacts.{RuleUnderFacts}
use Rattle.location_facts.specs.declared.rules.Wanted.{Wanted}
use Rattle.location_facts.specs.declared.rules.Wanted.TheVariants.{Nothing, Facts, Everything}
use Rattle.location_facts.specs.declared.shown.FactVerdict.{FactVerdict}
use Rattle.location_facts.specs.declared.shown.FactVerdict.TheVariants.{Shown, Refuted, Missed}
use Rattle.location_facts.specs.Faults.{rules_into}
use Rattle.location_facts.specs.Implied.{DecidesEmpty, DecidesGoal, IsUnder, RefutesGoal}
use Rattle.location_facts.specs.Pointed.{HasPoint}
use Rattle.location_facts.specs.Rows.{row_after, facts_at, combined}

-- when a second list of facts follows a first one, no fact was dropped at the source of a rule that isn't due
pub record AreDue (p : Program) (old new : List LocFact) (due : List Bool) : Type 0 where
  pub each : (i : ℕ) (r : Rule) → slice_get due i ≡ Some false → slice_get p.rules i ≡ Some r
      → length (facts_at r.source old) ≡ length (facts_at r.source new)

-- what may be asked of the rule at a position: nothing if it isn't due, and only facts if it is marked
abbrev pub IsWanted : List Bool → List Bool → ℕ → Wanted → Type 0
IsWanted due points i Nothing = slice_get due i ≡ Some false
IsWanted due points i Facts = slice_get points i ≡ Some true
IsWanted due points i Everything = ⊤

-- if only facts are asked, the rows have a point
abbrev pub HasKnownPoint : Wanted → List Form → Type 0
HasKnownPoint Nothing rows = ⊤
HasKnownPoint Facts rows = HasPoint rows
HasKnownPoint Everything rows = ⊤

-- nothing is queried
abbrev pub IsNothing : Wanted → Type 0
IsNothing Nothing = ⊤
IsNothing Facts = ⊥
IsNothing Everything = ⊥

-- the state of a rule with these combined rows: none if nothing is asked; else it is under the list, and whether it has
-- a point was asked or is known
abbrev pub StatesRule : ℕ → ℕ → List Form → Wanted → Option RuleUnderFacts → Type 0
StatesRule pivots unknowns rows asked None = IsNothing asked
StatesRule pivots unknowns rows asked (Some u) =
    (map form_of u.rows.items ≡ rows) × All (λ w. IsWritable unknowns (form_of w)) u.rows.items
    × DecidesEmpty pivots unknowns (map form_of u.rows.items) u.empty

-- a rule is under a list, or it isn't due
abbrev pub IsUnderIfDue : ℕ → RuleForms → Option Bool → List LocFact → Option RuleUnderFacts → Type 0
IsUnderIfDue pivots r due kept None = due ≡ Some false
IsUnderIfDue pivots r due kept (Some u) = IsUnder pivots r kept u

-- each rule of a program, in order, is under the list, or it isn't due
pub record AreUnder (p : Program) (pivots : ℕ) (due : List Bool) (kept : List LocFact)
    (us : List (Option RuleUnderFacts))
    : Type 0 where
  pub many : length us ≡ length p.rules
  pub each : (i : ℕ) (o : Option RuleUnderFacts) (r : Rule) → slice_get us i ≡ Some o → slice_get p.rules i ≡ Some r
      → IsUnderIfDue pivots (forms_in (Some r)) (slice_get due i) kept o

-- each rule is under some list of facts, or it isn't due
pub record AnyUnder (p : Program) (pivots : ℕ) (us : List (Option RuleUnderFacts)) : Type 0 where
  pub due : List Bool
  pub kept : List LocFact
  pub are : AreUnder p pivots due kept us

-- the rows of a rule under a list are few and can be written
abbrev pub HasRows : ℕ → Option RuleUnderFacts → Type 0
HasRows unknowns None = ⊤
HasRows unknowns (Some u) = (length u.rows.items ≤ 371) × All (λ w. IsWritable unknowns (form_of w)) u.rows.items

-- there is an earlier proof that shows the goal, and the goal is implied
abbrev pub ShowsEarlier : ℕ → ℕ → List Form → Form → Option FactProof → Type 0
ShowsEarlier pivots unknowns rows goal None = ⊥
ShowsEarlier pivots unknowns rows goal (Some earlier) = DecidesGoal pivots unknowns rows goal (Some earlier)

-- a rule's answer about a goal over rows: they are the rows under the list, or an earlier proof shows the goal
abbrev pub AnswersAgain : ℕ → ℕ → List Form → Form → Option RuleUnderFacts → Option FactProof → Type 0
AnswersAgain pivots unknowns rows goal None earlier = ShowsEarlier pivots unknowns rows goal earlier
AnswersAgain pivots unknowns rows goal (Some u) earlier =
    (map form_of u.rows.items ≡ rows) × DecidesEmpty pivots unknowns (map form_of u.rows.items) u.empty

-- each rule into a fact's symbol that isn't due implies the fact under a list, as an earlier proof shows
pub record IsShownEarlier (p : Program) (pivots : ℕ) (due : List Bool) (kept : List LocFact) (f : LocFact)
    (ps : List FactProof) : Type 0 where
  pub each : (k t : ℕ) → slice_get (rules_into p f.symbol) k ≡ Some t → slice_get due (t - 1) ≡ Some false
      → ShowsEarlier pivots (forms_at p t).unknowns (combined (forms_at p t) kept)
      (row_after (forms_at p t).new_values f)
      (slice_get ps k)

-- lists of the code, as lists
abbrev pub lists_of : List (Vec FactProof Global) → List (List FactProof)
lists_of lists = map (λ (v : Vec FactProof Global). v.items) lists

-- the list of proofs at a position, or none past the end
abbrev pub listed_in : Option (List FactProof) → List FactProof
listed_in None = []
listed_in (Some ps) = ps

abbrev pub listed_at : List (List FactProof) → ℕ → List FactProof
listed_at proofs i = listed_in (slice_get proofs i)

-- each fact of a list is shown in this way by the proofs at its position
pub record AreShownEarlier (p : Program) (pivots : ℕ) (due : List Bool) (kept : List LocFact)
    (proofs : List (List FactProof)) : Type 0 where
  pub each : (i : ℕ) (f : LocFact) → slice_get kept i ≡ Some f → IsShownEarlier p pivots due kept f (listed_at proofs i)

-- an answer has no point or ray
abbrev pub HasNoElement : Answered → Type 0
HasNoElement (answers.Shown proof) = ⊤
HasNoElement (answers.Refuted z) = ⊥
HasNoElement answers.Missed = ⊤

-- if an answer has a point or ray, it refutes the goal over the rows of the rule that was queried
abbrev pub RefutesQueried : ℕ → Form → Option RuleUnderFacts → Answered → Type 0
RefutesQueried unknowns goal None a = HasNoElement a
RefutesQueried unknowns goal (Some u) a = RefutesGoal unknowns (map form_of u.rows.items) goal a

-- the proofs of an answer, if it has some
abbrev pub proofs_in : FactVerdict → Option (Vec FactProof Global)
proofs_in (Shown proofs) = Some proofs
proofs_in (Refuted e) = None
proofs_in Missed = None

-- the point or ray of an answer, if it has one
abbrev pub elements_in : FactVerdict → List Element
elements_in (Shown proofs) = []
elements_in (Refuted e) = e ∷ []
elements_in Missed = []
