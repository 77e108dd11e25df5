-- When a claim is accepted, and what it states.
use Rattle.std.specs.Prelude.{ℕ, suc, Bool, true, false, if◌then◌else◌, List, [], ◌∷◌, Option, Some, None}
use Rattle.model.specs.Terms.{Term, Negation}
use Rattle.model.specs.Programs.{Rule, rule_at}
use Rattle.model.specs.Polynomials.{Polynomial}
use Rattle.poly_terms.specs.Expanding.{expanded}
use Rattle.refinement.specs.Sections.{Copy}
use Rattle.signed_bounds.specs.Bounds.{Signed}
use Rattle.potential_nodes.specs.Facts.{one_form}
use Rattle.program_claims.specs.Claims.{Support, Claim, OnTime, OnCost, OnTotal, OnAbove, OnBelow, OnSymbol}
use Rattle.program_claims.specs.Claims.{Stated, Time, Cost, Total, Above, Below, AtSymbol}
use Rattle.program_claims.specs.Copies.{copies_of, charge_each, cost_charges, update_at}
use Rattle.program_claims.specs.Evidence.{Evidence}
use Rattle.program_claims.specs.Verdicts.{ClaimReason, NoRule, NoCost, NoPlace, NoCopy, NoFact, BadLemma, LowBound}
use Rattle.program_claims.specs.Verdicts.{Verdict, Accepted, Refused, verdict_map}
use Rattle.program_claims.specs.Sums.{charges_bound}
use Rattle.program_claims.specs.Heads.{are_heads_within, are_heads_there}
use Rattle.program_claims.specs.SymbolFacts.{has_copy, have_facts_below}

-- a bound on the sum of a form over the steps of all copies of a rule
abbrev pub copies_bound : Evidence → ℕ → Support → Polynomial → Verdict Signed
copies_bound e rule support form =
    charges_bound e.facts (charge_each form (copies_of e.above e.projection rule)) support

-- the statement of a claim on the time of a rule, if there is the rule: a bound on the sum of 1 over the steps of all
-- copies
abbrev pub time_stated : Evidence → ℕ → Support → Option Rule → Verdict Stated
time_stated e rule support None = Refused NoRule
time_stated e rule support (Some r) = verdict_map (Time rule) (copies_bound e rule support one_form)

-- the statement of a claim on the cost of a rule, if a cost is written: a bound on the sum of the cost over the steps
-- of all copies
abbrev pub written_stated : Evidence → ℕ → Support → Option Term → Verdict Stated
written_stated e rule support None = Refused NoCost
written_stated e rule support (Some c) = verdict_map (Cost rule) (copies_bound e rule support (expanded c))

abbrev pub cost_stated : Evidence → ℕ → Support → Option Rule → Verdict Stated
cost_stated e rule support None = Refused NoRule
cost_stated e rule support (Some r) = written_stated e rule support r.cost

-- the reason why a rule has no update of a place
abbrev pub no_update : Option Rule → ClaimReason
no_update None = NoRule
no_update (Some r) = NoPlace

-- whether lemmas bound a form by at most the bound at the steps of each copy of a rule; and the statement if they do,
-- else the reason
abbrev pub are_copies_within : Evidence → ℕ → ℕ → List ℕ → Signed → Polynomial → Bool
are_copies_within e rule place ns bound form =
    are_heads_within e.facts form place bound (copies_of e.above e.projection rule) ns

abbrev pub head_reason : Bool → ClaimReason
head_reason false = BadLemma
head_reason true = LowBound

abbrev pub copies_stated : Evidence → ℕ → ℕ → List ℕ → Signed → Polynomial → Stated → Verdict Stated
copies_stated e rule place ns bound form stated =
    if are_copies_within e rule place ns bound form then Accepted stated
    else Refused (head_reason (are_heads_there e.facts form place (copies_of e.above e.projection rule) ns))

-- The statement of a claim on the value at a place, from above and from below: its lemmas bound the new value, or its
-- negation, by at most the bound of the claim at the steps of each copy.
abbrev pub above_stated : Evidence → ℕ → ℕ → List ℕ → Signed → Option Term → Verdict Stated
above_stated e rule place ns bound None = Refused (no_update (rule_at e.program rule))
above_stated e rule place ns bound (Some u) =
    copies_stated e rule place ns bound (expanded u) (Above rule place bound)

abbrev pub below_stated : Evidence → ℕ → ℕ → List ℕ → Signed → Option Term → Verdict Stated
below_stated e rule place ns bound None = Refused (no_update (rule_at e.program rule))
below_stated e rule place ns bound (Some u) =
    copies_stated e rule place ns bound (expanded (Negation u)) (Below rule place bound)

-- the statement of a claim on a symbol: the symbol has a copy, and each of its copies has a fact that is at most the
-- expression
abbrev pub symbol_stated : ℕ → Term → List Copy → Verdict Stated
symbol_stated symbol f copies =
    if has_copy symbol copies
    then (if have_facts_below symbol f copies then Accepted (AtSymbol symbol f) else Refused NoFact)
    else Refused NoCopy

-- the statement of a claim, given its evidence, or why the claim isn't accepted
abbrev pub stated_by : Evidence → Claim → Verdict Stated
stated_by e (OnTime rule support) = time_stated e rule support (rule_at e.program rule)
stated_by e (OnCost rule support) = cost_stated e rule support (rule_at e.program rule)
stated_by e (OnTotal support) = verdict_map Total (charges_bound e.facts (cost_charges 1 e.above.rules) support)
stated_by e (OnAbove rule place ns bound) =
    above_stated e rule place ns bound (update_at (rule_at e.program rule) place)
stated_by e (OnBelow rule place ns bound) =
    below_stated e rule place ns bound (update_at (rule_at e.program rule) place)
stated_by e (OnSymbol symbol f) = symbol_stated symbol f e.copies

-- the number of a claim that isn't accepted, and why
pub record ClaimRefusal : Type 0 where
  pub number : ℕ
  pub reason : ClaimReason

-- the first claim of a list that isn't accepted, where the first has number k; none if all are accepted
abbrev pub refused_or : ℕ → Verdict Stated → Option ClaimRefusal → Option ClaimRefusal
refused_or k (Refused reason) later = Some (record { number = k; reason = reason })
refused_or k (Accepted s) later = later

abbrev pub first_refused : Evidence → ℕ → List Claim → Option ClaimRefusal
first_refused e k [] = None
first_refused e k (claim ∷ claims) = refused_or k (stated_by e claim) (first_refused e (suc k) claims)

-- the statements of the accepted claims of a list
abbrev pub with_stated : Verdict Stated → List Stated → List Stated
with_stated (Refused reason) stated = stated
with_stated (Accepted s) stated = s ∷ stated

abbrev pub all_stated : Evidence → List Claim → List Stated
all_stated e [] = []
all_stated e (claim ∷ claims) = with_stated (stated_by e claim) (all_stated e claims)
