-- The statement of an accepted claim holds on all runs of the program.
use Rattle.std.proofs.Common.{◌≡◌, ℕ, suc, Bool, true, false, List, [], ◌∷◌, Option, Some, None, refl, sym, ap, ◌∙◌, subst}
use Rattle.std.specs.Prelude.{if◌then◌else◌, ⊤}
use Rattle.std.proofs.lemmas.Bool.{true≢false}
use Rattle.model.specs.Terms.{Term, Negation}
use Rattle.model.specs.Programs.{Program, Rule, rule_at}
use Rattle.model.specs.Polynomials.{Polynomial}
use Rattle.model.specs.Runs.{Config}
use Rattle.poly_terms.specs.Expanding.{expanded}
use Rattle.refinement.specs.Simulation.{Projection, Simulates}
use Rattle.refinement.specs.Sections.{Copy, spelled, projection_of, HasFactsOf}
use Rattle.refinement.specs.Laws.{HoldsAt, same_numbers}
use Rattle.signed_bounds.specs.Bounds.{Signed}
use Rattle.signed_bounds.specs.Safe.{IsSafe, expands_to_squares}
use Rattle.signed_bounds.specs.Within.{WithinHolds}
use Rattle.potential_nodes.specs.Facts.{SignedFact, AllSignedHold, one_form}
use Rattle.program_claims.specs.Claims.{Support, Claim, OnTime, OnCost, OnTotal, OnAbove, OnBelow, OnSymbol}
use Rattle.program_claims.specs.Claims.{Stated, Time, Cost, Total, Above, Below, AtSymbol, HoldsOf, AllHoldOf}
use Rattle.program_claims.specs.Copies.{copies_of, charge_each, cost_charges, update_at}
use Rattle.program_claims.specs.Evidence.{Evidence}
use Rattle.program_claims.specs.Verdicts.{NoRule, NoCost, NoCopy, NoFact}
use Rattle.program_claims.specs.Verdicts.{Verdict, Accepted, Refused, verdict_map}
use Rattle.program_claims.specs.Sums.{charges_bound}
use Rattle.program_claims.specs.Heads.{are_heads_within, are_heads_there}
use Rattle.program_claims.specs.SymbolFacts.{has_copy, have_facts_below}
use Rattle.program_claims.specs.Acceptance.{copies_bound, time_stated, written_stated, cost_stated, no_update, head_reason}
use Rattle.program_claims.specs.Acceptance.{copies_stated, above_stated, below_stated, symbol_stated}
use Rattle.program_claims.specs.Acceptance.{stated_by, with_stated, all_stated}
use Rattle.program_claims.specs.Laws.{AcceptedClaimsHold, OwnClaimsHold}
use Rattle.program_claims.proofs.ClaimLaws.{of-rule, time-holds, cost-holds, total-holds, above-holds, below-holds}
use Rattle.program_claims.proofs.VerdictLaws.{refused_accepted, accepted_same, mapped}
use Rattle.program_claims.proofs.SumBounds.{charges_bound-holds}
use Rattle.program_claims.proofs.SymbolLaws.{symbol-holds}

-- laws for each kind of claim, by a simulating program and copies of symbols whose facts hold at the symbols
module _ (p q : Program) (o : Projection) (HasFacts : Config → Type 0) (simulates : Simulates q p o HasFacts)
    (facts : List SignedFact) (hold : AllSignedHold q facts) (within_holds : WithinHolds)
    (safe : IsSafe expands_to_squares) (copies : List Copy)
    (symbols : (symbol : ℕ) (f : Term) → has_copy symbol copies ≡ true → have_facts_below symbol f copies ≡ true
    → HoldsAt p symbol f) where
  abbrev evidence : Evidence
  evidence = record { program = p; above = q; projection = o; copies = copies; facts = facts }

  time-claim : (n : ℕ) (support : Support) (x : Option Rule) → rule_at p n ≡ x → (s : Stated)
      → time_stated evidence n support x ≡ Accepted s → HoldsOf p s
  time-claim n support None e s h = absurd (refused_accepted NoRule s h)
  time-claim n support (Some r) e s h =
      let (b, stated, is) = mapped (Time n) (copies_bound evidence n support one_form) s h in
      subst (λ (x : Stated). HoldsOf p x) (sym is)
      (time-holds p q o HasFacts simulates facts hold n r b e
      (charges_bound-holds q facts hold within_holds safe (charge_each one_form (copies_of q o n)) support b stated))

  cost-claim : (n : ℕ) (support : Support) (x : Option Rule) → rule_at p n ≡ x → (s : Stated)
      → cost_stated evidence n support x ≡ Accepted s → HoldsOf p s
  cost-claim n support None e s h = absurd (refused_accepted NoRule s h)
  cost-claim n support (Some r) e s h = go r.cost refl h
    where
      go : (y : Option Term) → r.cost ≡ y → written_stated evidence n support y ≡ Accepted s → HoldsOf p s
      go None w k = absurd (refused_accepted NoCost s k)
      go (Some c) w k =
          let (b, stated, is) = mapped (Cost n) (copies_bound evidence n support (expanded c)) s k in
          subst (λ (x : Stated). HoldsOf p x) (sym is)
          (cost-holds p q o HasFacts simulates facts hold n r c b e w
          (charges_bound-holds q facts hold within_holds safe (charge_each (expanded c) (copies_of q o n)) support b stated))

  total-claim : (support : Support) (s : Stated)
      → verdict_map Total (charges_bound facts (cost_charges 1 q.rules) support) ≡ Accepted s → HoldsOf p s
  total-claim support s h =
      let (b, stated, is) = mapped Total (charges_bound facts (cost_charges 1 q.rules) support) s h in
      subst (λ (x : Stated). HoldsOf p x) (sym is)
      (total-holds p q o HasFacts simulates facts hold b (charges_bound-holds q facts hold within_holds safe (cost_charges 1 q.rules) support b stated))

  -- if a claim on a value is accepted, lemmas bound the form at all copies of the rule by at most the bound
  within-claim : (n place : ℕ) (ns : List ℕ) (bound : Signed) (form : Polynomial) (stated s : Stated)
      → copies_stated evidence n place ns bound form stated ≡ Accepted s
      → (are_heads_within facts form place bound (copies_of q o n) ns ≡ true) × (stated ≡ s)
  within-claim n place ns bound form stated s h = go (are_heads_within facts form place bound (copies_of q o n) ns) refl h
    where
      go : (v : Bool) → are_heads_within facts form place bound (copies_of q o n) ns ≡ v
          → (if v then Accepted stated
          else Refused (head_reason (are_heads_there facts form place (copies_of q o n) ns))) ≡ Accepted s
          → (are_heads_within facts form place bound (copies_of q o n) ns ≡ true) × (stated ≡ s)
      go true e k = (e, accepted_same stated s k)
      go false e k =
          absurd (refused_accepted (head_reason (are_heads_there facts form place (copies_of q o n) ns)) s k)

  above-claim : (n place : ℕ) (ns : List ℕ) (bound : Signed) (y : Option Term) → update_at (rule_at p n) place ≡ y
      → (s : Stated) → above_stated evidence n place ns bound y ≡ Accepted s → HoldsOf p s
  above-claim n place ns bound None e s h = absurd (refused_accepted (no_update (rule_at p n)) s h)
  above-claim n place ns bound (Some u) e s h =
      let (r, i, there, same, at) = of-rule p n place u e in
      let both = within-claim n place ns bound (expanded u) (Above n place bound) s h in
      let fits : are_heads_within facts (expanded u) (suc i) bound (copies_of q o n) ns ≡ true =
      subst (λ (j : ℕ). are_heads_within facts (expanded u) j bound (copies_of q o n) ns ≡ true) same both.0 in
      subst (λ (x : Stated). HoldsOf p x) (ap (λ (j : ℕ). Above n j bound) (sym same) ∙ both.1)
      (above-holds p q o HasFacts simulates facts hold within_holds safe n i u r ns bound there at fits)

  below-claim : (n place : ℕ) (ns : List ℕ) (bound : Signed) (y : Option Term) → update_at (rule_at p n) place ≡ y
      → (s : Stated) → below_stated evidence n place ns bound y ≡ Accepted s → HoldsOf p s
  below-claim n place ns bound None e s h = absurd (refused_accepted (no_update (rule_at p n)) s h)
  below-claim n place ns bound (Some u) e s h =
      let (r, i, there, same, at) = of-rule p n place u e in
      let both = within-claim n place ns bound (expanded (Negation u)) (Below n place bound) s h in
      let fits : are_heads_within facts (expanded (Negation u)) (suc i) bound (copies_of q o n) ns ≡ true =
      subst (λ (j : ℕ). are_heads_within facts (expanded (Negation u)) j bound (copies_of q o n) ns ≡ true) same both.0 in
      subst (λ (x : Stated). HoldsOf p x) (ap (λ (j : ℕ). Below n j bound) (sym same) ∙ both.1)
      (below-holds p q o HasFacts simulates facts hold within_holds safe n i u r ns bound there at fits)

  symbol-claim : (symbol : ℕ) (f : Term) (s : Stated) → symbol_stated symbol f copies ≡ Accepted s → HoldsOf p s
  symbol-claim symbol f s h = go (has_copy symbol copies) refl (have_facts_below symbol f copies) refl h
    where
      go : (v : Bool) → has_copy symbol copies ≡ v → (w : Bool) → have_facts_below symbol f copies ≡ w
          → (if v then (if w then Accepted (AtSymbol symbol f) else Refused NoFact) else Refused NoCopy) ≡ Accepted s
          → HoldsOf p s
      go false e w e' k = absurd (refused_accepted NoCopy s k)
      go true e false e' k = absurd (refused_accepted NoFact s k)
      go true e true e' k =
          subst (λ (x : Stated). HoldsOf p x) (accepted_same (AtSymbol symbol f) s k) (symbols symbol f e e')

  claim-holds : (claim : Claim) (s : Stated) → stated_by evidence claim ≡ Accepted s → HoldsOf p s
  claim-holds (OnTime n support) s h = time-claim n support (rule_at p n) refl s h
  claim-holds (OnCost n support) s h = cost-claim n support (rule_at p n) refl s h
  claim-holds (OnTotal support) s h = total-claim support s h
  claim-holds (OnAbove n place ns bound) s h = above-claim n place ns bound (update_at (rule_at p n) place) refl s h
  claim-holds (OnBelow n place ns bound) s h = below-claim n place ns bound (update_at (rule_at p n) place) refl s h
  claim-holds (OnSymbol symbol f) s h = symbol-claim symbol f s h

  claims-hold : (claims : List Claim) → AllHoldOf p (all_stated evidence claims)
  claims-hold [] = tt
  claims-hold (claim ∷ claims) = go (stated_by evidence claim) refl (claims-hold claims)
    where
      go : (v : Verdict Stated) → stated_by evidence claim ≡ v → AllHoldOf p (all_stated evidence claims)
          → AllHoldOf p (with_stated v (all_stated evidence claims))
      go (Refused reason) e ih = ih
      go (Accepted s) e ih = (claim-holds claim s e, ih)

pub claims_hold : WithinHolds → IsSafe expands_to_squares → AcceptedClaimsHold
claims_hold within_holds safe = record {
  one = λ p s runs symbols facts hold.
      claim-holds p (spelled p s) (projection_of p s) (HasFactsOf s) runs.simulates facts hold within_holds safe s.copies
      (λ symbol f copied below. symbol-holds safe f p s symbols symbol below);
  all = λ p s runs symbols facts hold.
      claims-hold p (spelled p s) (projection_of p s) (HasFactsOf s) runs.simulates facts hold within_holds safe s.copies
      (λ symbol f copied below. symbol-holds safe f p s symbols symbol below);
}

-- a program simulates itself
itself : (p : Program) → Simulates p p same_numbers (λ c. ⊤)
itself p = record {
  start = refl;
  places = refl;
  entry = refl;
  first = λ c at. tt;
  copies = λ t copy h. record {
    rule = copy;
    numbered = h;
    copies = record { left = refl; free = refl; updates = refl; cost = refl; source = refl; target = refl };
  };
  covered = λ t r c free facts h enabled. record {
    number = t;
    rule = r;
    numbered = h;
    above = refl;
    enabled = record {
      source = enabled.source;
      left = enabled.left;
      free_ones = enabled.free_ones;
      guard = enabled.guard;
    };
  };
  kept = λ t r copy c d free facts h below guard leads. tt;
}

pub own_claims_hold : WithinHolds → IsSafe expands_to_squares → OwnClaimsHold
own_claims_hold within_holds safe = record {
  all = λ p facts hold claims.
      claims-hold p p same_numbers (λ c. ⊤) (itself p) facts hold within_holds safe []
      (λ symbol f copied below. absurd (true≢false (sym copied))) claims;
}
