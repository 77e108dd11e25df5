-- The statements of accepted claims include what each claim states on its own.
use Rattle.std.proofs.Common.{◌≡◌, ℕ, suc, Bool, true, false, List, [], ◌∷◌, ◌++◌, Option, Some, None, refl, sym, ap, ◌∙◌, arith}
use Rattle.std.specs.Prelude.{if◌then◌else◌}
use Rattle.std.specs.List.{All, Contains, flat_map}
use Rattle.std.proofs.lemmas.List.Elements.{All-append, All-cons, All-nil, All-weaker, Contains-append_right}
use Rattle.model.specs.Terms.{Term, Negation}
use Rattle.model.specs.Programs.{Rule, rule_at}
use Rattle.model.specs.Polynomials.{Polynomial}
use Rattle.poly_terms.specs.Expanding.{expanded}
use Rattle.signed_bounds.specs.Bounds.{Signed, SumOf, SignedParts}
use Rattle.signed_bounds.specs.Safe.{expands_to_squares}
use Rattle.signed_bounds.specs.Within.{within}
use Rattle.potential_nodes.specs.Facts.{SignedFact, one_form}
use Rattle.program_claims.specs.Claims.{Claim, ByOne, ByEach, OnTime, OnCost, OnTotal, OnAbove, OnBelow, OnSymbol}
use Rattle.program_claims.specs.Claims.{Stated, Time, Cost, Total, Above, Below, AtSymbol}
use Rattle.program_claims.specs.Copies.{copies_of, charge_each, cost_charges, update_at}
use Rattle.program_claims.specs.Evidence.{Evidence}
use Rattle.program_claims.specs.Verdicts.{ClaimReason, NoRule, NoCost, NoCopy, NoFact, BadLemma, LowBound}
use Rattle.program_claims.specs.Verdicts.{Verdict, Accepted, Refused, verdict_map}
use Rattle.program_claims.specs.Sums.{charges_bound, charge_bounds, parts_bound}
use Rattle.program_claims.specs.Heads.{are_heads_there}
use Rattle.program_claims.specs.SymbolFacts.{has_copy, have_facts_below}
use Rattle.program_claims.specs.Acceptance.{copies_bound, time_stated, written_stated, cost_stated, no_update, head_reason}
use Rattle.program_claims.specs.Acceptance.{are_copies_within, copies_stated, above_stated, below_stated, symbol_stated}
use Rattle.program_claims.specs.Acceptance.{ClaimRefusal, stated_by, refused_or, first_refused, with_stated, all_stated}
use Rattle.facts_proof.specs.Entries.{own_statements}

-- a refusal isn't an acceptance, and equal acceptances accept the same
refused_accepted : {A : Type 0} (reason : ClaimReason) (x : A) → Refused reason ≡ Accepted x → ⊥
refused_accepted reason x e = cc

accepted_same : {A : Type 0} (x y : A) → Accepted x ≡ Accepted y → x ≡ y
accepted_same x y e = cc

some_none : {A : Type 0} (x : A) → Some x ≡ None → ⊥
some_none x e = cc

-- a function of an accepted verdict
mapped : {A B : Type 0} (f : A → B) (v : Verdict A) (y : B) → verdict_map f v ≡ Accepted y
    → (x : A) × (v ≡ Accepted x) × (y ≡ f x)
mapped f (Refused reason) y h = absurd (refused_accepted reason y h)
mapped f (Accepted x) y h = (x, refl, sym (accepted_same (f x) y h))

-- a sum of bounds that is accepted is the stated one
stated-sum : (bound : Signed) (o : Option SignedParts) (b : Signed) → parts_bound bound o ≡ Accepted b → bound ≡ b
stated-sum bound None b h = absurd (refused_accepted BadLemma b h)
stated-sum bound (Some parts) b h = go (within expands_to_squares 1 (SumOf parts) bound) h
  where
    go : (v : Bool) → (if v then Accepted bound else Refused LowBound) ≡ Accepted b → bound ≡ b
    go true k = accepted_same bound b k
    go false k = absurd (refused_accepted LowBound b k)

module _ (e : Evidence) where
  time-own : (t : ℕ) (ns : List ℕ) (b : Signed) (x : Option Rule) (s : Stated)
      → time_stated e t (ByEach ns b) x ≡ Accepted s → Time t b ≡ s
  time-own t ns b None s h = absurd (refused_accepted NoRule s h)
  time-own t ns b (Some r) s h =
      let (c, stated, is) = mapped (Time t) (copies_bound e t (ByEach ns b) one_form) s h in
      ap (Time t) (stated-sum b (charge_bounds e.facts (charge_each one_form (copies_of e.above e.projection t)) ns) c
      stated) ∙ sym is

  cost-own : (t : ℕ) (ns : List ℕ) (b : Signed) (x : Option Rule) (s : Stated)
      → cost_stated e t (ByEach ns b) x ≡ Accepted s → Cost t b ≡ s
  cost-own t ns b None s h = absurd (refused_accepted NoRule s h)
  cost-own t ns b (Some r) s h = go r.cost h
    where
      go : (y : Option Term) → written_stated e t (ByEach ns b) y ≡ Accepted s → Cost t b ≡ s
      go None k = absurd (refused_accepted NoCost s k)
      go (Some w) k =
          let (c, stated, is) = mapped (Cost t) (copies_bound e t (ByEach ns b) (expanded w)) s k in
          ap (Cost t) (stated-sum b (charge_bounds e.facts (charge_each (expanded w)
          (copies_of e.above e.projection t)) ns) c stated) ∙ sym is

  total-own : (ns : List ℕ) (b : Signed) (s : Stated)
      → verdict_map Total (charges_bound e.facts (cost_charges 1 e.above.rules) (ByEach ns b)) ≡ Accepted s
      → Total b ≡ s
  total-own ns b s h =
      let (c, stated, is) = mapped Total (charges_bound e.facts (cost_charges 1 e.above.rules) (ByEach ns b)) s h in
      ap Total (stated-sum b (charge_bounds e.facts (cost_charges 1 e.above.rules) ns) c stated) ∙ sym is

  copies-own : (t i : ℕ) (ns : List ℕ) (b : Signed) (form : Polynomial) (own s : Stated)
      → copies_stated e t i ns b form own ≡ Accepted s → own ≡ s
  copies-own t i ns b form own s h = go (are_copies_within e t i ns b form) h
    where
      go : (v : Bool)
          → (if v then Accepted own
          else Refused (head_reason (are_heads_there e.facts form i (copies_of e.above e.projection t) ns))) ≡ Accepted s
          → own ≡ s
      go true k = accepted_same own s k
      go false k = absurd (refused_accepted (head_reason (are_heads_there e.facts form i
          (copies_of e.above e.projection t) ns)) s k)

  above-own : (t i : ℕ) (ns : List ℕ) (b : Signed) (y : Option Term) (s : Stated)
      → above_stated e t i ns b y ≡ Accepted s → Above t i b ≡ s
  above-own t i ns b None s h = absurd (refused_accepted (no_update (rule_at e.program t)) s h)
  above-own t i ns b (Some u) s h = copies-own t i ns b (expanded u) (Above t i b) s h

  originals-own : (t i : ℕ) (ns : List ℕ) (b : Signed) (y : Option Term) (s : Stated)
      → below_stated e t i ns b y ≡ Accepted s → Below t i b ≡ s
  originals-own t i ns b None s h = absurd (refused_accepted (no_update (rule_at e.program t)) s h)
  originals-own t i ns b (Some u) s h = copies-own t i ns b (expanded (Negation u)) (Below t i b) s h

  symbol-own : (symbol : ℕ) (f : Term) (s : Stated) → symbol_stated symbol f e.copies ≡ Accepted s
      → AtSymbol symbol f ≡ s
  symbol-own symbol f s h = go (has_copy symbol e.copies) (have_facts_below symbol f e.copies) h
    where
      go : (v w : Bool)
          → (if v then (if w then Accepted (AtSymbol symbol f) else Refused NoFact) else Refused NoCopy) ≡ Accepted s
          → AtSymbol symbol f ≡ s
      go false w k = absurd (refused_accepted NoCopy s k)
      go true false k = absurd (refused_accepted NoFact s k)
      go true true k = accepted_same (AtSymbol symbol f) s k

  -- what a claim states on its own is in a list that has the statement of the claim
  single : (stated : List Stated) (own s : Stated) → own ≡ s → All (Contains (s ∷ stated)) (own ∷ [])
  single stated own s same =
      All-cons (Contains (s ∷ stated)) own [] (0, omega arith, sym same)
      (All-nil (Contains (s ∷ stated)))

  own-included : (c : Claim) (s : Stated) (stated : List Stated) → stated_by e c ≡ Accepted s
      → All (Contains (s ∷ stated)) (own_statements c)
  own-included (OnTime t (ByOne n)) s stated h = All-nil (Contains (s ∷ stated))
  own-included (OnTime t (ByEach ns b)) s stated h =
      single stated (Time t b) s (time-own t ns b (rule_at e.program t) s h)
  own-included (OnCost t (ByOne n)) s stated h = All-nil (Contains (s ∷ stated))
  own-included (OnCost t (ByEach ns b)) s stated h =
      single stated (Cost t b) s (cost-own t ns b (rule_at e.program t) s h)
  own-included (OnTotal (ByOne n)) s stated h = All-nil (Contains (s ∷ stated))
  own-included (OnTotal (ByEach ns b)) s stated h = single stated (Total b) s (total-own ns b s h)
  own-included (OnAbove t i ns b) s stated h =
      single stated (Above t i b) s (above-own t i ns b (update_at (rule_at e.program t) i) s h)
  own-included (OnBelow t i ns b) s stated h =
      single stated (Below t i b) s (originals-own t i ns b (update_at (rule_at e.program t) i) s h)
  own-included (OnSymbol symbol f) s stated h = single stated (AtSymbol symbol f) s (symbol-own symbol f s h)

  -- the statements of claims, none of which is refused, include what each claim states on its own
  pub included : (k : ℕ) (cs : List Claim) → first_refused e k cs ≡ None
      → All (Contains (all_stated e cs)) (flat_map own_statements cs)
  included k [] h = All-nil (Contains [])
  included k (c ∷ cs) h = go (stated_by e c) refl h (included (suc k) cs)
    where
      go : (v : Verdict Stated) → stated_by e c ≡ v → refused_or k v (first_refused e (suc k) cs) ≡ None
          → (first_refused e (suc k) cs ≡ None → All (Contains (all_stated e cs)) (flat_map own_statements cs))
          → All (Contains (with_stated v (all_stated e cs))) (own_statements c ++ flat_map own_statements cs)
      go (Refused reason) is none later = absurd (some_none (record { number = k; reason = reason }) none)
      go (Accepted s) is none later =
          All-append (Contains (s ∷ all_stated e cs)) (own_statements c) (flat_map own_statements cs)
          (own-included c s (all_stated e cs) is)
          (All-weaker (Contains (all_stated e cs)) (Contains (s ∷ all_stated e cs))
          (λ x member. Contains-append_right (s ∷ []) (all_stated e cs) x member) (flat_map own_statements cs)
          (later none))
