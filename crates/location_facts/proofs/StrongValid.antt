-- Strengthening a valid program by candidate facts gives a valid one.
use Rattle.std.proofs.Common.{◌≡◌, ℕ, zero, suc, ◌+◌, ◌-◌, ◌≤◌, ◌||◌, ap, arith, refl, sym, ◌∙◌, subst, List, []}
use Rattle.std.proofs.Common.{◌∷◌, ◌++◌, length, map, take, min, Bool, true, false, Option, Some, None}
use Rattle.std.specs.Prelude.{ℤ, pos, negsuc, ◌≤ℤ◌, nat_eq, IsTrue}
use Rattle.std.specs.List.{All, AllByRecursion, Contains, list_all, list_any, range_with_len}
use Rattle.std.proofs.lemmas.Int.{ints}
use Rattle.std.proofs.lemmas.Bool.{and_parts}
use Rattle.std.proofs.lemmas.List.{length-append, length-map}
use Rattle.std.proofs.lemmas.List.Elements.{All-take, All-contains}
use Rattle.poly_terms.specs.model.Limits.{atom_limit, rule_limit}
use Rattle.poly_terms.specs.model.Programs.{AtLeast, Program, Rule, arity_of}
use Rattle.poly_terms.specs.model.Terms.{Literal}
use Rattle.poly_terms.specs.Checked.{ReadsBelow}
use Rattle.poly_terms.specs.Faults.{Fault, first_fault}
use Rattle.poly_terms.proofs.model.Membership.{contains-is_in, is_in-numbers}
use Rattle.its_model.specs.Valid.{difference_of, cost_atoms, IsValidAtom, IsValidRule, IsValid}
use Rattle.cert_types.proofs.guard_prep.its_model.CostSteps.{joined-hold}
use Rattle.cert_types.proofs.guard_prep.its_model.ListLaws.{all-from}
use Rattle.location_facts.specs.declared.fact.LocFact.{LocFact}
use Rattle.location_facts.specs.Candidates.{IsCandidate}
use Rattle.location_facts.specs.Rows.{facts_at}
use Rattle.location_facts.specs.Strengthening.{difference_term, fact_atom, room_for, strongest_atoms}
use Rattle.location_facts.specs.Strengthening.{strengthened_rule, strengthened}
use Rattle.location_facts.proofs.Strongest.{HasFact, strongest-all, fact-of-symbol}

-- an optional fault is none
abbrev has_none : Option Fault → Bool
has_none None = true
has_none (Some f) = false

-- the leasts of candidate facts
abbrev leasts : List ℤ
leasts = negsuc 0 ∷ pos 0 ∷ pos 1 ∷ []

-- the atom of a fact can be expanded
abbrev expands_at : ℕ → ℕ → ℤ → Bool
expands_at i j k = has_none (first_fault (difference_of (difference_term i j) AtLeast (Literal k)))

-- all atoms of candidate facts can be expanded, as computed for each
all-expand : list_all (λ i. list_all (λ j. list_all (λ k. expands_at i j k) leasts) (range_with_len 0 9))
    (range_with_len 0 9) ≡ true
all-expand = refl

-- a test that all elements pass is passed by each
at-each : {A : Type 0} (test : A → Bool) (xs : List A) (x : A) → list_all test xs ≡ true → Contains xs x → test x ≡ true
at-each test [] x h (i, low, e) = absurd (omega (arith, low))
at-each {A} test (y ∷ xs) x h (zero, low, e) =
    subst (λ (z : A). test z ≡ true) e (and_parts (test y) (list_all test xs) h).0
at-each test (y ∷ xs) x h (suc i, low, e) =
    at-each test xs x (and_parts (test y) (list_all test xs) h).1 (i, omega (arith, low), e)

-- a place up to the eighth is one of 9, and a least is one of 3
place-listed : (i : ℕ) → i ≤ 8 → Contains (range_with_len 0 9) i
place-listed i l = contains-is_in (range_with_len 0 9) i (is_in-numbers 9 i (omega (arith, l)))

least-listed : (k : ℤ) → negsuc 0 ≤ℤ k → k ≤ℤ pos 1 → Contains leasts k
least-listed (pos zero) l h = (1, omega arith, refl)
least-listed (pos (suc zero)) l h = (2, omega arith, refl)
least-listed (pos (suc (suc n))) l h = absurd (omega (arith, ints, h))
least-listed (negsuc zero) l h = (0, omega arith, refl)
least-listed (negsuc (suc n)) l h = absurd (omega (arith, ints, l))

-- the atom of a candidate fact has no fault
atom-expands : (i j : ℕ) (k : ℤ) → i ≤ 8 → j ≤ 8 → negsuc 0 ≤ℤ k → k ≤ℤ pos 1
    → first_fault (difference_of (difference_term i j) AtLeast (Literal k)) ≡ None
atom-expands i j k l m low high =
    none (first_fault (difference_of (difference_term i j) AtLeast (Literal k)))
    (at-each (λ n. expands_at i j n) leasts k
    (at-each (λ n. list_all (λ a. expands_at i n a) leasts) (range_with_len 0 9) j
    (at-each (λ n. list_all (λ b. list_all (λ a. expands_at n b a) leasts) (range_with_len 0 9)) (range_with_len 0 9) i
    all-expand (place-listed i l)) (place-listed j m)) (least-listed k low high))
  where
    none : (o : Option Fault) → has_none o ≡ true → o ≡ None
    none None e = refl
    none (Some f) e = cc

-- the atom of a fact contains only left variables
reads : (n i j : ℕ) → i ≤ n → j ≤ n → ReadsBelow n (difference_term i j)
reads n zero zero l m = tt
reads n zero (suc j) l m = omega (arith, m)
reads n (suc i) zero l m = omega (arith, l)
reads n (suc i) (suc j) l m = (omega (arith, l), omega (arith, m))

-- taking n elements gives at most n
take-few : {A : Type 0} (n : ℕ) (xs : List A) → length (take n xs) ≤ n
take-few zero xs = omega arith
take-few (suc n) [] = omega arith
take-few (suc n) (x ∷ xs) = let l = take-few n xs in omega (arith, l)

module _ (p : Program) (kept : List LocFact) (candidates : All (IsCandidate p) kept) where
  -- the atom of a fact at the source of a rule is valid
  atom-valid : (r : Rule) → IsValidRule p r → (i j : ℕ) (k : ℤ) → HasFact (facts_at r.source kept) i j k
      → IsValidAtom (r.left + r.free) (fact_atom i j k)
  atom-valid r valid i j k h =
      let of = fact-of-symbol r.source kept h.fact h.member in
      let c = All-contains (IsCandidate p) kept h.fact candidates of.0 in
      let places : arity_of p h.fact.symbol ≡ r.left = ap (arity_of p) of.1 ∙ sym valid.left in
      let l : i ≤ min (arity_of p h.fact.symbol) 8 = subst (λ (x : ℕ). x ≤ min (arity_of p h.fact.symbol) 8) h.plus
      c.plus in
      let m : j ≤ min (arity_of p h.fact.symbol) 8 =
      subst (λ (x : ℕ). x ≤ min (arity_of p h.fact.symbol) 8) h.minus c.minus in
      record {
        left = reads (r.left + r.free) i j (omega (arith, places, l)) (omega (arith, places, m));
        right = tt;
        expands = atom-expands i j k (omega (arith, l)) (omega (arith, m))
            (subst (λ (z : ℤ). negsuc 0 ≤ℤ z) h.is_least c.low) (subst (λ (z : ℤ). z ≤ℤ pos 1) h.is_least c.high);
      }

  -- a strengthened rule is valid
  rule-strong : (r : Rule) → IsValidRule p r → IsValidRule (strengthened kept p) (strengthened_rule kept r)
  rule-strong r valid =
      let atoms = strongest_atoms (facts_at r.source kept) in
      record {
        source = valid.source;
        target = valid.target;
        left = valid.left;
        places = valid.places;
        named = valid.named;
        names = valid.names;
        distinct = valid.distinct;
        few_variables = valid.few_variables;
        few_atoms = few (length r.guard) (cost_atoms r.cost) (length (take (room_for r) atoms))
            (length (r.guard ++ take (room_for r) atoms)) (length-append r.guard (take (room_for r) atoms))
            valid.few_atoms (take-few (room_for r) atoms);
        updates = valid.updates;
        guard = joined-hold (IsValidAtom (r.left + r.free)) r.guard (take (room_for r) atoms) valid.guard
            (all-from (IsValidAtom (r.left + r.free)) (take (room_for r) atoms)
            (All-take (IsValidAtom (r.left + r.free)) (room_for r) atoms
            (strongest-all (IsValidAtom (r.left + r.free)) (facts_at r.source kept) (atom-valid r valid))));
        cost = valid.cost;
      }
    where
      few : (g c n whole : ℕ) → whole ≡ g + n → g + c ≤ atom_limit → n ≤ atom_limit - (g + c) → whole + c ≤ atom_limit
      few g c n whole e l m = omega (arith, e, l, m)

  rules-strong : (rules : List Rule) → AllByRecursion (IsValidRule p) rules
      → AllByRecursion (IsValidRule (strengthened kept p)) (map (strengthened_rule kept) rules)
  rules-strong [] h = tt
  rules-strong (r ∷ rules) h = (rule-strong r h.0, rules-strong rules h.1)

  -- strengthening doesn't change the sources of rules
  sources-same : (s : ℕ) (rules : List Rule)
      → list_any (λ r. nat_eq s r.source) (map (strengthened_rule kept) rules) ≡ list_any (λ r. nat_eq s r.source) rules
  sources-same s [] = refl
  sources-same s (r ∷ rules) = ap (λ (b : Bool). nat_eq s r.source || b) (sources-same s rules)

  pub strong-valid : IsValid p → IsValid (strengthened kept p)
  strong-valid valid = record {
    symbols = valid.symbols;
    distinct = valid.distinct;
    few_rules = subst (λ (n : ℕ). n ≤ rule_limit) (sym (length-map p.rules (strengthened_rule kept))) valid.few_rules;
    rules = rules-strong p.rules valid.rules;
    start = valid.start;
    start_is_source = subst (λ (b : Bool). IsTrue b) (sym (sources-same p.start p.rules)) valid.start_is_source;
    start_places = valid.start_places;
    start_names = valid.start_names;
    start_distinct = valid.start_distinct;
  }
