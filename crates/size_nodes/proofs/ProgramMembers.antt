-- The properties of a member of a program: its rule's rows, and that its side bounds can be read.
use Rattle.std.proofs.Common.{◌≡◌, ℕ, zero, suc, ◌+◌, ◌-◌, ◌^◌, ◌<◌, ◌≤◌, Bool, true, false, if◌then◌else◌, List, []}
use Rattle.std.proofs.Common.{◌∷◌, length, map, get_or, slice_get, All, Option, Some, None, option_map, refl, sym, ap}
use Rattle.std.proofs.Common.{subst, ◌∙◌, arith}
use Rattle.std.specs.List.{AllByRecursion}
use Rattle.std.proofs.lemmas.Option.{slice_get_read, slice_get_within, slice_get-map}
use Rattle.std.proofs.lemmas.List.{length-map}
use Rattle.std.proofs.lemmas.List.Elements.{All-from_recursion, recursion_from_All}
use denote.Ref.{Bor}
use Rattle.model.specs.Programs.{Program, Rule, rule_at}
use Rattle.model.specs.Polynomials.{Polynomial}
use Rattle.model.specs.Terms.{Term}
use Rattle.poly_terms.specs.declared.poly.Monomial.{Monomial}
use Rattle.poly_terms.specs.declared.poly.Poly.{Poly}
use Rattle.poly_terms.specs.Views.{monomial_of, poly_of}
use Rattle.poly_terms.specs.AffineForms.{AreVariablesBelow, HasVariablesBelow}
use Rattle.poly_terms.specs.Expanding.{expanded}
use Rattle.guard_prep.specs.its_model.Valid.{IsValid, IsValidTerm}
use Rattle.guard_prep.proofs.its_model.ListLaws.{mapped-all}
use Rattle.its_graph.specs.declared.graph.Graph.{Graph}
use Rattle.guard_prep.specs.declared.rule_rows.RuleRows.{RuleRows}
use Rattle.guard_prep.specs.Views.{prepared_of}
use Rattle.guard_prep.specs.Prepared.{Prepared, prepared, is_nonlinear}
use Rattle.guard_prep.proofs.StepLaws.{valid-at}
use Rattle.poly_terms.proofs.VariableLaws.{variables-expanded}
use Rattle.cert_types.specs.cert_rules.Nodes as nodes
use Rattle.cert_types.specs.cert_rules.Nodes.{ResultVariable}
use Rattle.cert_types.specs.cert_rules.ComposedSizes.{poly_at, poly_of as poly_in}
use Rattle.cert_types.specs.cert_rules.AcceptsSizes.{IsResultVariable, left_in, left_of, HasMemberShape, AcceptsUp, AcceptsLow}
use Rattle.cert_types.specs.cert_program.Setting.{nonlinear_at, polys_in, setting_of}
use Rattle.cert_types.specs.declared.side_bound.Member.{Member}
use Rattle.cert_types.specs.Views.{member_of}
use Rattle.cert_types.specs.Composing.{optional_poly, HasFewVariables, HasFewPlaces, AreRowsOf}
use Rattle.size_nodes.specs.Needs.{update_at}
use Rattle.size_nodes.specs.Members.{IsMemberOfProgram, AreMembersOfProgram}
use Rattle.model.proofs.Cases.{some_same as some-same}

-- the update at a place is that at the position before it
pub update_next : (polys : List Polynomial) (place : ℕ) → 0 < place → nonlinear_at polys (place - 1) ≡ update_at polys place
update_next polys zero l = absurd (omega (arith, l))
update_next polys (suc i) l = ap (nonlinear_at polys) (let k : suc i - 1 ≡ i = omega arith in k)

module _ (p : Program) (prepared_rules : List RuleRows) (rows : AreRowsOf prepared_rules p) where
  -- there are as many rows as the program has rules
  same-length : length prepared_rules ≡ length p.rules
  same-length = sym (length-map prepared_rules prepared_of) ∙ (ap length rows ∙ length-map p.rules prepared)

  -- a rule with a number has rows
  pub row-within : (t : ℕ) (r : Rule) → rule_at p t ≡ Some r → (0 < t) × (t ≤ length prepared_rules)
  row-within zero r e = absurd (none e)
    where
      none : None ≡ Some r → ⊥
      none h = cc
  row-within (suc t) r e =
      let l = slice_get_within p.rules t r e in (omega arith, omega (arith, l, same-length))

  -- these rows are the rule's own
  pub row-is : (t : ℕ) (r : Rule) (prepared_rule : RuleRows) → rule_at p t ≡ Some r → prepared_rule ≡ get_or prepared_rules (t - 1) prepared_rule
      → prepared_of prepared_rule ≡ prepared r
  row-is zero r prepared_rule e h = absurd (none e)
    where
      none : None ≡ Some r → ⊥
      none k = cc
  row-is (suc t) r prepared_rule e h =
      some-same (prepared_of prepared_rule) (prepared r)
      (sym (slice_get-map prepared_of prepared_rules t ∙ ap (option_map prepared_of) here)
      ∙ (ap (λ (xs : List Prepared). slice_get xs t) rows
      ∙ (slice_get-map prepared p.rules t ∙ ap (option_map prepared) e)))
    where
      low : t < length prepared_rules
      low = let l = slice_get_within p.rules t r e in omega (arith, l, same-length)

      here : slice_get prepared_rules t ≡ Some prepared_rule
      here = slice_get_read prepared_rules (length prepared_rules) t prepared_rule refl low
          (h ∙ ap (λ (i : ℕ). get_or prepared_rules i prepared_rule) (let k : suc t - 1 ≡ t = omega arith in k))

-- the polynomial of a place has only variables below a number that bounds those of all polynomials
nonlinear-below : (w : ℕ) (polys : List Polynomial) (i : ℕ) (q : Polynomial) → AllByRecursion (HasVariablesBelow w) polys
    → nonlinear_at polys i ≡ Some q → HasVariablesBelow w q
nonlinear-below w [] i q h e = absurd (none e)
  where
    none : None ≡ Some q → ⊥
    none k = cc
nonlinear-below w (x ∷ polys) zero q h e = go (is_nonlinear x) e
  where
    go : (v : Bool) → (if v then Some x else None) ≡ Some q → HasVariablesBelow w q
    go true k = subst (HasVariablesBelow w) (some-same x q k) h.0
    go false k = absurd (none k)
      where
        none : None ≡ Some q → ⊥
        none l = cc
nonlinear-below w (x ∷ polys) (suc i) q h e = nonlinear-below w polys i q h.1 e

few-variables : (w : ℕ) (vs : List ℕ) → w ≤ 64 → AreVariablesBelow w vs → AllByRecursion (λ v. v < 2 ^ 31) vs
few-variables w [] l h = tt
few-variables w (v ∷ vs) l h = (omega (arith, l, h.0), few-variables w vs l h.1)

few-terms : (w : ℕ) (ms : List Monomial) → w ≤ 64 → HasVariablesBelow w (map monomial_of ms)
    → AllByRecursion HasFewVariables ms
few-terms w [] l h = tt
few-terms w (m ∷ ms) l h =
    (All-from_recursion (λ v. v < 2 ^ 31) m.vars.items (few-variables w m.vars.items l h.0), few-terms w ms l h.1)

-- an update has few places
pub few-places : (w : ℕ) (o : Option (Bor Poly)) (polys : List Polynomial) (place : ℕ) → w ≤ 64
    → AllByRecursion (HasVariablesBelow w) polys → optional_poly o ≡ update_at polys place → HasFewPlaces o
few-places w None polys place l h e = tt
few-places w (Some q) polys zero l h e = absurd (none e)
  where
    none : Some (poly_of q.now) ≡ None → ⊥
    none k = cc
few-places w (Some q) polys (suc i) l h e =
    All-from_recursion HasFewVariables q.now.terms.items
    (few-terms w q.now.terms.items l (nonlinear-below w polys i (poly_of q.now) h (sym e)))

-- expanded updates have variables below those of the rule
pub updates-below : (n : ℕ) (us : List Term) → AllByRecursion (IsValidTerm n) us
    → AllByRecursion (HasVariablesBelow n) (map expanded us)
updates-below n [] h = tt
updates-below n (u ∷ us) h = (variables-expanded n u h.0.variables, updates-below n us h.1)

module _ (p : Program) (prepared_rules : List RuleRows) (rows : AreRowsOf prepared_rules p) where
  -- the update of a result variable is that of its rule's rows
  pub poly_is : (result_variable : ResultVariable) → IsResultVariable p result_variable → (prepared_rule : RuleRows) → prepared_rule ≡ get_or prepared_rules (result_variable.rule - 1) prepared_rule
      → update_at (map poly_of prepared_rule.polys.items) result_variable.place ≡ poly_at (setting_of p) result_variable
  poly_is result_variable is prepared_rule e =
      ap (λ (m : Prepared). update_at m.polys result_variable.place) (row-is p prepared_rules rows result_variable.rule is.rule prepared_rule is.numbered e)
      ∙ (ap (λ (o : Option Rule). update_at (polys_in o) result_variable.place) (sym is.numbered) ∙ told result_variable.place)
    where
      told : (place : ℕ) → update_at (polys_in (rule_at p result_variable.rule)) place ≡ poly_in (setting_of p) result_variable.rule place
      told zero = refl
      told (suc i) = refl

  -- the update of a result variable has few places
  pub poly_few : IsValid p → (result_variable : ResultVariable) → IsResultVariable p result_variable → (prepared_rule : RuleRows) → prepared_rule ≡ get_or prepared_rules (result_variable.rule - 1) prepared_rule
      → (o : Option (Bor Poly)) → optional_poly o ≡ update_at (map poly_of prepared_rule.polys.items) result_variable.place → HasFewPlaces o
  poly_few v result_variable is prepared_rule e o seen =
      let h = valid-at p result_variable.rule is.rule v is.numbered in
      few-places (is.rule.left + is.rule.free) o (map poly_of prepared_rule.polys.items) result_variable.place h.few_variables
      (subst (λ (m : Prepared). AllByRecursion (HasVariablesBelow (is.rule.left + is.rule.free)) m.polys)
      (sym (row-is p prepared_rules rows result_variable.rule is.rule prepared_rule is.numbered e))
      (updates-below (is.rule.left + is.rule.free) is.rule.updates h.updates))
      seen

  -- the number of left variables is that of the rule, and small
  pub left_is : (result_variable : ResultVariable) → IsResultVariable p result_variable → (prepared_rule : RuleRows) → prepared_rule ≡ get_or prepared_rules (result_variable.rule - 1) prepared_rule
      → prepared_rule.left ≡ left_of p result_variable.rule
  left_is result_variable is prepared_rule e =
      ap (λ (m : Prepared). m.left) (row-is p prepared_rules rows result_variable.rule is.rule prepared_rule is.numbered e)
      ∙ ap left_in (sym is.numbered)

-- a rule has few left variables
pub few_left : (p : Program) → IsValid p → (result_variable : ResultVariable) → IsResultVariable p result_variable → left_of p result_variable.rule ≤ 64
few_left p v result_variable is =
    let h = (valid-at p result_variable.rule is.rule v is.numbered).few_variables in
    subst (λ (o : Option Rule). left_in o ≤ 64) (sym is.numbered) (omega (arith, h))

-- the property of all given members is a property of each of them
pub given_at : (p : Program) (g : Graph) (prepared_rules : List RuleRows) (members : List Member) (i : ℕ) (m : Member)
    → AreMembersOfProgram p g prepared_rules (map member_of members) → i < length members → m ≡ get_or members i m
    → IsMemberOfProgram p g prepared_rules (member_of m)
given_at p g prepared_rules members i m given low e = record {
  valid = given.valid;
  graph = given.graph;
  rows = given.rows;
  shape = one (HasMemberShape (setting_of p)) given.shape.each;
  up = one (AcceptsUp (setting_of p)) given.up;
  low = one (AcceptsLow (setting_of p)) given.low;
}
  where
    one : (P : nodes.Member → Type 0) → All P (map member_of members) → P (member_of m)
    one P h = mapped-all P member_of members i m (recursion_from_All P (map member_of members) h) low e
