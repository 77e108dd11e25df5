-- A found node is accepted once the premises that it needs are available.
use Rattle.std.proofs.Common.{◌≡◌, ℕ, zero, suc, ◌+◌, ◌<◌, ◌≤◌, ap, arith, refl, sym, ◌∙◌, subst, Bool, true}
use Rattle.std.proofs.Common.{false, cond, ◌||◌, ◌⊎◌, inl, inr, List, [], ◌∷◌, ◌++◌, length, map, nat_eq}
use Rattle.std.proofs.Common.{Option, Some, None}
use Rattle.std.specs.Prelude.{ℤ, pos, negsuc, nat_abs, ◌-ℤ◌, ◌≤ℤ◌, ◌<ℤ◌, ◌==◌}
use Rattle.std.specs.List.{All}
use Rattle.std.proofs.lemmas.Int.{ints}
use Rattle.std.proofs.lemmas.Bool.{cases_lt, eq-eqb}
use Rattle.std.proofs.lemmas.List.{get_or_past}
use Rattle.std.proofs.lemmas.List.Elements.{All-head, All-map}
use Rattle.simplex_core.specs.linear_forms.Forms.{Form, at}
use Rattle.simplex_core.specs.linear_forms.Certificates.{Implies}
use Rattle.simplex_core.specs.linear_forms.Limits.{certificate_limit}
use Rattle.simplex_core.specs.linear_forms.Questions.{double}
use Rattle.simplex_core.specs.linear_forms.QuestionLaws.{after, parameters_of}
use Rattle.simplex_core.specs.linear_forms.RuleQuestions.{RankedSet, constant_form, has_symbol, symbols_of_set}
use Rattle.simplex_core.specs.linear_forms.RuleQuestions.{rank_question}
use Rattle.simplex_core.proofs.linear_forms.ListLaws.{length-listed, after-is, All-front, All-behind}
use Rattle.simplex_core.proofs.linear_forms.SolutionLaws.{All-listed}
use Rattle.cert_types.specs.rule_forms.Ranking.{Function}
use Rattle.cert_types.specs.rule_forms.RankLaws.{AreImplied, lost_by}
use Rattle.cert_types.proofs.rule_forms.RankFits.{function-fits}
use Rattle.cert_types.proofs.rule_forms.RankSolutions.{rank-shown}
use Rattle.poly_terms.specs.model.Programs.{Program, Rule, rule_at, arity_of}
use Rattle.poly_terms.specs.model.Paths.{source_in, target_in, source_of, target_of}
use Rattle.its_model.specs.Valid.{IsValid}
use Rattle.guard_prep.proofs.StepLaws.{valid-at}
use Rattle.cert_types.specs.cert_rules.AcceptsPlain.{IsRule, AreMultipliers}
use Rattle.cert_types.specs.cert_rules.AcceptsRank.{HasFormShape, HasRankShape, Loses, HasFloor, moves_of, AcceptsRank}
use Rattle.simplex_core.specs.linear_forms.Combinations.{less}
use Rattle.simplex_core.specs.linear_forms.Losses.{loss}
use Rattle.cert_types.specs.cert_rules.Composed.{rank_form}
use Rattle.cert_types.specs.cert_rules.Gaps.{SymbolPlace}
use Rattle.cert_types.specs.cert_rules.Graph.{symbols_of}
use Rattle.cert_types.specs.cert_rules.Known.{Table}
use Rattle.cert_types.specs.cert_rules.Limits.{IsInLimit, AreInLimit}
use Rattle.cert_types.specs.cert_rules.Nodes.{SymbolForm, RankNode}
use Rattle.poly_terms.specs.model.Entries.{is_in}
use Rattle.cert_types.specs.cert_rules.Numbers.{IsAscending}
use Rattle.cert_types.specs.cert_program.Setting.{rows_in, new_values_in, setting_of}
use Rattle.rule_questions.specs.ProgramQuestions.{forms_in, ranked_set}
use Rattle.rank_search.specs.RankAnswers.{IsRuleSet, IsRankNode, part_at}
use Rattle.rank_search.specs.RankLaws.{function_of_node, HoldsFacts, HasCertificates, RankedNodesAreAccepted}
use Rattle.rank_search.proofs.Numbers.{coefficient-small}
use Rattle.rank_search.proofs.RankSets.{in-all, set-of, symbols-same}
use Rattle.rank_search.proofs.ShownParts.{part-of, any-of, limits-by_group, moves-limit, Split, split}

-- the rows and new values of a rule for questions are those for acceptance
same-rows : (o : Option Rule) → (forms_in o).rows ≡ rows_in o
same-rows None = refl
same-rows (Some r) = refl

-- a decrease that multipliers show is one that acceptance requires
accepted-loss : (f : Function) (forms : List SymbolForm) (o : Option Rule) (r : Rule) (m : List ℕ) (k : ℤ) → o ≡ Some r
    → rank_form forms (Some r.source) ≡ f r.source → rank_form forms (Some r.target) ≡ f r.target
    → Implies (forms_in o).rows m (lost_by f (forms_in o) k)
    → Implies (rows_in o) m (loss (rank_form forms (source_in o)) (rank_form forms (target_in o)) (new_values_in o) k)
accepted-loss f forms None r m k e s t h = absurd (nothing e)
  where
    nothing : None ≡ Some r → ⊥
    nothing e = cc
accepted-loss f forms (Some q) r m k e s t h =
    let same : r ≡ q = cc in
    subst (λ (g : Form). Implies (rows_in (Some q)) m
    (loss g (rank_form forms (Some q.target)) (new_values_in (Some q)) k))
    (sym (subst (λ (x : Rule). rank_form forms (Some x.source) ≡ f x.source) same s))
    (subst (λ (g : Form). Implies (rows_in (Some q)) m (loss (f q.source) g (new_values_in (Some q)) k))
    (sym (subst (λ (x : Rule). rank_form forms (Some x.target) ≡ f x.target) same t)) h)

accepted-floor : (f : Function) (forms : List SymbolForm) (o : Option Rule) (r : Rule) (m : List ℕ) (d : ℤ) → o ≡ Some r
    → rank_form forms (Some r.source) ≡ f r.source → Implies (forms_in o).rows m
    (less (f (forms_in o).source) (constant_form d))
    → Implies (rows_in o) m (less (rank_form forms (source_in o)) (constant_form d))
accepted-floor f forms None r m d e s h = absurd (nothing e)
  where
    nothing : None ≡ Some r → ⊥
    nothing e = cc
accepted-floor f forms (Some q) r m d e s h =
    let same : r ≡ q = cc in
    subst (λ (g : Form). Implies (rows_in (Some q)) m (less g (constant_form d)))
    (sym (subst (λ (x : Rule). rank_form forms (Some x.source) ≡ f x.source) same s)) h

module _ (p : Program) (set : List ℕ) (strict : ℕ) (shut : List SymbolPlace) (pivots : ℕ) (node : RankNode)
    (valid : IsValid p)
    (rules : IsRuleSet p set strict) (n : IsRankNode (ranked_set p set strict shut) pivots node) where
  abbrev b : RankedSet
  b = ranked_set p set strict shut

  abbrev f : Function
  f = function_of_node b pivots node n

  abbrev column : ℕ → ℤ
  column = at n.numbers

  -- each column of the solution is within the limit, and at least 0
  column-small : (j : ℕ) → nat_abs (column j) ≤ certificate_limit
  column-small j = go (cases_lt j (length n.numbers))
    where
      go : (j < length n.numbers) ⊎ (length n.numbers ≤ j) → nat_abs (column j) ≤ certificate_limit
      go (inl l) = n.solution.within.each j l
      go (inr l) = subst (λ (z : ℤ). nat_abs z ≤ certificate_limit) (sym (get_or_past n.numbers j (pos 0) l))
          (let k : 0 ≤ certificate_limit = omega arith in k)

  column-nonneg : (j : ℕ) → pos 0 ≤ℤ column j
  column-nonneg j = go (cases_lt j (length n.numbers))
    where
      go : (j < length n.numbers) ⊎ (length n.numbers ≤ j) → pos 0 ≤ℤ column j
      go (inl l) = n.solution.solution.nonnegative j (subst (λ (m : ℕ). j < m) n.solution.columns l)
      go (inr l) = subst (λ (z : ℤ). pos 0 ≤ℤ z) (sym (get_or_past n.numbers j (pos 0) l))
          (let k : pos 0 ≤ℤ pos 0 = omega (arith, ints) in k)

  -- the parameters among the numbers are within the limit
  parameter-small : (k : ℕ) → nat_abs (parameters_of column k) ≤ certificate_limit
  parameter-small k =
      apart (column (double k)) (column (suc (double k))) certificate_limit (column-nonneg (double k))
      (column-nonneg (suc (double k)))
      (column-small (double k)) (column-small (suc (double k)))
    where
      apart : (x y : ℤ) (l : ℕ) → pos 0 ≤ℤ x → pos 0 ≤ℤ y → nat_abs x ≤ l → nat_abs y ≤ l → nat_abs (x -ℤ y) ≤ l
      apart (pos u) (pos v) l g h i j = omega (arith, ints, i, j)
      apart (pos u) (negsuc v) l g h i j = absurd (omega (arith, ints, h))
      apart (negsuc u) y l g h i j = absurd (omega (arith, ints, g))

  -- the forms of the function are those of the node
  part-is : (s : ℕ) → has_symbol b s ≡ true → s < length p.symbols → rank_form node.forms (Some s) ≡ f s
  part-is s h l =
      ap (λ (fs : List SymbolForm). rank_form fs (Some s)) n.forms
      ∙ part-of f (has_symbol b) 0 (length p.symbols) s h (omega arith) (omega (arith, l))

  form-shaped : (s : ℕ) → HasFormShape p (part_at f s)
  form-shaped s = record {
    long = length-listed (arity_of p s) _;
    limit = record {
      coefs = All-listed (λ c. IsInLimit (nat_abs c)) (arity_of p s) _
          (λ j l. coefficient-small certificate_limit b (has_symbol b) 0 (length p.symbols) (parameters_of column) s
          (suc j) parameter-small);
      constant = coefficient-small certificate_limit b (has_symbol b) 0 (length p.symbols)
          (parameters_of column) s 0 parameter-small;
    };
  }

  symbols-are : map (λ x. x.symbol) node.forms ≡ symbols_of p node.set
  symbols-are =
      ap (λ (fs : List SymbolForm). map (λ x. x.symbol) fs) n.forms
      ∙ (names (symbols_of_set b) ∙
      (symbols-same p set strict shut rules.rules ∙ ap (λ (xs : List ℕ). symbols_of p xs) (sym n.same_set)))
    where
      names : (ss : List ℕ) → map (λ x. x.symbol) (map (part_at f) ss) ≡ ss
      names [] = refl
      names (s ∷ ss) = ap (λ (ys : List ℕ). s ∷ ys) (names ss)

  shown : Split b f (pos node.den) set node.moves node.floor
  shown =
      split b f (pos node.den) set node.moves node.floor
      (subst (λ (ms : List (List ℕ)). AreImplied b f (pos node.den) set ms) (sym n.multipliers)
      (rank-shown b column (pos node.den) (set-of p set strict shut valid rules) n.solution.solution))

  all-limits : All AreInLimit (node.moves ++ node.floor ∷ [])
  all-limits =
      subst (λ (ms : List (List ℕ)). All AreInLimit ms) (sym n.multipliers)
      (limits-by_group (rank_question b).groups (after (double (rank_question b).parameters) column)
      (λ j. subst (λ (z : ℤ). nat_abs z ≤ certificate_limit)
      (sym (after-is (double (rank_question b).parameters) column j))
      (column-small (double (rank_question b).parameters + j))))

  -- each number of the set is that of a rule
  rule-at : (t : ℕ) → is_in t set ≡ true → IsRule p t
  rule-at t h = in-all (IsRule p) t set rules.rules h

  moved : (t : ℕ) → is_in t node.set ≡ true → is_in t set ≡ true
  moved t h = subst (λ (xs : List ℕ). is_in t xs ≡ true) n.same_set h

  multipliers-are : (t : ℕ) → is_in t set ≡ true → AreMultipliers (setting_of p) t (moves_of set node.moves t)
  multipliers-are t h = record {
    long = (shown.each t h).long ∙ ap (λ (fs : List Form). length fs) (same-rows (rule_at p t));
    limit = moves-limit set node.moves t (All-front AreInLimit node.moves (node.floor ∷ []) all-limits);
  }

  floor-are : AreMultipliers (setting_of p) strict node.floor
  floor-are = record {
    long = shown.last.long ∙ ap (λ (fs : List Form). length fs) (same-rows (rule_at p strict));
    limit = All-head AreInLimit node.floor [] (All-behind AreInLimit node.moves (node.floor ∷ []) all-limits);
  }

  -- the function's forms at the source and at the target of a rule of the set
  source-part : (t : ℕ) (h : is_in t set ≡ true) (i : IsRule p t) → rank_form node.forms (Some i.rule.source)
      ≡ f i.rule.source
  source-part t h i =
      part-is i.rule.source
      (any-of (λ u. nat_eq (forms_in (rule_at p u)).source i.rule.source || nat_eq
      (forms_in (rule_at p u)).target i.rule.source) t set h
      (subst (λ (o : Option Rule).
      (nat_eq (forms_in o).source i.rule.source || nat_eq (forms_in o).target i.rule.source) ≡ true)
      (sym i.numbered)
      (ap (λ (v : Bool). v || nat_eq i.rule.target i.rule.source) (eq-eqb i.rule.source i.rule.source refl))))
      (valid-at p t i.rule valid i.numbered).source

  target-part : (t : ℕ) (h : is_in t set ≡ true) (i : IsRule p t) → rank_form node.forms (Some i.rule.target)
      ≡ f i.rule.target
  target-part t h i =
      part-is i.rule.target
      (any-of (λ u. nat_eq (forms_in (rule_at p u)).source i.rule.target || nat_eq
      (forms_in (rule_at p u)).target i.rule.target) t set h
      (subst (λ (o : Option Rule).
      (nat_eq (forms_in o).source i.rule.target || nat_eq (forms_in o).target i.rule.target) ≡ true)
      (sym i.numbered)
      (ap (λ (v : Bool). nat_eq i.rule.source i.rule.target || v) (eq-eqb i.rule.target i.rule.target refl) ∙ or-true
      (nat_eq i.rule.source i.rule.target))))
      (valid-at p t i.rule valid i.numbered).target
    where
      or-true : (v : Bool) → (v || true) ≡ true
      or-true true = refl
      or-true false = refl

  -- the symbol to which a rule leads
  led : (t : ℕ) → IsRule p t → target_in (rule_at p t) ≡ target_of p t
  led zero i = absurd (nothing i.numbered)
    where
      nothing : {r : Rule} → None ≡ Some r → ⊥
      nothing e = cc
  led (suc t) i = refl

  -- by each rule of its set a found node decreases as required, as its multipliers show
  pub loses : (t : ℕ) → is_in t node.set ≡ true → Loses (setting_of p) node t
  loses t h =
      let k = moved t h in
      let i = rule-at t k in
      subst (λ (xs : List ℕ). Implies (rows_in (rule_at p t)) (moves_of xs node.moves t)
      (loss (rank_form node.forms (source_of p t)) (rank_form node.forms (target_of p t)) (new_values_in (rule_at p t))
      (cond (t == node.rule) (pos node.den) (pos 0)))) (sym n.same_set)
      (subst (λ (u : ℕ). Implies (rows_in (rule_at p t)) (moves_of set node.moves t)
      (loss (rank_form node.forms (source_of p t)) (rank_form node.forms (target_of p t)) (new_values_in (rule_at p t))
      (cond (t == u) (pos node.den) (pos 0)))) (sym n.numbered)
      (subst (λ (o : Option ℕ). Implies (rows_in (rule_at p t)) (moves_of set node.moves t)
      (loss (rank_form node.forms (source_of p t)) (rank_form node.forms o) (new_values_in (rule_at p t))
      (cond (t == strict) (pos node.den) (pos 0)))) (led t i)
      (accepted-loss f node.forms (rule_at p t) i.rule (moves_of set node.moves t)
      (cond (t == strict) (pos node.den) (pos 0)) i.numbered
      (source-part t k i) (target-part t k i) (shown.each t k))))

  -- before its rule a found node's function is at least the denominator, as its multipliers show
  pub floor-holds : HasFloor (setting_of p) node
  floor-holds =
      let i = rule-at strict rules.inside in
      subst (λ (u : ℕ). Implies (rows_in (rule_at p u)) node.floor
      (less (rank_form node.forms (source_of p u)) (constant_form (pos node.den)))) (sym n.numbered)
      (accepted-floor f node.forms (rule_at p strict) i.rule node.floor (pos node.den) i.numbered
      (source-part strict rules.inside i) shown.last)

  -- a found node has the shape that acceptance requires
  pub shaped : HasRankShape (setting_of p) node
  shaped = record {
    ascending = subst IsAscending (sym n.same_set) rules.ascending;
    rules = λ t h. rule-at t (moved t h);
    inside = subst (λ (xs : List ℕ). is_in node.rule xs ≡ true) (sym n.same_set)
        (subst (λ (u : ℕ). is_in u set ≡ true) (sym n.numbered) rules.inside);
    symbols = symbols-are;
    forms = subst (λ (fs : List SymbolForm). All (HasFormShape p) fs) (sym n.forms)
        (All-map (HasFormShape p) (part_at f) (symbols_of_set b) (λ k d l. form-shaped _));
    den = at-least-one node.den n.solution.solution.denominator;
    den_limit = n.solution.den_within;
    one_each = shown.long ∙ ap (λ (xs : List ℕ). length xs) (sym n.same_set);
    moves = λ t h. subst (λ (xs : List ℕ). AreMultipliers (setting_of p) t (moves_of xs node.moves t)) (sym n.same_set)
        (multipliers-are t (moved t h));
    floor = subst (λ (u : ℕ). AreMultipliers (setting_of p) u node.floor) (sym n.numbered) floor-are;
  }
    where
      at-least-one : (d : ℕ) → pos 0 <ℤ pos d → 1 ≤ d
      at-least-one d l = omega (arith, ints, l)

  -- a found node is accepted with a table that has the premises that it needs
  pub node-accepted : (table : Table) → HoldsFacts (setting_of p) table node → AcceptsRank (setting_of p) table node
  node-accepted table facts = record {
    shape = shaped;
    moves = loses;
    floor = floor-holds;
    times = facts.times;
    sizes = facts.sizes;
    small = facts.small;
  }

  -- a found node has its shape, its moves and its floor, whatever the table has
  pub node-shown : HasCertificates (setting_of p) node
  node-shown = record { shape = shaped; moves = loses; floor = floor-holds }

-- found nodes are certified, are accepted with their premises, and have coefficient 0 at every shut place
pub nodes-accepted : RankedNodesAreAccepted
nodes-accepted = record {
  shown = λ p set strict shut pivots node valid rules n. node-shown p set strict shut pivots node valid rules n;
  shut = λ p set strict shut pivots node s j n h l e.
      ap (λ (g : Form). at g.coefs j)
      (ap (λ (fs : List SymbolForm). rank_form fs (Some s)) n.forms
      ∙ part-of (function_of_node (ranked_set p set strict shut) pivots node n)
      (has_symbol (ranked_set p set strict shut)) 0
      (length p.symbols) s h (omega arith) (omega (arith, l)))
      ∙ (function-fits (ranked_set p set strict shut) (parameters_of (at n.numbers))).closed s j e;
  each = λ p set strict shut pivots node valid rules n table facts. node-accepted p set strict shut pivots node valid
      rules n table facts;
}
