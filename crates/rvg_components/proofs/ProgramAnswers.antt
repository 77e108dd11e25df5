-- Properties of the input for a valid program: its rules, their rows, and the number of places.
use Rattle.std.proofs.Common.{◌≡◌, ◌⊎◌, inl, inr, ℕ, zero, suc, ◌+◌, ◌*◌, ◌<◌, ◌≤◌, ◌^◌, ◌==◌, Bool, true, false, cond}
use Rattle.std.proofs.Common.{List, [], ◌∷◌, length, get_or, map, All, Contains, Option, Some, None, option_map, Vec}
use Rattle.std.proofs.Common.{refl, sym, ◌∙◌, ap, subst, arith}
use Rattle.std.specs.Prelude.{slice_get}
use Rattle.std.specs.List.{sum, range_with_len}
use Rattle.std.specs.declared.alloc.Global.{Global}
use Rattle.std.proofs.lemmas.Bool.{cases_lt}
use Rattle.std.proofs.lemmas.List.{length-map, get_or_past, get_or-map}
use Rattle.std.proofs.lemmas.List.Elements.{All-nil, All-cons, All-append, All-get_or, All-weaker, All-map, All-filter}
use Rattle.std.proofs.lemmas.List.Elements.{All-from_recursion}
use Rattle.std.proofs.lemmas.Option.{slice_get-map, slice_get_cases, get_or_from_slice_get}
use Rattle.model.specs.Programs.{Program, Rule, rule_at, arity_of}
use Rattle.model.specs.Paths.{pre, comes_before, same_symbol, source_in, target_in, source_of}
use Rattle.model.proofs.Membership.{filter-in, is_in-contained, no_is_not_yes, same_number-sound}
use Rattle.guard_prep.specs.its_model.Valid.{IsValidRule}
use Rattle.guard_prep.proofs.its_model.ValidLaws.{rule-valid}
use Rattle.cert_types.proofs.rule_forms.Shapes.{ranged}
use Rattle.guard_prep.specs.declared.rule_rows.RuleRows.{RuleRows}
use Rattle.guard_prep.specs.Prepared.{Prepared, prepared}
use Rattle.guard_prep.specs.Views.{prepared_of}
use Rattle.guard_prep.proofs.StepLaws.{preparable}
use Rattle.its_graph.specs.Links.{ends_of}
use Rattle.its_graph.specs.declared.graph.Graph.{Graph}
use Rattle.local_size.specs.declared.answer.LocalAnswer.{LocalAnswer}
use Rattle.model.specs.Paths.{entry_and_rules}
use Rattle.cert_types.specs.cert_rules.AcceptsPlain.{places_at}
use Rattle.cert_types.specs.cert_rules.Nodes.{ResultVariable}
use Rattle.rvg_components.specs.Flows.{live_result_variables, target_result_variables, result_variables_of}
use Rattle.rvg_components.specs.Listing.{AreAnswersOfProgram, answer_lists, is_flagged}
use Rattle.rvg_components.specs.Numbering.{widths, firsts_from, places_of, result_variables_by_width}
use Rattle.rvg_components.specs.Edges.{no_rows, first_of, firsts_of, edges_into, edges_at, live_edges_at}
use Rattle.rvg_components.specs.Fitting.{flow_inputs_of, IsFitting}
use Rattle.rvg_components.proofs.Numbers.{sum-cons, widths-length, widths-at, firsts-length}
use Rattle.rvg_components.proofs.Places.{result_variables-agree}

-- a flag that is set has its position in the list
pub flag-within : (live : List Bool) (k : ℕ) → get_or live k false ≡ true → k < length live
flag-within [] k h = absurd (no_is_not_yes false refl h)
flag-within (f ∷ live) zero h = omega arith
flag-within (f ∷ live) (suc k) h = omega (arith, flag-within live k h)

-- numbers of at most 32 add up to at most 32 for each
sum-few : (ws : List ℕ) → ((k : ℕ) → get_or ws k 0 ≤ 32) → sum ws ≤ 32 * length ws
sum-few [] h = omega arith
sum-few (w ∷ ws) h = go (h 0) (sum-few ws (λ k. h (suc k)))
  where
    go : w ≤ 32 → sum ws ≤ 32 * length ws → sum (w ∷ ws) ≤ 32 * length (w ∷ ws)
    go first rest = omega (arith, first, rest, sum-cons w ws)

-- the places of a rule end before the sum of all widths
firsts-room : (b : ℕ) (ws : List ℕ) (k : ℕ) → k < length ws → get_or (firsts_from b ws) k 0 + get_or ws k 0 ≤ b + sum ws
firsts-room b [] k low = absurd (omega (arith, low))
firsts-room b (w ∷ ws) zero low = go (sum-cons w ws)
  where
    go : sum (w ∷ ws) ≡ w + sum ws → b + w ≤ b + sum (w ∷ ws)
    go e = omega (arith, e)
firsts-room b (w ∷ ws) (suc k) low = go (sum-cons w ws) (firsts-room (b + w) ws k (omega (arith, low)))
  where
    go : sum (w ∷ ws) ≡ w + sum ws → get_or (firsts_from (b + w) ws) k 0 + get_or ws k 0 ≤ b + w + sum ws
        → get_or (firsts_from (b + w) ws) k 0 + get_or ws k 0 ≤ b + sum (w ∷ ws)
    go e h = omega (arith, e, h)

-- the first places are at most the sum of the widths
firsts-few : (b : ℕ) (ws : List ℕ) → All (λ x. x ≤ b + sum ws) (firsts_from b ws)
firsts-few b [] = All-nil (λ x. x ≤ b + sum [])
firsts-few b (w ∷ ws) =
    All-cons (λ x. x ≤ b + sum (w ∷ ws)) b (firsts_from (b + w) ws) (omega arith)
    (All-weaker (λ x. x ≤ b + w + sum ws) (λ x. x ≤ b + sum (w ∷ ws)) (λ x h. omega (arith, h, sum-cons w ws)) (firsts_from (b + w) ws) (firsts-few (b + w) ws))

-- the virtual entry and rules are all that can come before a rule
pub before-within : (p : Program) (t n : ℕ) → n ≡ length p.rules → All (λ e. e ≤ n) (pre p t)
before-within p t n e =
    subst (λ (m : ℕ). All (λ d. d ≤ m) (pre p t)) (sym e)
    (All-filter (λ d. comes_before p d t) (λ d. d ≤ length p.rules) (entry_and_rules p) (ranged 0 (suc (length p.rules)) (length p.rules) (omega arith)))

-- if all numbers of a list are below a limit, so is the one read at any position
below-read : (xs : List ℕ) (m k : ℕ) → 0 < m → All (λ x. x < m) xs → get_or xs k 0 < m
below-read xs m k some h = go (cases_lt k (length xs))
  where
    go : (k < length xs) ⊎ (length xs ≤ k) → get_or xs k 0 < m
    go (inl low) = All-get_or (λ x. x < m) xs k 0 low h
    go (inr past) = omega (arith, some, get_or_past xs k 0 past)

-- the first places of live rules are among the first places
pub live-firsts-few : (live : List Bool) (firsts es : List ℕ) (m : ℕ) → 0 < m → All (λ x. x < m) firsts → All (λ x. x < m) (firsts_of live firsts es)
live-firsts-few live firsts [] m some h = All-nil (λ x. x < m)
live-firsts-few live firsts (e ∷ es) m some h =
    All-append (λ x. x < m) (cond (is_flagged live e) (first_of firsts e ∷ []) []) (firsts_of live firsts es) (here (is_flagged live e)) (live-firsts-few live firsts es m some h)
  where
    first : (t : ℕ) → first_of firsts t < m
    first zero = some
    first (suc t) = below-read firsts m t some h

    here : (v : Bool) → All (λ x. x < m) (cond v (first_of firsts e ∷ []) [])
    here true = All-cons (λ x. x < m) (first_of firsts e) [] (first e) (All-nil (λ x. x < m))
    here false = All-nil (λ x. x < m)

-- the edges into the places of a live rule, by its rows, answers and first place
pub edges-agree : (p : Program) (prepared_rules : List RuleRows) (locals : List (Vec LocalAnswer Global)) (live : List Bool) (firsts : List ℕ) (k : ℕ) (m : RuleRows)
    (l : Vec LocalAnswer Global) (before : List ℕ) (answers : List LocalAnswer) → k < length prepared_rules → k < length locals → m ≡ get_or prepared_rules k m → l ≡ get_or locals k l
    → get_or live k false ≡ true → before ≡ firsts_of live firsts (pre p (suc k)) → answers ≡ l.items
    → edges_into (prepared_of m) before (get_or firsts k 0) 0 answers ≡ live_edges_at p (flow_inputs_of prepared_rules locals live firsts) k
edges-agree p prepared_rules locals live firsts k m l before answers low inside rows list is firstly same =
    ap (λ (xs : List ℕ). edges_into (prepared_of m) xs (get_or firsts k 0) 0 answers) firstly
    ∙ (ap (λ (xs : List LocalAnswer). edges_into (prepared_of m) (firsts_of live firsts (pre p (suc k))) (get_or firsts k 0) 0 xs)
    (same ∙ (ap (λ (v : Vec LocalAnswer Global). v.items) list ∙ sym (get_or-map (λ (v : Vec LocalAnswer Global). v.items) locals k l [] inside)))
    ∙ (ap (λ (n : Prepared). edges_into n (firsts_of live firsts (pre p (suc k))) (get_or firsts k 0) 0 (get_or (answer_lists locals) k []))
    (ap prepared_of rows ∙ sym (get_or-map prepared_of prepared_rules k m no_rows low))
    ∙ ap (λ (v : Bool). cond v (edges_at p (flow_inputs_of prepared_rules locals live firsts) k) []) (sym is)))

-- a rule that comes just before another leads to the other's source
pub record RuleBefore (p : Program) (e : ℕ) (r : Rule) : Type 0 where
  pub position : ℕ
  pub number : e ≡ suc position
  pub rule : Rule
  pub numbered : rule_at p (suc position) ≡ Some rule
  pub meets : rule.target ≡ r.source

module _ (p : Program) (g : Graph) (prepared_rules : List RuleRows) (locals : List (Vec LocalAnswer Global)) (live : List Bool)
    (given : AreAnswersOfProgram p g prepared_rules (answer_lists locals) live) where
  -- there is a list of answers for each flag
  pub lists-long : length (answer_lists locals) ≡ length live
  lists-long = given.locals_for.lists ∙ sym given.locals_for.flags

  -- the rule at a position
  pub rule-here : (k : ℕ) → k < length live → (r : Rule) × (rule_at p (suc k) ≡ Some r)
  rule-here k low = go (slice_get_cases p.rules k).1
    where
      go : ((x : Rule) × (k < length p.rules) × (slice_get p.rules k ≡ Some x) × (get_or p.rules k x ≡ x)) ⊎ ((length p.rules ≤ k) × (slice_get p.rules k ≡ None))
          → (r : Rule) × (rule_at p (suc k) ≡ Some r)
      go (inl (x, within, e, is)) = (x, e)
      go (inr (past, e)) = absurd (omega (arith, past, low, given.locals_for.flags))

  -- the rows of the rule at a position
  pub rows-here : (k : ℕ) (r : Rule) → rule_at p (suc k) ≡ Some r → get_or (map prepared_of prepared_rules) k no_rows ≡ prepared r
  rows-here k r e =
      ap (λ (ms : List Prepared). get_or ms k no_rows) given.rows
      ∙ get_or_from_slice_get (map prepared p.rules) k (prepared r) no_rows
      (slice_get-map prepared p.rules k ∙ ap (λ (o : Option Rule). option_map prepared o) e)

  -- a live rule has as many answers as places
  pub answers-here : (k : ℕ) (r : Rule) → rule_at p (suc k) ≡ Some r → get_or live k false ≡ true → length (get_or (answer_lists locals) k []) ≡ arity_of p r.target
  answers-here k r e is = given.locals_for.places (suc k) r e is

  -- no rule has more than 32 places
  arity-few : (k : ℕ) (r : Rule) → rule_at p (suc k) ≡ Some r → arity_of p r.target ≤ 32
  arity-few k r e = omega (arith, (rule-valid p (suc k) r given.valid e).places, (preparable p (suc k) r given.valid e).few_updates)

  -- no width is above 32
  width-few : (k : ℕ) → get_or (widths (answer_lists locals) live) k 0 ≤ 32
  width-few k = go (get_or live k false) refl
    where
      go : (v : Bool) → get_or live k false ≡ v → get_or (widths (answer_lists locals) live) k 0 ≤ 32
      go false is =
          let none : get_or (widths (answer_lists locals) live) k 0 ≡ 0 = widths-at (answer_lists locals) live k lists-long
          ∙ ap (λ (v : Bool). cond v (length (get_or (answer_lists locals) k [])) 0) is in
          omega (arith, none)
      go true is = by (rule-here k (flag-within live k is))
        where
          by : (r : Rule) × (rule_at p (suc k) ≡ Some r) → get_or (widths (answer_lists locals) live) k 0 ≤ 32
          by (r, e) =
              let some : get_or (widths (answer_lists locals) live) k 0 ≡ length (get_or (answer_lists locals) k []) =
              widths-at (answer_lists locals) live k lists-long ∙ ap (λ (v : Bool). cond v (length (get_or (answer_lists locals) k [])) 0) is in
              omega (arith, some, answers-here k r e is, arity-few k r e)

  -- there are at most 1000 rules
  pub live-few : length live ≤ 1000
  live-few = omega (arith, given.valid.few_rules, given.locals_for.flags)

  -- there are at most 32000 places
  pub widths-few : sum (widths (answer_lists locals) live) ≤ 32000
  widths-few = omega (arith, sum-few (widths (answer_lists locals) live) width-few, widths-length (answer_lists locals) live lists-long, live-few)

  -- the places of live rules are those in the widths
  pub live-result_variables : live_result_variables p (is_flagged live) ≡ result_variables_by_width 1 (widths (answer_lists locals) live)
  live-result_variables =
      ap (λ (n : ℕ). result_variables_of p (is_flagged live) (range_with_len 1 n)) (sym given.locals_for.flags)
      ∙ result_variables-agree p (is_flagged live) 1 (answer_lists locals) live lists-long flags places
    where
      next : (k : ℕ) → 1 + k ≡ suc k
      next k = omega arith

      flags : (k : ℕ) → k < length live → is_flagged live (1 + k) ≡ get_or live k false
      flags k low = ap (is_flagged live) (next k)

      places : (k : ℕ) → get_or live k false ≡ true → target_result_variables p (1 + k) ≡ places_of (1 + k) 1 (length (get_or (answer_lists locals) k []))
      places k is = subst (λ (t : ℕ). target_result_variables p t ≡ places_of t 1 (length (get_or (answer_lists locals) k []))) (sym (next k)) (by (rule-here k (flag-within live k is)))
        where
          by : (r : Rule) × (rule_at p (suc k) ≡ Some r) → target_result_variables p (suc k) ≡ places_of (suc k) 1 (length (get_or (answer_lists locals) k []))
          by (r, e) =
              ap (λ (o : Option Rule). map (λ (i : ℕ). let s : ResultVariable = record { rule = suc k; place = i } in s) (places_at p (target_in o))) e
              ∙ ap (λ (n : ℕ). places_of (suc k) 1 n) (sym (answers-here k r e is))

  -- a live rule that comes just before another leads to the other's source
  pub rule-before : (k e : ℕ) (r : Rule) → rule_at p (suc k) ≡ Some r → Contains (pre p (suc k)) e → is_flagged live e ≡ true → RuleBefore p e r
  rule-before k zero r here among is = absurd (no_is_not_yes false refl is)
  rule-before k (suc n) r here among is = by (rule-here n (flag-within live n is))
    where
      comes : comes_before p (suc n) (suc k) ≡ true
      comes = (filter-in (λ d. comes_before p d (suc k)) (entry_and_rules p) (suc n) (is_in-contained (pre p (suc k)) (suc n) among)).1

      by : (q : Rule) × (rule_at p (suc n) ≡ Some q) → RuleBefore p (suc n) r
      by (q, e) =
          let same : (q.target == r.source) ≡ true = sym (ap (λ (o : Option Rule). same_symbol (target_in o) (source_of p (suc k))) e
          ∙ ap (λ (o : Option Rule). same_symbol (Some q.target) (source_in o)) here) ∙ comes in
          record { position = n; number = refl; rule = q; numbered = e; meets = same_number-sound q.target r.source same }

  -- there is one item of each kind for each rule, and the numbers are small
  pub fitting : IsFitting (flow_inputs_of prepared_rules locals live (firsts_from 0 (widths (answer_lists locals) live))) (length g.links.items)
  fitting = record {
    rows = ap length given.rows ∙ (length-map p.rules prepared ∙ sym rules);
    locals = given.locals_for.lists ∙ sym rules;
    live = given.locals_for.flags ∙ sym rules;
    firsts = firsts-length 0 (widths (answer_lists locals) live) ∙ (widths-length (answer_lists locals) live lists-long ∙ (given.locals_for.flags ∙ sym rules));
    few_left = subst (λ (ms : List Prepared). All (λ m. m.left < 2 ^ 31) ms) (sym given.rows)
        (All-map (λ (m : Prepared). m.left < 2 ^ 31) prepared p.rules
        (All-weaker (IsValidRule p) (λ r. r.left < 2 ^ 31) (λ r v. omega (arith, v.few_variables)) p.rules (All-from_recursion (IsValidRule p) p.rules given.valid.rules)));
    few_before = All-weaker (λ x. x ≤ 0 + sum (widths (answer_lists locals) live)) (λ x. x < 2 ^ 31) (λ x h. omega (arith, h, widths-few))
        (firsts_from 0 (widths (answer_lists locals) live)) (firsts-few 0 (widths (answer_lists locals) live));
    few = few;
  }
    where
      rules : length g.links.items ≡ length p.rules
      rules = ap length given.graph.links ∙ length-map p.rules ends_of

      few : (k : ℕ) → get_or live k false ≡ true → get_or (firsts_from 0 (widths (answer_lists locals) live)) k 0 + length (get_or (answer_lists locals) k []) < 2 ^ 31
      few k is =
          let some : get_or (widths (answer_lists locals) live) k 0 ≡ length (get_or (answer_lists locals) k []) =
          widths-at (answer_lists locals) live k lists-long ∙ ap (λ (v : Bool). cond v (length (get_or (answer_lists locals) k [])) 0) is in
          omega (
            arith,
            some,
            widths-few,
            firsts-room 0 (widths (answer_lists locals) live) k
                (omega (arith, flag-within live k is, widths-length (answer_lists locals) live lists-long)),
          )
