-- Why the time of an accepted ranking node holds: the positive part of the function pays for the strict rule.
use Rattle.std.proofs.Common.{◌≡◌, ℕ, suc, ◌+◌, ◌*◌, ◌≤◌, ◌==◌, not, Bool, true, false, cond, List, [], ◌∷◌, length}
use Rattle.std.proofs.Common.{Option, Some, None, refl, sym, ap, ◌∙◌, subst, arith, All, le_trans, mul-le-mul_left}
use Rattle.std.specs.Prelude.{ℤ, pos, negsuc, ◌+ℤ◌, ◌-ℤ◌, ◌*ℤ◌, ◌≤ℤ◌}
use Rattle.std.proofs.lemmas.Int.{ints}
use Rattle.std.proofs.lemmas.Bool.{and_from, not_from_false, false_from_ne_true}
use Rattle.std.proofs.lemmas.List.Elements.{All-head, All-tail}
use Rattle.run_counting.specs.model.Programs.{Program, Rule, arity_of}
use Rattle.run_counting.specs.model.Runs.{Config, Step, IsStep, IsRun, count, one_if_same, last_rule, sizes_of_start}
use Rattle.run_counting.specs.model.Bounds.{Bound, val, IsBased}
use Rattle.run_counting.specs.model.Facts.{Time}
use Rattle.run_counting.proofs.model.RunLaws.{one_if_same-same, one_if_same-other}
use Rattle.rule_forms.specs.linear_forms.Forms.{Form, at, form_value}
use Rattle.rule_forms.specs.linear_forms.Certificates.{Implies}
use Rattle.rule_forms.proofs.linear_forms.CertificateLaws.{implied_on_points}
use Rattle.rule_forms.specs.Bounds.{height}
use Rattle.cert_rules.specs.Nodes.{SymbolForm, RankNode}
use Rattle.run_counting.specs.model.Entries.{is_in, is_left_by, enters, entries}
use Rattle.run_counting.specs.model.Paths.{source_of, target_of, same_symbol, entry_and_rules}
use Rattle.rule_forms.specs.linear_forms.Losses.{at_new_values, loss}
use Rattle.cert_rules.specs.Combined.{form_at}
use Rattle.rule_forms.specs.linear_forms.Combinations.{less}
use Rattle.rule_forms.specs.linear_forms.RuleQuestions.{constant_form}
use Rattle.cert_rules.specs.Known.{known, Table}
use Rattle.cert_rules.specs.Setting.{Setting, StepPoint, IsFaithful}
use Rattle.cert_rules.specs.Composed.{rank_form, form_bound, no_place, sizes_after, entry_bound}
use Rattle.cert_rules.specs.AcceptsRank.{HasFormShape, AcceptsRank, at_source, at_target, moves_of, least_loss}
use Rattle.cert_rules.specs.AcceptsRank.{rank_time}
use Rattle.cert_rules.proofs.FormLaws.{dot-same, value-less, value-number, value-after}
use Rattle.run_counting.specs.Paying.{allowance, IsPaidFor}
use Rattle.run_counting.proofs.Counting.{allowed, paid}
use Rattle.cert_rules.proofs.Payments.{income-bounded}
use Rattle.run_counting.proofs.model.Membership.{same_number-sound, same_number, no_is_not_yes, list_any-from, is_in-filter}
use Rattle.run_counting.proofs.model.Entries.{listed-sound}
use Rattle.cert_rules.proofs.LastSteps.{source-step, target-step, last_is_numbered, same_symbol-from}
use Rattle.run_counting.proofs.model.StepLaws.{stands}
use Rattle.cert_rules.proofs.FormBounds.{height-covered}
use Rattle.cert_rules.proofs.GoodFacts.{IsGood, IsGoodTable, known-time, known-size, known_time-based}
use Rattle.cert_rules.proofs.GoodFacts.{known_size-based}
use Rattle.cert_rules.proofs.Bases.{parts_for-based, rest_bound-based}

-- the form at a symbol has at most as many coefficients as the symbol has places
pub rank_form-long : (p : Program) (forms : List SymbolForm) → All (HasFormShape p) forms → (a : ℕ)
    → length (rank_form forms (Some a)).coefs ≤ arity_of p a
rank_form-long p [] h a = omega arith
rank_form-long p (f ∷ forms) h a =
    go (f.symbol == a) refl (All-head (HasFormShape p) f forms h)
    (rank_form-long p forms (All-tail (HasFormShape p) f forms h) a)
  where
    go : (v : Bool) → (f.symbol == a) ≡ v → HasFormShape p f → length (rank_form forms (Some a)).coefs ≤ arity_of p a
        → length (rank_form (f ∷ forms) (Some a)).coefs ≤ arity_of p a
    go true e here later = rw e (omega (arith, here.long, ap (λ (x : ℕ). arity_of p x) (same_number-sound f.symbol a e)))
    go false e here later = rw e later

-- the values of a configuration, place by place
abbrev pub values_at : Config → ℕ → ℤ
values_at c j = at c.values j

-- a form's value at a configuration
abbrev pub value_at : Form → Config → ℤ
value_at f c = form_value f (values_at c) (pos 1)

-- a form that reads only places of a configuration has there the value that it has at the step's point
pub value_before : (s : Setting) (t : ℕ) (b : Config) (free : List ℤ) (c : Config) (x : StepPoint s t b free c)
    (f : Form) → length f.coefs ≤ length b.values
    → form_value f x.z (pos 1) ≡ value_at f b
value_before s t b free c x f l =
    ap (λ (v : ℤ). v +ℤ f.constant *ℤ pos 1)
    (dot-same f.coefs x.z (values_at b) (λ i k. x.left i (omega (arith, k, l))))

-- a form at the new values of a step's point has the value that it has at the configuration after it
pub value_behind : (s : Setting) (t : ℕ) (b : Config) (free : List ℤ) (c : Config) (x : StepPoint s t b free c)
    (f : Form)
    → form_value (at_new_values f (s.new_values t)) x.z (pos 1) ≡ value_at f c
value_behind s t b free c x f =
    value-after f (s.new_values t) x.z (pos 1)
    ∙ ap (λ (v : ℤ). v +ℤ f.constant *ℤ pos 1)
    (dot-same f.coefs (λ i. form_value (form_at (s.new_values t) i) x.z (pos 1)) (values_at c) (λ i k. x.new_values i))

-- if the form of a loss by k isn't negative at the point of a step, the function loses at least k in that step
loses : (s : Setting) (t : ℕ) (b : Config) (free : List ℤ) (c : Config) (x : StepPoint s t b free c) (f g : Form)
    (k : ℤ) → length f.coefs ≤ length b.values
    → pos 0 ≤ℤ form_value (loss f g (s.new_values t) k) x.z (pos 1) → (value_at g c +ℤ k) ≤ℤ value_at f b
loses s t b free c x f g k l h =
    from _ _ _ _ _ _ (value-less (less f (at_new_values g (s.new_values t))) (constant_form k) x.z (pos 1))
    (value-less f (at_new_values g (s.new_values t)) x.z (pos 1))
    (value-number k x.z (pos 1)) (value_before s t b free c x f l) (value_behind s t b free c x g) h
  where
    from : (w d n v y z : ℤ) → w ≡ d -ℤ n → d ≡ v -ℤ y → n ≡ k *ℤ pos 1 → v ≡ value_at f b → y ≡ z → pos 0 ≤ℤ w
        → (z +ℤ k) ≤ℤ value_at f b
    from w d n v y z a b' c' d' e' h' = omega (arith, ints, a, b', c', d', e', h')

-- if a form less k isn't negative at the point of a step, the form is at least k before that step
floors : (s : Setting) (t : ℕ) (b : Config) (free : List ℤ) (c : Config) (x : StepPoint s t b free c) (f : Form)
    (k : ℤ) → length f.coefs ≤ length b.values
    → pos 0 ≤ℤ form_value (less f (constant_form k)) x.z (pos 1) → k ≤ℤ value_at f b
floors s t b free c x f k l h =
    from _ _ _ (value-less f (constant_form k) x.z (pos 1)) (value-number k x.z (pos 1))
    (value_before s t b free c x f l) h
  where
    from : (w n v : ℤ) → w ≡ v -ℤ n → n ≡ k *ℤ pos 1 → v ≡ value_at f b → pos 0 ≤ℤ w → k ≤ℤ value_at f b
    from w n v a b' c' h' = omega (arith, ints, a, b', c', h')

-- positive parts fall as the integers do, down to 0
positive-falls : (x y : ℤ) (k : ℕ) → (y +ℤ pos k) ≤ℤ x → pos k ≤ℤ x → height y + k ≤ height x
positive-falls (pos x) (pos y) k h l = omega (arith, ints, h)
positive-falls (pos x) (negsuc y) k h l = omega (arith, ints, l)
positive-falls (negsuc x) y k h l = absurd (omega (arith, ints, l))

positive-keeps : (x y : ℤ) → (y +ℤ pos 0) ≤ℤ x → height y ≤ height x
positive-keeps (pos x) (pos y) h = omega (arith, ints, h)
positive-keeps (pos x) (negsuc y) h = omega arith
positive-keeps (negsuc x) (pos y) h = absurd (omega (arith, ints, h))
positive-keeps (negsuc x) (negsuc y) h = omega arith

module _ (s : Setting) (true_to : IsFaithful s) (table : Table) (good : IsGoodTable s.program table)
    (node : RankNode) (h : AcceptsRank s table node) (start : List ℤ) where
  -- the positive part of the function where the run is at a source of the set, else 0
  abbrev level : Config → ℕ
  level c = cond (is_left_by s.program node.set (Some c.at))
      (height (value_at (rank_form node.forms (Some c.at)) c)) 0

  -- this number is the level of the configuration, which has no other
  abbrev HasLevel : Config → ℕ → Type 0
  HasLevel c l = l ≡ level c

  -- a bound on the function where an entry leads to, and the value of that bound
  abbrev entry_weight : ℕ → Bound
  entry_weight e = form_bound (rank_form node.forms (target_of s.program e)) node.den (sizes_after table.size e)

  abbrev weight : ℕ → ℕ
  weight e = val (entry_weight e) (sizes_of_start start)

  abbrev listed : List ℕ
  listed = entries s.program node.set

  abbrev RunTo : List Step → Config → Type 0
  RunTo steps c = IsRun s.program start steps c

  -- the last rule of a run that leads to a source of the set from outside is a listed entry
  entry_listed : (steps : List Step) (c : Config) → RunTo steps c → is_in (last_rule steps) node.set ≡ false
      → is_left_by s.program node.set (Some c.at) ≡ true
      → is_in (last_rule steps) listed ≡ true
  entry_listed steps c run out left =
      is_in-filter (enters s.program node.set) (entry_and_rules s.program) (last_rule steps)
      (last_is_numbered s.program start steps c run)
      (and_from (not (is_in (last_rule steps) node.set))
      (is_left_by s.program node.set (target_of s.program (last_rule steps)))
      (not_from_false (is_in (last_rule steps) node.set) out)
      (ap (λ (o : Option ℕ). is_left_by s.program node.set o) (stands s.program start steps c run) ∙ left))

  -- if the last rule is not in the set, the level is at most what that rule may bring in
  arrives : (steps : List Step) (c : Config) → RunTo steps c → is_in (last_rule steps) node.set ≡ false
      → level c ≤ node.den * allowance weight listed (last_rule steps)
  arrives steps c run out = go (is_left_by s.program node.set (Some c.at)) refl
    where
      go : (v : Bool) → is_left_by s.program node.set (Some c.at) ≡ v
          → level c ≤ node.den * allowance weight listed (last_rule steps)
      go false e = rw e (omega arith)
      go true e =
          let entry = entry_listed steps c run out e in
          let there = stands s.program start steps c run in
          let covered : height (value_at (rank_form node.forms (target_of s.program (last_rule steps))) c) ≤
          node.den * weight (last_rule steps) =
          height-covered node.den h.shape.den (sizes_of_start start)
          (rank_form node.forms (target_of s.program (last_rule steps)))
          (sizes_after table.size (last_rule steps)) (values_at c)
          (λ j n. let size = known-size s.program table good (last_rule steps) (suc j)
          (h.sizes (last_rule steps) (listed-sound s.program node.set (last_rule steps) entry) j n) in size.each start steps c run refl) in
          rw e (le_trans (subst
          (λ (o : Option ℕ). height (value_at (rank_form node.forms o) c) ≤ node.den * weight
          (last_rule steps)) there covered)
          (mul-le-mul_left node.den (allowed weight listed (last_rule steps) entry)))

  -- the virtual entry is no rule of the set
  entry_outside : is_in 0 node.set ≡ false
  entry_outside = false_from_ne_true (is_in 0 node.set) (λ e. let r = h.shape.rules 0 e in none_some r.rule r.numbered)
    where
      none_some : (r : Rule) → None ≡ Some r → ⊥
      none_some r e = cc

  -- a step by a rule of the set leaves the rule's source
  source_left : (b : Config) (step : Step) (c : Config) → IsStep s.program b step c → is_in step.rule node.set ≡ true
      → is_left_by s.program node.set (Some b.at) ≡ true
  source_left b step c x inside =
      list_any-from (λ t. same_symbol (Some b.at) (source_of s.program t)) node.set step.rule inside
      (same_symbol-from (Some b.at) (source_of s.program step.rule) b.at refl (source-step s.program b step c x))

  -- the function at the symbol of a configuration
  abbrev form_here : Config → Form
  form_here c = rank_form node.forms (Some c.at)

  -- the form before a step reads only places of the configuration
  fits_before : (b : Config) (step : Step) (c : Config) → IsStep s.program b step c
      → length (form_here b).coefs ≤ length b.values
  fits_before b step c x =
      omega (
        arith,
        rank_form-long s.program node.forms h.shape.forms b.at,
        x.leads.left,
        true_to.places step.rule x.rule x.numbered,
        ap (λ (a : ℕ). arity_of s.program a) x.leads.source,
      )

  -- the function falls by at least the least loss in a step by a rule of the set
  loss_by : (b : Config) (step : Step) (c : Config) → IsStep s.program b step c → is_in step.rule node.set ≡ true
      → (value_at (form_here c) c +ℤ least_loss node step.rule) ≤ℤ value_at (form_here b) b
  loss_by b step c x inside =
      let point = true_to.steps b step c x in
      let shown = implied_on_points (s.rows step.rule) (moves_of node.set node.moves step.rule)
      (loss (at_source s.program node step.rule) (at_target s.program node step.rule) (s.new_values step.rule)
      (least_loss node step.rule))
      (h.moves step.rule inside) point.z (pos 1) point.point in
      loses s step.rule b step.free c point (form_here b) (form_here c) (least_loss node step.rule)
      (fits_before b step c x)
      (subst (λ (o : Option ℕ). pos 0 ≤ℤ form_value
      (loss (form_here b) (rank_form node.forms o) (s.new_values step.rule) (least_loss node step.rule)) point.z
      (pos 1)) (target-step s.program b step c x)
      (subst (λ (o : Option ℕ). pos 0 ≤ℤ form_value
      (loss (rank_form node.forms o) (at_target s.program node step.rule) (s.new_values step.rule)
      (least_loss node step.rule)) point.z (pos 1)) (source-step s.program b step c x) shown))

  -- before a step by the strict rule the function is at least the denominator
  floor_by : (b : Config) (step : Step) (c : Config) → IsStep s.program b step c → node.rule ≡ step.rule
      → pos node.den ≤ℤ value_at (form_here b) b
  floor_by b step c x same =
      let point = true_to.steps b step c x in
      let certificate : Implies (s.rows step.rule) node.floor
      (less (at_source s.program node step.rule) (constant_form (pos node.den))) =
      subst (λ (t : ℕ). Implies (s.rows t) node.floor
      (less (at_source s.program node t) (constant_form (pos node.den)))) same h.floor in
      let shown = implied_on_points (s.rows step.rule) node.floor
      (less (at_source s.program node step.rule) (constant_form (pos node.den))) certificate point.z (pos 1)
      point.point in
      floors s step.rule b step.free c point (form_here b) (pos node.den) (fits_before b step c x)
      (subst (λ (o : Option ℕ). pos 0 ≤ℤ form_value (less (rank_form node.forms o) (constant_form (pos node.den)))
      point.z (pos 1)) (source-step s.program b step c x) shown)

  -- the level is at most the positive part of the function
  level-at_most : (c : Config) → level c ≤ height (value_at (form_here c) c)
  level-at_most c = go (is_left_by s.program node.set (Some c.at)) refl
    where
      go : (v : Bool) → is_left_by s.program node.set (Some c.at) ≡ v
          → level c ≤ height (value_at (form_here c) c)
      go true e = rw e (omega arith)
      go false e = rw e (omega arith)

  -- by the strict rule the level falls by at least the denominator, and by another rule of the set it doesn't rise
  pays : (b : Config) (step : Step) (c : Config) → IsStep s.program b step c → is_in step.rule node.set ≡ true
      → level c + node.den * one_if_same step.rule node.rule ≤ level b
  pays b step c x inside = go (step.rule == node.rule) refl
    where
      here : level b ≡ height (value_at (form_here b) b)
      here = let left = source_left b step c x inside in rw left refl

      go : (v : Bool) → (step.rule == node.rule) ≡ v → level c + node.den * one_if_same step.rule node.rule ≤ level b
      go true e =
          let fall : (value_at (form_here c) c +ℤ pos node.den) ≤ℤ value_at (form_here b) b =
          subst (λ (w : Bool). (value_at (form_here c) c +ℤ cond w (pos node.den) (pos 0)) ≤ℤ value_at (form_here b)
          b) e (loss_by b step c x inside) in
          let falls = positive-falls (value_at (form_here b) b) (value_at (form_here c) c) node.den fall
          (floor_by b step c x (sym (same_number-sound step.rule node.rule e))) in
          omega (
            arith,
            level-at_most c,
            here,
            falls,
            ap (λ (n : ℕ). node.den * n)
                (one_if_same-same step.rule node.rule (same_number-sound step.rule node.rule e)),
          )
      go false e =
          let keep : (value_at (form_here c) c +ℤ pos 0) ≤ℤ value_at (form_here b) b =
          subst (λ (w : Bool). (value_at (form_here c) c +ℤ cond w (pos node.den) (pos 0)) ≤ℤ value_at (form_here b)
          b) e (loss_by b step c x inside) in
          let keeps = positive-keeps (value_at (form_here b) b) (value_at (form_here c) c) keep in
          omega (
            arith,
            level-at_most c,
            here,
            keeps,
            ap (λ (n : ℕ). node.den * n)
                (one_if_same-other step.rule node.rule
                (λ same. no_is_not_yes (step.rule == node.rule) e
                (subst (λ (n : ℕ). (step.rule == n) ≡ true) same (same_number step.rule)))),
          )

  -- a rule outside the set isn't the strict one
  outside_is_other : (t : ℕ) → is_in t node.set ≡ false → one_if_same t node.rule ≡ 0
  outside_is_other t out =
      one_if_same-other t node.rule
      (λ same. no_is_not_yes (is_in t node.set) out
      (subst (λ (n : ℕ). is_in n node.set ≡ true) (sym same) h.shape.inside))

  -- the level pays for the strict rule
  paid_for : IsPaidFor RunTo HasLevel node.den node.rule weight listed
  paid_for = record {
    rule = λ e. no_is_not_yes (is_in 0 node.set) entry_outside
        (subst (λ (n : ℕ). is_in n node.set ≡ true) e h.shape.inside);
    start = λ c run. (level c, refl, arrives [] c run entry_outside);
    step = λ st earlier d run. (
      run.0,
      run.1,
      λ k told. (level d, refl, omega (arith, told, by st earlier d run (is_in st.rule node.set) refl)),
    );
  }
    where
      by : (st : Step) (earlier : List Step) (d : Config) (run : RunTo (st ∷ earlier) d) (v : Bool)
          → is_in st.rule node.set ≡ v
          → level d + node.den * one_if_same st.rule node.rule ≤ level run.0 + node.den * allowance weight listed
          st.rule
      by st earlier d run true e = omega (arith, pays run.0 st d run.2 e)
      by st earlier d run false e =
          omega (arith, arrives (st ∷ earlier) d run e, ap (λ (n : ℕ). node.den * n) (outside_is_other st.rule e))

  -- the strict rule occurs at most as often as the composed time says
  pub composed_time : (steps : List Step) (c : Config) → RunTo steps c
      → count node.rule steps ≤ val (rank_time s node table) (sizes_of_start start)
  composed_time steps c run =
      let all_paid = paid RunTo HasLevel node.den node.rule weight listed paid_for steps c run in
      le_trans (all_paid.often h.shape.den)
      (income-bounded (λ e. known (table.time e)) entry_weight (sizes_of_start start) listed steps
      (λ e k. let time = known-time s.program table good e (h.times e (listed-sound s.program node.set e k)) in time.each start steps c run))

  -- the time that an accepted ranking node composes has bases of at least 1
  rank_time-based : IsBased (rank_time s node table)
  rank_time-based = (
    tt,
    parts_for-based (entry_bound s.program node table.time table.size)
        (λ e. (
          tt,
          (
            known_time-based s.program table good e,
            (
              rest_bound-based (rank_form node.forms (target_of s.program e)) node.den no_place
                  (sizes_after table.size e)
                  (λ j. known_size-based s.program table good e (suc j)),
              tt,
            ),
          ),
        )) listed,
  )

-- the fact of an accepted ranking node is good
pub rank-good : (s : Setting) → IsFaithful s → (table : Table) → IsGoodTable s.program table → (node : RankNode)
    → AcceptsRank s table node
    → IsGood s.program (Time node.rule (s.rewrite (rank_time s node table)))
rank-good s true_to table good node h = record {
  holds = record {
    each = λ start steps c run.
        subst (λ (n : ℕ). count node.rule steps ≤ n)
        (sym (true_to.values (rank_time s node table) (rank_time-based s true_to table good node h start)
        (sizes_of_start start)))
        (composed_time s true_to table good node h start steps c run);
  };
  based = true_to.bases (rank_time s node table) (rank_time-based s true_to table good node h []);
}
