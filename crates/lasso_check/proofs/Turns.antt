-- The record of a walk along the turn of a lasso, and the verdict after it.
use Rattle.std.proofs.Common.{◌≡◌, ◌≢◌, Bool, true, false, ℕ, zero, suc, ◌+◌, ◌-◌, ◌≤◌, ◌<◌, List, [], ◌∷◌, ◌++◌, length}
use Rattle.std.proofs.Common.{take, map, set, get_or, replicate, reverse, Some, refl, sym, ◌∙◌, ap, subst, arith, cond}
use Rattle.std.specs.Prelude.{nat_lt}
use Rattle.std.specs.List.{filter, range_with_len}
use Rattle.std.proofs.lemmas.Bool.Decides.{nat_tests}
use Rattle.std.proofs.lemmas.List.{take_all}
use Rattle.std.proofs.lemmas.List.Elements.{filter-append}
use Rattle.std.proofs.lemmas.List.FromFn.{length-map-range_with_len, get_or-map-range_with_len}
use Rattle.its_model.specs.model.Programs.{Program, arity_of}
use Rattle.its_model.specs.model.Runs.{Config, Step, count, one_if_same}
use Rattle.its_model.specs.model.Spending.{step_cost, spent_all}
use Rattle.its_model.specs.Valid.{IsValid}
use Rattle.its_model.specs.Views.{config_of}
use Rattle.its_model.proofs.poly_terms.model.RunLaws.{one_if_same-same, one_if_same-other}
use Rattle.bound_expr.specs.Capped.{capped}
use Rattle.run_replay.specs.declared.walk.Walk.{Walk}
use Rattle.run_replay.specs.Replays.{RunsInRange, rule_numbers}
use Rattle.run_replay.specs.ReplayAnswers.{first_steps, CanWalk}
use Rattle.run_replay.proofs.ReplayTallies.{set_listed, count_same, capped_more}
use Rattle.run_replay.proofs.ReplayStands.{first_more}
use Rattle.lasso_check.specs.declared.turning.Turning.{Turning}
use Rattle.lasso_check.specs.Lassos.{Lasso, stem_back, turn_back, both_back, run_along}
use Rattle.lasso_check.specs.Checks.{IsFirstDifference, IsOpenAt, is_used_in, rules_of_turn, Turn}
use Rattle.lasso_check.specs.CheckAnswers.{HasTaken, first_of_turn, HasTurned, IsTurn}
use Rattle.lasso_check.proofs.Walks.{stem_first, both_first}

-- with one more step its rule is used, and the other rules are as before
used_with : (s : Step) (steps : List Step) → true ≡ is_used_in (s ∷ steps) s.rule
used_with s steps = let one = one_if_same-same s.rule s.rule refl in grind (arith, nat_tests, one)

used_same : (s : Step) (steps : List Step) (u : ℕ) → u ≢ s.rule → is_used_in steps u ≡ is_used_in (s ∷ steps) u
used_same s steps u other = ap (nat_lt 0) (count_same u s steps (λ e. other (sym e)))

-- without a step no rule is used
none_used : (a n : ℕ) → 1 ≤ a → replicate n false ≡ map (is_used_in []) (range_with_len a n)
none_used a zero low = refl
none_used a (suc n) low =
    let none : is_used_in [] a ≡ false = ap (nat_lt 0) (one_if_same-other 0 a (λ e. omega (arith, e, low))) in
    ap (λ (b : Bool). b ∷ replicate n false) (sym none)
    ∙ ap (λ (bs : List Bool). is_used_in [] a ∷ bs) (none_used (a + 1) n (omega arith))

-- a walk at the end of the stem has recorded no step of the turn
pub turned_none : (p : Program) (l : Lasso) (n : ℕ) (t : Turning) → HasTaken p l n t.walk → n ≡ length l.stem
    → t.used.items ≡ replicate (length p.rules) false → t.cost ≡ 0 → HasTurned p l 0 t
turned_none p l n t h same used cost =
    let position : n ≡ length l.stem + 0 = omega (arith, same) in
    let behind : length l.stem ≡ length l.stem + 0 = omega arith in
    record {
      taken = subst (λ (k : ℕ). HasTaken p l k t.walk) position h;
      used = used ∙ none_used 1 (length p.rules) (omega arith);
      charged = 0;
      costs = ap (λ (k : ℕ). spent_all p l.start (first_steps (run_along l) k)) (sym behind)
          ∙ (ap (λ (ss : List Step). spent_all p l.start ss) (stem_first l) ∙ omega arith);
      cost = cost;
    }

-- the record after one more step of the turn is that of one more step
pub turned_next : (p : Program) (l : Lasso) (i n charged : ℕ) (s : Step) (old new : Turning) → i < length l.turn
    → n ≡ length l.stem + i → s ≡ get_or l.turn i s → s ≡ get_or (run_along l).steps n s → n < length (run_along l).steps
    → HasTurned p l i old → HasTaken p l (n + 1) new.walk
    → charged ≡ step_cost p l.start s (first_steps (run_along l) n) → 1 ≤ s.rule → s.rule ≤ length p.rules
    → new.used.items ≡ set old.used.items (s.rule - 1) true → new.cost ≡ capped (old.cost + charged)
    → HasTurned p l (i + 1) new
turned_next p l i n charged s old new low at own along within h taken costs from to used cost =
    let position : n + 1 ≡ length l.stem + (i + 1) = omega (arith, at) in
    let more : first_of_turn l (i + 1) ≡ s ∷ first_of_turn l i =
    first_more (record { start = l.start; steps = l.turn }) i s low own in
    let whole : first_steps (run_along l) (n + 1) ≡ s ∷ first_steps (run_along l) n = first_more (run_along l) n s within along in
    let before : spent_all p l.start (first_steps (run_along l) n) ≡ h.charged + spent_all p l.start (stem_back l) =
    subst (λ (k : ℕ). spent_all p l.start (first_steps (run_along l) k) ≡ h.charged + spent_all p l.start (stem_back l))
    (sym at) h.costs in
    let spent : spent_all p l.start (first_steps (run_along l) (n + 1)) ≡ (charged + h.charged) + spent_all p l.start (stem_back l) =
    ap (λ (ss : List Step). spent_all p l.start ss) whole ∙ omega (arith, before, costs) in
    record {
      taken = subst (λ (k : ℕ). HasTaken p l k new.walk) position taken;
      used = used ∙ (ap (λ (bs : List Bool). set bs (s.rule - 1) true) h.used
          ∙ (set_listed (is_used_in (first_of_turn l i)) (is_used_in (s ∷ first_of_turn l i)) (length p.rules) (s.rule - 1)
          s.rule true (omega (arith, from, to)) (omega (arith, from)) (used_with s (first_of_turn l i))
          (used_same s (first_of_turn l i))
          ∙ ap (λ (ss : List Step). map (is_used_in ss) (rule_numbers p)) (sym more)));
      charged = charged + h.charged;
      costs = subst (λ (k : ℕ). spent_all p l.start (first_steps (run_along l) k)
          ≡ (charged + h.charged) + spent_all p l.start (stem_back l)) position spent;
      cost = cost ∙ (ap (λ (k : ℕ). capped (k + charged)) h.cost ∙ capped_more h.charged charged);
    }

-- the walks along the stem, and along both parts, are runs in range
pub stem_runs : (p : Program) (l : Lasso) (n : ℕ) (w : Walk) → HasTaken p l n w → n ≡ length l.stem
    → RunsInRange p l.start (stem_back l) (config_of w.here)
stem_runs p l n w h same =
    subst (λ (ss : List Step). RunsInRange p l.start ss (config_of w.here))
    (ap (first_steps (run_along l)) same ∙ stem_first l) h.runs

pub whole_runs : (p : Program) (l : Lasso) (n : ℕ) (t : Turning) → HasTurned p l n t → n ≡ length l.turn
    → RunsInRange p l.start (both_back l) (config_of t.walk.here)
whole_runs p l n t h same =
    subst (λ (ss : List Step). RunsInRange p l.start ss (config_of t.walk.here))
    (ap (λ (k : ℕ). first_steps (run_along l) (length l.stem + k)) same ∙ both_first l) h.taken.runs

-- if a walk ends at another configuration than the one at which the turn begins, the turn is open
pub opens : (p : Program) (l : Lasso) (before behind : Config) (place : ℕ) → RunsInRange p l.start (stem_back l) before
    → RunsInRange p l.start (both_back l) behind → IsFirstDifference before behind place → IsOpenAt p l place
opens p l before behind place stem whole first = record {
  before = before;
  behind = behind;
  stem = stem;
  whole = whole;
  first = first;
}

-- if a walk ends at the configuration at which the turn begins, the turn leads back
pub closes : (p : Program) (l : Lasso) (at : Config) (n : ℕ) (t : Turning) (rules : List ℕ)
    → RunsInRange p l.start (stem_back l) at → at ≡ config_of t.walk.here → HasTurned p l n t → n ≡ length l.turn
    → 1 ≤ length l.turn
    → (t.used.items ≡ map (is_used_in (turn_back l)) (rule_numbers p) → rules ≡ rules_of_turn p l)
    → IsTurn p l (record { rules = rules; cost = t.cost })
closes p l at n t rules stem same h all some listed =
    let turn : first_of_turn l n ≡ turn_back l = ap reverse (take_all n l.turn (omega (arith, all))) in
    let whole : first_steps (run_along l) (length l.stem + n) ≡ both_back l =
    ap (λ (k : ℕ). first_steps (run_along l) (length l.stem + k)) all ∙ both_first l in
    record {
      round = record {
        at = at;
        stem = stem;
        whole = subst (λ (c : Config). RunsInRange p l.start (both_back l) c) (sym same) (whole_runs p l n t h all);
        nonempty = some;
      };
      rules = listed (h.used ∙ ap (λ (ss : List Step). map (is_used_in ss) (rule_numbers p)) turn);
      charged = h.charged;
      costs = ap (λ (ss : List Step). spent_all p l.start ss) (sym whole) ∙ h.costs;
      cost = h.cost;
    }

-- the numbers from a on, with one number more
numbers_more : (a n j : ℕ) → a + n ≡ j → range_with_len a (suc n) ≡ range_with_len a n ++ j ∷ []
numbers_more a zero j e = let same : a ≡ j = omega (arith, e) in ap (λ (k : ℕ). k ∷ []) same
numbers_more a (suc n) j e = ap (λ (l : List ℕ). a ∷ l) (numbers_more (a + 1) n j (omega (arith, e)))

-- the numbers from 1 to n + 1 that pass a test, by those from 1 to n
passing_more : (f : ℕ → Bool) (n j : ℕ) → 1 + n ≡ j
    → filter f (range_with_len 1 (n + 1)) ≡ filter f (range_with_len 1 n) ++ cond (f j) (j ∷ []) []
passing_more f n j e =
    let on : n + 1 ≡ suc n = omega arith in
    ap (λ (k : ℕ). filter f (range_with_len 1 k)) on
    ∙ (ap (filter f) (numbers_more 1 n j e) ∙ filter-append f (range_with_len 1 n) (j ∷ []))

-- the list of used numbers with one more entry of the record
pub rules_more : (used : List Bool) (i j : ℕ) (x d : Bool) (old : List ℕ) → i < length used → x ≡ get_or used i d → 1 + i ≡ j
    → ((f : ℕ → Bool) → used ≡ map f (range_with_len 1 (length used)) → old ≡ filter f (range_with_len 1 i))
    → (f : ℕ → Bool) → used ≡ map f (range_with_len 1 (length used))
    → old ++ cond x (j ∷ []) [] ≡ filter f (range_with_len 1 (i + 1))
rules_more used i j x d old low e next before f are =
    let passes : x ≡ f j =
    e ∙ (ap (λ (bs : List Bool). get_or bs i d) are ∙ get_or-map-range_with_len f 1 (length used) i j d low next) in
    ap (λ (xs : List ℕ). xs ++ cond x (j ∷ []) []) (before f are)
    ∙ (ap (λ (b : Bool). filter f (range_with_len 1 i) ++ cond b (j ∷ []) []) passes ∙ sym (passing_more f i j next))

-- a valid program has at most 1,000 rules to record
pub few_recorded : (p : Program) (l : Lasso) (n : ℕ) (t : Turning) → IsValid p → HasTurned p l n t → length t.used.items ≤ 1000
few_recorded p l n t valid h =
    let recorded = ap length h.used in
    let all = length-map-range_with_len (is_used_in (first_of_turn l n)) 1 (length p.rules) in
    omega (arith, recorded, all, valid.few_rules)

-- the record has an entry for each rule of the program
pub recorded_length : (p : Program) (l : Lasso) (n : ℕ) (t : Turning) → HasTurned p l n t → length t.used.items ≡ length p.rules
recorded_length p l n t h =
    ap length h.used ∙ length-map-range_with_len (is_used_in (first_of_turn l n)) 1 (length p.rules)

-- a walk that ends at the symbol at which the turn begins has as many values as that configuration
pub same_places : (p : Program) (before : Config) (w v : Walk) → before ≡ config_of w.here → CanWalk p w → CanWalk p v
    → before.at ≡ v.here.at → length before.values ≡ length v.here.values.items
same_places p before w v e from to at =
    ap (λ (c : Config). length c.values) e
    ∙ (from.places ∙ (ap (arity_of p) (sym (ap (λ (c : Config). c.at) e) ∙ at) ∙ sym to.places))

-- the list of used numbers is the list of the turn's rules
pub listed_rules : (p : Program) (l : Lasso) (used : List Bool) (rules : List ℕ) → length used ≡ length p.rules
    → ((f : ℕ → Bool) → used ≡ map f (range_with_len 1 (length used)) → rules ≡ filter f (range_with_len 1 (length used)))
    → used ≡ map (is_used_in (turn_back l)) (rule_numbers p) → rules ≡ rules_of_turn p l
listed_rules p l used rules long are e =
    let same = ap (λ (n : ℕ). map (is_used_in (turn_back l)) (range_with_len 1 n)) long in
    are (is_used_in (turn_back l)) (e ∙ sym same)
    ∙ ap (λ (n : ℕ). filter (is_used_in (turn_back l)) (range_with_len 1 n)) long
