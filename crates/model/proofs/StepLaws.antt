-- Laws of every run, step by step.
use Rattle.std.proofs.Common.{◌≡◌, ℕ, zero, suc, ◌<◌, List, [], ◌∷◌, ◌++◌, length, filter, ℤ, Bool, true, false, Some}
use Rattle.std.proofs.Common.{None, Option, refl, sym, ◌∙◌, ap, subst, arith}
use Rattle.std.specs.List.{All, Contains, range_with_len}
use Rattle.std.proofs.lemmas.List.{length-map}
use Rattle.std.proofs.lemmas.List.Elements.{All-head, All-tail}
use Rattle.std.proofs.lemmas.List.FromFn.{length-range_with_len, get_or-range_with_len}
use Rattle.std.proofs.lemmas.Option.{slice_get_within}
use Rattle.model.specs.Terms.{value}
use Rattle.model.specs.Programs.{Program, Rule, rule_at, arity_of}
use Rattle.model.specs.Runs.{Config, Step, IsRun, last_rule}
use Rattle.model.specs.Paths.{Here, Onward, IsReached, target_in, target_of, source_in, source_of, same_symbol}
use Rattle.model.specs.Paths.{comes_before, entry_and_rules, pre}
use Rattle.model.proofs.Membership.{same_number}
use Rattle.model.specs.RunLaws.{AritiesAgree, IsSomeRun, RunsGoStepByStep}

-- a prefix of a run is a run
pub beginning : (p : Program) (start : List ℤ) (later earlier : List Step) → IsSomeRun p start (later ++ earlier) → IsSomeRun p start earlier
beginning p start [] earlier run = run
beginning p start (s ∷ later) earlier (c, (b, run, step)) = beginning p start later earlier (b, run)

-- the target of the rule with a number
pub target_of-rule : (p : Program) (t : ℕ) (r : Rule) → rule_at p t ≡ Some r → target_of p t ≡ Some r.target
target_of-rule p zero r h = absurd (none_some h)
  where
    none_some : None ≡ Some r → ⊥
    none_some e = cc
target_of-rule p (suc t) r h = ap target_in h

-- the source of the rule with a number
pub source_of-rule : (p : Program) (t : ℕ) (r : Rule) → rule_at p t ≡ Some r → source_of p t ≡ Some r.source
source_of-rule p t r h = ap source_in h

-- a run ends at the target of its last rule
pub stands : (p : Program) (start : List ℤ) (steps : List Step) (c : Config) → IsRun p start steps c → target_of p (last_rule steps) ≡ Some c.at
stands p start [] c run = ap Some (sym run.at)
stands p start (s ∷ earlier) c (b, run, step) = target_of-rule p s.rule step.rule step.numbered ∙ ap Some (sym step.leads.target)

-- optional symbols that are the same symbol pass the test for it
pub same_symbol-same : (a b : Option ℕ) (s : ℕ) → a ≡ Some s → b ≡ Some s → same_symbol a b ≡ true
same_symbol-same a b s e f = ap (λ (x : Option ℕ). same_symbol x b) e ∙ (ap (λ (x : Option ℕ). same_symbol (Some s) x) f ∙ same_number s)

-- the rule of a step can come just before the rule of the next step
pub before : (p : Program) (start : List ℤ) (s : Step) (earlier : List Step) (c : Config) → IsRun p start (s ∷ earlier) c → comes_before p (last_rule earlier) s.rule ≡ true
before p start s earlier c (b, run, step) =
    same_symbol-same _ _ b.at (stands p start earlier b run) (source_of-rule p s.rule step.rule step.numbered ∙ ap Some (sym step.leads.source))

-- the last rule of a run is the virtual entry or a rule of the program
last_rule-within : (p : Program) (start : List ℤ) (steps : List Step) (c : Config) → IsRun p start steps c → last_rule steps < suc (length p.rules)
last_rule-within p start [] c run = omega arith
last_rule-within p start (s ∷ earlier) c (b, run, step) = go s.rule step.numbered
  where
    go : (t : ℕ) → rule_at p t ≡ Some step.rule → t < suc (length p.rules)
    go zero h = omega arith
    go (suc t) h = let low : t < length p.rules = slice_get_within p.rules t step.rule h in omega arith

-- a number of a list that passes a test is among those that pass it
filter-keeps : (f : ℕ → Bool) (xs : List ℕ) (x : ℕ) → f x ≡ true → Contains xs x → Contains (filter f xs) x
filter-keeps f [] x h (k, low, e) = absurd (omega arith)
filter-keeps f (y ∷ xs) x h (zero, low, e) = subst (λ (z : ℕ). Contains (filter f (z ∷ xs)) x) (sym e) (rw h (zero, omega arith, refl))
filter-keeps f (y ∷ xs) x h (suc k, low, e) = go (f y) refl (filter-keeps f xs x h (k, omega arith, e))
  where
    go : (v : Bool) → f y ≡ v → Contains (filter f xs) x → Contains (filter f (y ∷ xs)) x
    go true t (j, in_rest, at) = rw t (suc j, omega arith, at)
    go false t rest = rw t rest

-- a number below n is one of the first n numbers
below-listed : (n x : ℕ) → x < n → Contains (range_with_len 0 n) x
below-listed n x h = (x, omega (arith, length-range_with_len 0 n), get_or-range_with_len 0 n x x h ∙ omega arith)

-- the rule of a step is in the list of what can come just before the rule of the next step
pub listed : (p : Program) (start : List ℤ) (s : Step) (earlier : List Step) (c : Config) → IsRun p start (s ∷ earlier) c → Contains (pre p s.rule) (last_rule earlier)
listed p start s earlier c run =
    filter-keeps (λ e. comes_before p e s.rule) (entry_and_rules p) (last_rule earlier) (before p start s earlier c run) (below-listed (suc (length p.rules)) (last_rule earlier) (last_rule-within p start earlier run.0 run.1))

-- a run that uses only allowed rules ends at a symbol that is reachable by them
pub reached : (p : Program) (is_allowed : ℕ → Bool) (start : List ℤ) (steps : List Step) (c : Config) → IsRun p start steps c → All (λ s. is_allowed s.rule ≡ true) steps → IsReached p is_allowed c.at
reached p is_allowed start [] c run h = Here (sym run.at)
reached p is_allowed start (s ∷ earlier) c (b, run, step) h =
    let P : Step → Type 0 = λ (s : Step). is_allowed s.rule ≡ true in
    Onward (reached p is_allowed start earlier b run (All-tail P s earlier h))
    (record { number = s.rule; rule = step.rule; numbered = step.numbered; allowed = All-head P s earlier h; source = sym step.leads.source; target = sym step.leads.target })

-- if arities agree, every run ends at a configuration with one value for each argument of its symbol
pub values : (p : Program) → AritiesAgree p → (start : List ℤ) (steps : List Step) (c : Config) → IsRun p start steps c → length c.values ≡ arity_of p c.at
values p agree start [] c run = ap length run.values ∙ (run.places ∙ ap (arity_of p) (sym run.at))
values p agree start (s ∷ earlier) c (b, run, step) =
    ap length step.leads.values ∙ (length-map step.rule.updates (λ u. value u (b.values ++ s.free)) ∙ (agree.updates s.rule step.rule step.numbered ∙ ap (arity_of p) (sym step.leads.target)))

-- the laws of runs hold for all programs
pub step_by_step : (p : Program) → RunsGoStepByStep p
step_by_step p = record { beginning = beginning p; stands = stands p; before = before p; listed = listed p; reached = reached p; values = values p }
