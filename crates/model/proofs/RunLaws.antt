-- Laws of what start values and steps determine.
use Rattle.std.proofs.Common.{◌≡◌, ◌≢◌, ◌⊎◌, inl, inr, true, false, ◌==◌, ℕ, zero, suc, List, [], ◌∷◌, ◌++◌, map, ℤ}
use Rattle.std.proofs.Common.{Some, None, refl, sym, ◌∙◌, ap, subst, arith}
use Rattle.std.proofs.lemmas.Bool.Decides.{eqb_tells}
use Rattle.model.specs.Terms.{value}
use Rattle.model.specs.Programs.{Program, Rule, rule_at}
use Rattle.model.specs.Runs.{Config, Step, IsStep, IsRun, count, one_if_same}

-- equal numbers have 1
pub one_if_same-same : (s t : ℕ) → s ≡ t → one_if_same s t ≡ 1
one_if_same-same s t e = go (eqb_tells s t)
  where
    go : ((s == t) ≡ true) × (s ≡ t) ⊎ ((s == t) ≡ false) × (s ≢ t) → one_if_same s t ≡ 1
    go (inl (test, same)) = rw test refl
    go (inr (test, other)) = absurd (other e)

-- different numbers have 0
pub one_if_same-other : (s t : ℕ) → s ≢ t → one_if_same s t ≡ 0
one_if_same-other s t ne = go (eqb_tells s t)
  where
    go : ((s == t) ≡ true) × (s ≡ t) ⊎ ((s == t) ≡ false) × (s ≢ t) → one_if_same s t ≡ 0
    go (inl (test, same)) = absurd (ne same)
    go (inr (test, other)) = rw test refl

-- configurations with the same symbol and values are the same
pub same_config : (c d : Config) → c.at ≡ d.at → c.values ≡ d.values → c ≡ d
same_config c d at values = ap (λ (s : ℕ). record { at = s; values = c.values }) at ∙ ap (λ (v : List ℤ). record { at = d.at; values = v }) values

-- there is only one rule with a number
pub same_rule : (p : Program) (t : ℕ) (q r : Rule) → rule_at p t ≡ Some q → rule_at p t ≡ Some r → q ≡ r
same_rule p t q r hq hr = some_same (sym hq ∙ hr)
  where
    some_same : Some q ≡ Some r → q ≡ r
    some_same h = cc

-- a step and the configuration before it determine the configuration after it
pub same_step : (p : Program) (b : Config) (s : Step) (c d : Config) → IsStep p b s c → IsStep p b s d → c ≡ d
same_step p b s c d hc hd =
    let rule : hc.rule ≡ hd.rule = same_rule p s.rule hc.rule hd.rule hc.numbered hd.numbered in
    same_config c d (hc.leads.target ∙ (ap (λ (r : Rule). r.target) rule ∙ sym hd.leads.target)) (hc.leads.values ∙ (ap (λ (r : Rule). map (λ u. value u (b.values ++ s.free)) r.updates) rule ∙ sym hd.leads.values))

-- start values and steps determine the configuration at which a run ends
pub same_end : (p : Program) (start : List ℤ) (steps : List Step) (c d : Config) → IsRun p start steps c
    → IsRun p start steps d → c ≡ d
same_end p start [] c d hc hd = same_config c d (hc.at ∙ sym hd.at) (hc.values ∙ sym hd.values)
same_end p start (s ∷ earlier) c d (b, run, step) (e, run', step') = same_step p e s c d (subst (λ (x : Config). IsStep p x s c) (same_end p start earlier b e run run') step) step'

-- no step is by the virtual entry
pub not_the_entry : (p : Program) (b : Config) (s : Step) (c : Config) → IsStep p b s c → one_if_same s.rule 0 ≡ 0
not_the_entry p b s c h = go s.rule h.numbered
  where
    go : (t : ℕ) → rule_at p t ≡ Some h.rule → one_if_same t 0 ≡ 0
    go zero e = absurd (none_some e)
      where
        none_some : None ≡ Some h.rule → ⊥
        none_some x = cc
    go (suc t) e = one_if_same-other (suc t) 0 (omega arith)

-- in every run the virtual entry occurs once
pub entry_once : (p : Program) (start : List ℤ) (steps : List Step) (c : Config) → IsRun p start steps c
    → count 0 steps ≡ 1
entry_once p start [] c run = refl
entry_once p start (s ∷ earlier) c (b, run, step) = omega (arith, not_the_entry p b s c step, entry_once p start earlier b run)
