-- Facts that hold by induction along runs hold on every run.
use Rattle.std.proofs.Common.{◌≡◌, ℕ, ◌<◌, ◌≤◌, ap, arith, sym, ◌∙◌, subst, List, [], ◌∷◌, ◌++◌, length, map}
use Rattle.std.proofs.Common.{Some, get_or}
use Rattle.std.specs.Prelude.{ℤ, pos, ◌-ℤ◌, ◌*ℤ◌, ◌≤ℤ◌, ◌<ℤ◌, nat_eq}
use Rattle.std.specs.List.{All, Contains}
use Rattle.std.proofs.lemmas.Int.{ints}
use Rattle.std.proofs.lemmas.Bool.{eqb-true}
use Rattle.std.proofs.lemmas.List.Elements.{All-append, All-map, All-filter, filter_passes, All-contains_itself}
use Rattle.poly_terms.proofs.int_laws.OrderLaws.{le-of-mul_ℤ}
use Rattle.poly_terms.specs.linear_forms.Forms.{Form, at, form_value}
use Rattle.poly_terms.specs.linear_forms.Combinations.{form_times}
use Rattle.poly_terms.specs.linear_forms.Points.{Meets}
use Rattle.poly_terms.proofs.linear_forms.CertificateLaws.{implied, no_point}
use Rattle.poly_terms.proofs.linear_forms.CombinationLaws.{form_value-times}
use Rattle.poly_terms.specs.model.Programs.{Program, arity_of}
use Rattle.poly_terms.specs.model.Runs.{Config, Step, IsStep, IsRun, Begins, place_value}
use Rattle.poly_terms.proofs.model.StepLaws.{values}
use Rattle.its_model.specs.Valid.{IsValid}
use Rattle.cert_types.specs.guard_prep.Laws.{IsPointOfStep, point_of}
use Rattle.cert_types.specs.guard_prep.Prepared.{rows_of, new_values_of}
use Rattle.cert_types.proofs.guard_prep.StepLaws.{steps-are-points}
use Rattle.cert_types.proofs.guard_prep.its_model.ValidLaws.{arities_agree}
use Rattle.poly_terms.specs.linear_forms.RuleQuestions.{RuleForms}
use Rattle.rule_questions.specs.ProgramQuestions.{forms_in}
use Rattle.location_facts.specs.declared.fact.LocFact.{LocFact}
use Rattle.location_facts.specs.declared.fact.FactProof.{FactProof}
use Rattle.location_facts.specs.declared.fact.FactProof.TheVariants.{Empty, Implied}
use Rattle.location_facts.specs.Certificates.{IsWithinLimit, Shows, IsShownBy, AreInductive}
use Rattle.location_facts.specs.Facts.{IsMetAt, HoldsAlways}
use Rattle.location_facts.specs.Rows.{value_before, value_after, row_before, row_after, facts_at, combined}
use Rattle.location_facts.proofs.RowValues.{margin-value, before-value, after-value}

-- a number is at least a lower bound if their difference is at least 0
above : (x k v : ℤ) → v ≡ x -ℤ k *ℤ pos 1 → k ≤ℤ x → pos 0 ≤ℤ v
above x k v e l = omega (arith, ints, e, l)

below : (x k v : ℤ) → v ≡ x -ℤ k *ℤ pos 1 → pos 0 ≤ℤ v → k ≤ℤ x
below x k v e l = omega (arith, ints, e, l)

-- a satisfied fact is a row that is at least 0
met-row : (f : LocFact) (c : Config) (z : ℕ → ℤ) → ((j : ℕ) → j < length c.values → z j ≡ at c.values j)
    → f.plus ≤ length c.values → f.minus ≤ length c.values → c.at ≡ f.symbol → IsMetAt f c
    → pos 0 ≤ℤ form_value (row_before f) z (pos 1)
met-row f c z h l m same met =
    above (place_value c f.plus -ℤ place_value c f.minus) f.least (form_value (row_before f) z (pos 1))
    (margin-value (value_before f.plus) (value_before f.minus) f.least z (pos 1)
    ∙ (ap (λ (x : ℤ). (x -ℤ form_value (value_before f.minus) z (pos 1)) -ℤ f.least *ℤ pos 1)
    (before-value c z (pos 1) f.plus h l)
    ∙ ap (λ (x : ℤ). (place_value c f.plus -ℤ x) -ℤ f.least *ℤ pos 1) (before-value c z (pos 1) f.minus h m)))
    (met same)

-- a goal that is at least 0 is a satisfied fact
goal-met : (f : LocFact) (new_values : List Form) (c : Config) (z : ℕ → ℤ)
    → map (λ g. form_value g z (pos 1)) new_values ≡ c.values
    → f.plus ≤ length c.values → f.minus ≤ length c.values
    → pos 0 ≤ℤ form_value (row_after new_values f) z (pos 1)
    → f.least ≤ℤ (place_value c f.plus -ℤ place_value c f.minus)
goal-met f new_values c z e l m above =
    below (place_value c f.plus -ℤ place_value c f.minus) f.least (form_value (row_after new_values f) z (pos 1))
    (margin-value (value_after new_values f.plus) (value_after new_values f.minus) f.least z (pos 1)
    ∙ (ap (λ (x : ℤ). (x -ℤ form_value (value_after new_values f.minus) z (pos 1)) -ℤ f.least *ℤ pos 1)
    (after-value new_values c z f.plus e l)
    ∙ ap (λ (x : ℤ). (place_value c f.plus -ℤ x) -ℤ f.least *ℤ pos 1) (after-value new_values c z f.minus e m)))
    above

-- a property of all facts holds of the rows of a symbol's facts
pub facts-all : (P : Form → Type 0) (s : ℕ) (kept : List LocFact)
    → All (λ f. f.symbol ≡ s → P (row_before f)) kept → All P (map row_before (facts_at s kept))
facts-all P s kept h =
    All-map P row_before (facts_at s kept)
    (λ k d l. All-filter (λ f. nat_eq f.symbol s) (λ f. f.symbol ≡ s → P (row_before f)) kept h k d l
    (eqb-true _ s (filter_passes (λ f. nat_eq f.symbol s) kept k d l)))

-- if a proof shows a goal and the rows are satisfied, the goal is at least 0
shown-goal : (rows : List Form) (goal : Form) (proof : FactProof) (z : ℕ → ℤ) → IsWithinLimit proof
    → Shows rows goal proof → Meets rows z (pos 1) → pos 0 ≤ℤ form_value goal z (pos 1)
shown-goal rows goal (Empty multipliers) z within shows meets =
    absurd (no_point rows multipliers.items shows z (pos 1)
    (record { denominator = omega (arith, ints); meets = meets }))
shown-goal rows goal (Implied multipliers den) z within shows meets =
    undone den (form_value goal z (pos 1)) (form_value (form_times (pos den) goal) z (pos 1)) within.1
    (form_value-times (pos den) goal z (pos 1))
    (implied rows multipliers.items (form_times (pos den) goal) shows z (pos 1) meets (omega (arith, ints)))
  where
    undone : (n : ℕ) (v w : ℤ) → 1 ≤ n → w ≡ pos n *ℤ v → pos 0 ≤ℤ w → pos 0 ≤ℤ v
    undone n v w l e h =
        le-of-mul_ℤ (pos n) (pos 0) v (let p : pos 0 <ℤ pos n = omega (arith, ints, l) in p)
        (let q : (pos n *ℤ pos 0) ≤ℤ (pos n *ℤ v) = omega (arith, ints, e, h) in q)

module _ (p : Program) (valid : IsValid p) (kept : List LocFact) (known : AreInductive p kept) where
  -- all facts are satisfied where runs begin, since none is about the start symbol
  start-met : (start : List ℤ) (c : Config) → Begins p start c → (f : LocFact) → Contains kept f → IsMetAt f c
  start-met start c begins f member here = absurd (known.not_start f member (sym here ∙ begins.at))

  -- a step from a configuration that satisfies all facts leads to one that does
  step-met : (b c : Config) (s : Step) (step : IsStep p b s c)
      → length b.values ≡ arity_of p b.at → length c.values ≡ arity_of p c.at
      → ((f : LocFact) → Contains kept f → IsMetAt f b) → (f : LocFact) → Contains kept f → IsMetAt f c
  step-met b c s step long long-after met f member here =
      goal-met f (new_values_of step.rule) c z point.new_values (reach f.plus (known.plus f member))
      (reach f.minus (known.minus f member))
      (shown-goal (combined (forms_in (Some step.rule)) kept)
      (row_after (new_values_of step.rule) f) by.proof z by.within
      (subst (λ (r : RuleForms). Shows (combined r kept) (row_after r.new_values f) by.proof)
      (ap forms_in step.numbered) by.shows)
      (record {
        each = All-append (λ r. pos 0 ≤ℤ form_value r z (pos 1)) (rows_of step.rule)
            (map row_before (facts_at step.rule.source kept)) point.point.meets.each rows-met;
      }))
    where
      point : IsPointOfStep step.rule b c (point_of step.rule (b.values ++ s.free))
      point = steps-are-points.each p b c s valid step

      z : ℕ → ℤ
      z = at (point_of step.rule (b.values ++ s.free))

      by : IsShownBy p s.rule kept f
      by = known.shown f member s.rule step.rule step.numbered (sym step.leads.target ∙ here)

      reach : (i : ℕ) → i ≤ arity_of p f.symbol → i ≤ length c.values
      reach i l = let e = long-after ∙ ap (arity_of p) here in omega (arith, l, e)

      rows-met : All (λ r. pos 0 ≤ℤ form_value r z (pos 1)) (map row_before (facts_at step.rule.source kept))
      rows-met =
          facts-all (λ r. pos 0 ≤ℤ form_value r z (pos 1)) step.rule.source kept
          (λ k d l same. one (get_or kept k d) (All-contains_itself kept k d l) same)
        where
          one : (g : LocFact) → Contains kept g → g.symbol ≡ step.rule.source
              → pos 0 ≤ℤ form_value (row_before g) z (pos 1)
          one g is same =
              let at-source : b.at ≡ g.symbol = step.leads.source ∙ sym same in
              let e = long ∙ ap (arity_of p) at-source in
              let l = known.plus g is in
              let m = known.minus g is in
              met-row g b z point.left (omega (arith, l, e)) (omega (arith, m, e)) at-source (met g is)

  -- all facts are satisfied at the end of each run
  run-met : (start : List ℤ) (steps : List Step) (c : Config) → IsRun p start steps c → (f : LocFact)
      → Contains kept f → IsMetAt f c
  run-met start [] c run = start-met start c run
  run-met start (s ∷ earlier) c (b, run, step) =
      step-met b c s step (values p (arities_agree p valid) start earlier b run)
      (values p (arities_agree p valid) start (s ∷ earlier) c (b, run, step))
      (run-met start earlier b run)

  -- facts that hold by induction hold on every run
  pub inductive-hold : All (HoldsAlways p) kept
  inductive-hold k d l = record {
    each = λ start steps c run. run-met start steps c run (get_or kept k d) (All-contains_itself kept k d l);
  }
