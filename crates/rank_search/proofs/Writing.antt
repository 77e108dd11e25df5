-- Writing the groups of a set one by one.
use Rattle.std.proofs.Common.{◌≡◌, ℕ, ◌+◌, ◌*◌, ◌<◌, ◌≤◌, sym, ap, ◌∙◌, subst, arith, List, [], ◌∷◌, ◌++◌, length, map}
use Rattle.std.proofs.Common.{get_or, take, Option}
use Rattle.std.proofs.lemmas.List.{map-append, take_more, take_all}
use Rattle.simplex_core.specs.linear_forms.RuleQuestions.{RuleForms, Coefficient}
use Rattle.poly_terms.specs.model.Programs.{Program, Rule, rule_at}
use Rattle.its_model.specs.Valid.{IsValid}
use Rattle.guard_prep.proofs.SizeLaws.{rows-are-small}
use Rattle.guard_prep.proofs.StepLaws.{preparable}
use Rattle.lp_builder.specs.declared.builder.Builder.{Builder}
use Rattle.lp_builder.specs.Builders.{parameter_count, row_count, column_count, AtRowStart, Holds, Adds}
use Rattle.cert_types.specs.cert_rules.AcceptsPlain.{IsRule}
use Rattle.rule_questions.specs.ProgramQuestions.{forms_in}
use Rattle.rank_search.proofs.RankProblems.{set_group}

-- a rule has at most 96 unknowns and 128 rows
record IsFew (r : RuleForms) : Type 0 where
  pub unknowns : r.unknowns ≤ 96
  pub rows : length r.rows ≤ 128

few : (p : Program) (t : ℕ) → IsValid p → IsRule p t → IsFew (forms_in (rule_at p t))
few p t v i =
    let h = preparable p t i.rule v i.numbered in
    subst (λ (o : Option Rule). IsFew (forms_in o)) (sym i.numbered)
    (record { unknowns = rows-are-small.few_unknowns i.rule h; rows = rows-are-small.few_rows i.rule h })

-- the groups of the first i rules are written
pub record Written (p : Program) (strict : ℕ) (cs : List Coefficient) (n : ℕ) (set : List ℕ) (i : ℕ)
    (b : Builder) : Type 0 where
  pub ready : AtRowStart b
  pub holds : Holds b (map (set_group p strict cs) (take i set))
  pub parameters : parameter_count b ≡ n
  pub rows : row_count b ≤ 97 * i
  pub columns : column_count b ≤ 2 * n + 129 * i

module _ (p : Program) (strict : ℕ) (cs : List Coefficient) (n : ℕ) (set : List ℕ) where
  -- in a builder that has only its parameters, the groups of no rule are written
  pub written-none : (b : Builder) → AtRowStart b → Holds b [] → parameter_count b ≡ n → row_count b ≡ 0
      → column_count b
      ≡ 2 * n
      → Written p strict cs n set 0 b
  written-none b ready holds parameters rows columns = record {
    ready = ready;
    holds = holds;
    parameters = parameters;
    rows = omega (arith, rows);
    columns = omega (arith, columns);
  }

  -- after the group of the next rule is added, the groups of one more rule are written
  pub written-more : (i t : ℕ) (old new : Builder) → IsValid p → IsRule p t → i < length set → t ≡ get_or set i t
      → Written p strict cs n set i old → Adds old new (set_group p strict cs t) → Written p strict cs n set (i + 1) new
  unfolding set_group
  written-more i t old new v r l is w a = record {
    ready = a.ready;
    holds = subst (Holds new) more (a.holds _ w.holds);
    parameters = a.parameters ∙ w.parameters;
    rows = let e = a.rows in let k = w.rows in let u = (few p t v r).unknowns in omega (arith, e, k, u);
    columns = let e = a.columns in let k = w.columns in let u = (few p t v r).rows in omega (arith, e, k, u);
  }
    where
      more : map (set_group p strict cs) (take i set) ++ set_group p strict cs t ∷ [] ≡ map (set_group p strict cs)
          (take (i + 1) set)
      more =
          sym (map-append (set_group p strict cs) (take i set) (t ∷ []))
          ∙ ap (map (set_group p strict cs)) (ap (λ (x : ℕ). take i set ++ x ∷ []) is ∙ sym (take_more set i t l))

  -- if no rule is left, the groups of the whole set are written
  pub written-all : (i : ℕ) (b : Builder) → length set ≤ i → Written p strict cs n set i b → Holds b
      (map (set_group p strict cs) set)
  written-all i b l w = subst (λ (xs : List ℕ). Holds b (map (set_group p strict cs) xs)) (take_all i set l) w.holds
