-- The problem of a feasibility question, as the builder makes it.
use Rattle.std.proofs.Common.{◌≡◌, ℕ, ◌-◌, ◌<◌, ◌≤◌, ◌^◌, ap, arith, sym, ◌∙◌, subst, List, [], ◌∷◌, length, map}
use Rattle.std.proofs.Common.{replicate}
use Rattle.std.specs.Prelude.{ℤ, negsuc, nat_abs, unsigned_abs, slice_get, Some}
use Rattle.std.specs.List.{All}
use Rattle.std.proofs.lemmas.List.Elements.{All-nil, All-weaker, All-from_recursion}
use Rattle.poly_terms.specs.linear_forms.Forms.{Form}
use Rattle.poly_terms.specs.linear_forms.Combinations.{zero_form}
use Rattle.poly_terms.specs.linear_forms.Certificates.{minus_one}
use Rattle.poly_terms.specs.linear_forms.ProgramLaws.{Agree}
use Rattle.poly_terms.specs.linear_forms.Questions.{Group, program_of_question}
use Rattle.poly_terms.specs.linear_forms.RuleQuestions.{empty_question}
use Rattle.poly_terms.proofs.linear_forms.ColumnLaws.{get_or-map}
use Rattle.poly_terms.proofs.linear_forms.SolutionLaws.{length-map}
use Rattle.poly_terms.specs.model.Limits.{coefficient_limit}
use Rattle.poly_terms.specs.declared.poly.Row.{Row}
use Rattle.poly_terms.specs.Views.{form_of}
use Rattle.cert_types.specs.guard_prep.declared.rule_rows.RuleRows.{RuleRows}
use Rattle.cert_types.specs.guard_prep.Prepared.{Prepared, rows_of, unknowns_of}
use Rattle.cert_types.specs.guard_prep.Laws.{IsSmallForm}
use Rattle.cert_types.specs.guard_prep.Views.{prepared_of}
use Rattle.cert_types.proofs.guard_prep.SizeLaws.{rows-are-small}
use Rattle.lp_builder.specs.simplex_core.declared.problem.Problem.{Problem}
use Rattle.lp_builder.specs.simplex_core.Problem.{program_of}
use Rattle.lp_builder.specs.declared.builder.Builder.{Builder}
use Rattle.lp_builder.specs.declared.description.Goal.{Goal}
use Rattle.lp_builder.specs.Builders.{Holds, IsBuilt}
use Rattle.lp_builder.specs.Descriptions.{group_of, question_of, IsWritable, AreWritable}
use Rattle.rule_questions.specs.EmptyAnswers.{IsPrepared}
use Rattle.rule_questions.specs.ProgramQuestions.{forms_of}
use Rattle.rule_questions.specs.Programs.{IsProblemOf}

-- a property of each form of rows is one of each row
pub rows-all : (P : Form → Type 0) (rows : List Row) → All P (map form_of rows) → All (λ r. P (form_of r)) rows
rows-all P rows h k d l =
    subst P (get_or-map form_of rows k (form_of d) d l)
    (h k (form_of d) (let e = length-map form_of rows in omega (arith, l, e)))

-- small forms can be written
pub small-writable : (n : ℕ) (f : Form) → IsSmallForm n f → IsWritable n f
small-writable n f s = record {
  fits = let e = s.width in omega (arith, e);
  coefs = All-weaker (λ a. nat_abs a ≤ coefficient_limit) (λ a. unsigned_abs a < 2 ^ 127)
      (λ a l. narrow (nat_abs a) l) f.coefs
      (All-from_recursion (λ a. nat_abs a ≤ coefficient_limit) f.coefs s.coefs);
  constant = narrow (nat_abs f.constant) s.constant;
}
  where
    narrow : (n : ℕ) → n ≤ coefficient_limit → n < 2 ^ 127
    narrow n l = omega (arith, l)

-- a group without goals, by its parts
abbrev made : ℕ → ℕ → List Row → List ℤ → ℤ → Group
made u k rs cs z = record {
  unknowns = u;
  rows = map form_of rs;
  goals = replicate (k - 0) zero_form;
  fixed = record { coefs = cs; constant = z };
}

module _ (m : RuleRows) (is : IsPrepared m) where
  unknowns-are : m.unknowns ≡ unknowns_of is.rule
  unknowns-are = ap (λ (q : Prepared). q.unknowns) is.same

  rows-are : map form_of m.rows.items ≡ rows_of is.rule
  rows-are = ap (λ (q : Prepared). q.rows) is.same

  -- prepared rows have at most 96 unknowns
  pub few-unknowns : m.unknowns ≤ 96
  few-unknowns = let e = unknowns-are in let l = rows-are-small.few_unknowns is.rule is.preparable in omega
      (arith, e, l)

  -- at most 128 rows are prepared for a rule
  pub few-rows : length m.rows.items ≤ 128
  few-rows =
      let e = length-map form_of m.rows.items in
      let f = ap (λ (fs : List Form). length fs) rows-are in
      let l = rows-are-small.few_rows is.rule is.preparable in omega (arith, e, f, l)

  -- the rows can be written
  pub rows-writable : All (λ r. IsWritable m.unknowns (form_of r)) m.rows.items
  rows-writable =
      rows-all (IsWritable m.unknowns) m.rows.items
      (subst (λ (fs : List Form). All (IsWritable m.unknowns) fs) (sym rows-are)
      (All-weaker (IsSmallForm (unknowns_of is.rule)) (IsWritable m.unknowns)
      (λ f s. subst (λ (n : ℕ). IsWritable n f) (sym unknowns-are) (small-writable (unknowns_of is.rule) f s))
      (rows_of is.rule)
      (All-from_recursion (IsSmallForm (unknowns_of is.rule)) (rows_of is.rule)
      (rows-are-small.rows is.rule is.preparable))))

  -- the group, which has no goals, can be written
  pub group-writable : (n : ℕ) (rows : List Row) (fixed : Row) → rows ≡ m.rows.items → fixed.coefs.items ≡ []
      → fixed.constant ≡ negsuc 0
      → AreWritable n m.unknowns rows [] fixed
  group-writable n rows fixed e f g = record {
    listed = record { below = λ k h i. absurd (nowhere k h i); ascending = λ k l h j o i. absurd (nowhere k h i) };
    each_row = subst (λ (rs : List Row). All (λ r. IsWritable m.unknowns (form_of r)) rs) (sym e) rows-writable;
    each_goal = All-nil (λ (h : Goal). IsWritable m.unknowns (form_of h.form));
    fixed_form = record {
      fits = subst (λ (xs : List ℤ). length xs ≤ m.unknowns) (sym f) (let l : 0 ≤ m.unknowns = omega arith in l);
      coefs = subst (λ (xs : List ℤ). All (λ a. unsigned_abs a < 2 ^ 127) xs) (sym f)
          (All-nil (λ (a : ℤ). unsigned_abs a < 2 ^ 127));
      constant = subst (λ (z : ℤ). unsigned_abs z < 2 ^ 127) (sym g) (let l : 1 < 2 ^ 127 = omega arith in l);
    };
  }
    where
      nowhere : (k : ℕ) (h : Goal) → slice_get [] k ≡ Some h → ⊥
      nowhere k h i = cc

  -- The linear program that the builder makes is that of the question.
  pub problem-built : (n : ℕ) (rows : List Row) (fixed : Row) (b : Builder) (p : Problem) → n ≡ 0 → rows ≡ m.rows.items
      → fixed.coefs.items ≡ [] → fixed.constant ≡ negsuc 0 → Holds b (group_of n m.unknowns rows [] fixed ∷ [])
      → IsBuilt b [] p
      → IsProblemOf (empty_question (forms_of 0 0 (prepared_of m))) p
  problem-built n rows fixed b p e f g h holds built = record {
    proper = built.proper (group_of n m.unknowns rows [] fixed ∷ []) holds;
    agrees = subst (λ (gs : List Group). Agree (program_of p) (program_of_question (question_of [] gs)))
        (ap (λ (x : Group). x ∷ []) group-is) (built.agrees (group_of n m.unknowns rows [] fixed ∷ []) holds);
  }
    where
      group-is : group_of n m.unknowns rows [] fixed
          ≡ record { unknowns = m.unknowns; rows = map form_of m.rows.items; goals = []; fixed = minus_one }
      group-is =
          ap (λ (k : ℕ). made m.unknowns k rows fixed.coefs.items fixed.constant) e
          ∙ (ap (λ (rs : List Row). made m.unknowns 0 rs fixed.coefs.items fixed.constant) f
          ∙ (ap (λ (cs : List ℤ). made m.unknowns 0 m.rows.items cs fixed.constant) g
          ∙ ap (λ (z : ℤ). made m.unknowns 0 m.rows.items [] z) h))
