-- The problem of a kind's question, as the builder makes it.
use Rattle.std.proofs.Common.{◌≡◌, ℕ, ◌+◌, ◌≤◌, refl, sym, ap, ◌∙◌, subst, arith, nat_eq}
use Rattle.std.proofs.Common.{if◌then◌else◌, List, [], ◌∷◌, ◌++◌, length, map, length-append}
use Rattle.std.specs.List.{All, range_with_len}
use Rattle.std.proofs.lemmas.List.FromFn.{length-range_with_len}
use Rattle.std.proofs.lemmas.List.Elements.{All-append, All-cons, All-nil, All-head, All-weaker}
use Rattle.simplex_core.specs.linear_forms.Forms.{Form}
use Rattle.simplex_core.specs.linear_forms.Combinations.{form_sum}
use Rattle.simplex_core.specs.linear_forms.ProgramLaws.{Agree}
use Rattle.simplex_core.specs.linear_forms.Questions.{Question, IsShaped, IsGroupShaped, program_of_question}
use Rattle.simplex_core.specs.linear_forms.RuleQuestions.{RuleForms, before_rule, opposite, local_question}
use Rattle.simplex_core.proofs.linear_forms.SolutionLaws.{length-map}
use Rattle.cert_types.specs.rule_forms.Kinds as plain
use Rattle.cert_types.specs.rule_forms.Kinds.{Number, Argument, Affine}
use Rattle.cert_types.specs.rule_forms.Questions as kinds
use Rattle.cert_types.specs.rule_forms.Questions.{IsKindOf}
use Rattle.cert_types.specs.rule_forms.SoughtParts.{sought_places, fixed_part}
use Rattle.cert_types.proofs.rule_forms.Shapes.{places-within, argument_length, question-shaped}
use Rattle.poly_terms.specs.declared.poly.Row.{Row}
use Rattle.poly_terms.specs.Views.{form_of}
use Rattle.guard_prep.specs.declared.rule_rows.RuleRows.{RuleRows}
use Rattle.guard_prep.specs.Views.{prepared_of}
use Rattle.simplex_core.specs.declared.problem.Problem.{Problem}
use Rattle.simplex_core.specs.Problem.{program_of}
use Rattle.lp_builder.specs.declared.builder.Builder.{Builder}
use Rattle.lp_builder.specs.declared.description.Cost.{Cost}
use Rattle.lp_builder.specs.declared.description.Goal.{Goal}
use Rattle.lp_builder.specs.Builders.{Holds, IsBuilt}
use Rattle.lp_builder.specs.Descriptions.{goal_forms, group_of, question_of, IsWritable, AreWritable, AreParameters}
use Rattle.rule_questions.specs.EmptyAnswers.{IsPrepared}
use Rattle.rule_questions.specs.SmallForms.{IsDifferenceSmall}
use Rattle.rule_questions.specs.Programs.{IsProblemOf}
use Rattle.rule_questions.proofs.EmptyProblems.{rows-writable}
use Rattle.rule_questions.proofs.Sums.{difference-writable, small-difference}
use Rattle.local_size.specs.Asking.{IsValue, AreWritableWithin}
use Rattle.local_size.specs.Places.{local_forms}
use Rattle.local_size.proofs.QuestionRows.{argument-small}
use Rattle.local_size.proofs.Values.{left-fits, asked-fits}

-- a kind's question is the one for its places and its fixed part
pub question-is : (r : RuleForms) (w : Form) (kind : plain.Kind) → kinds.question_of r w kind
    ≡ local_question r w (sought_places r.left kind) (fixed_part kind)
question-is r w Number = refl
question-is r w (Argument place sign) = refl
question-is r w Affine = refl

-- an argument can be written if its place is among the unknowns
pub argument-writable : (n place : ℕ) → place ≤ n → IsWritable n (before_rule place)
argument-writable n place l =
    difference-writable n (before_rule place) (argument_length place n n l (omega arith))
    (small-difference (before_rule place) (argument-small place))

-- there are few places whose coefficients are to be found
pub sought-affine : (left : ℕ) → length (sought_places left Affine) ≡ left + 1
sought-affine left =
    length-append (range_with_len 1 left) (0 ∷ [])
    ∙ ap (λ (n : ℕ). n + 1) (length-range_with_len 1 left)

-- at most 97 places have coefficients to be found, if there are at most 96 left arguments
pub sought-few : (left : ℕ) (kind : plain.Kind) → left ≤ 96 → length (sought_places left kind) ≤ 97
sought-few left Number l = omega arith
sought-few left (Argument place sign) l = omega arith
sought-few left Affine l = let e = sought-affine left in omega (arith, l, e)

-- the goals of places that are left arguments can be written
pub goals-pushed : (places : List ℕ) (goals new : List Goal) (x : Goal) (place : ℕ) → AreWritableWithin places goals
    → new ≡ goals ++ x ∷ [] → form_of x.form ≡ before_rule place → ((n : ℕ) → All (λ i. i ≤ n) places → place ≤ n)
    → AreWritableWithin places new
goals-pushed places goals new x place h e f within = record {
  each = λ n all. subst (All (λ (g : Goal). IsWritable n (form_of g.form))) (sym e)
      (All-append (λ (g : Goal). IsWritable n (form_of g.form)) goals (x ∷ []) (h.each n all)
      (All-cons (λ (g : Goal). IsWritable n (form_of g.form)) x []
      (subst (IsWritable n) (sym f) (argument-writable n place (within n all)))
      (All-nil (λ (g : Goal). IsWritable n (form_of g.form)))));
}

module _ (m : RuleRows) (is : IsPrepared m) (w : Form) (v : IsValue m w) (kind : plain.Kind)
    (k : IsKindOf m.left kind) where
  abbrev asked : Question
  asked = local_question (local_forms (prepared_of m)) w (sought_places m.left kind) (fixed_part kind)

  group-shaped : IsGroupShaped (length (sought_places m.left kind))
      (record {
        unknowns = m.unknowns;
        rows = map form_of m.rows.items;
        goals = map before_rule (sought_places m.left kind);
        fixed = form_sum (fixed_part kind) (opposite w);
      })
  group-shaped =
      All-head (IsGroupShaped (length (sought_places m.left kind))) _ []
      (subst IsShaped (question-is (local_forms (prepared_of m)) w kind)
      (question-shaped (local_forms (prepared_of m)) w kind (asked-fits m is w v) k)).groups_are

  -- the parts of the group can be written
  pub group-writable : (n : ℕ) (places : List ℕ) (rows : List Row) (goals gs : List Goal) (rest : Row)
      → places ≡ sought_places m.left kind → n ≡ length places → rows ≡ m.rows.items → goals ≡ gs
      → AreParameters (length places) gs → AreWritableWithin places gs
      → form_of rest ≡ form_sum (fixed_part kind) (opposite w) → IsDifferenceSmall (form_of rest)
      → AreWritable n m.unknowns rows goals rest
  group-writable n places rows goals gs rest p e f g listed writable h small = record {
    listed = subst (λ (k : ℕ). AreParameters k goals) (sym e)
        (subst (λ (xs : List Goal). AreParameters (length places) xs) (sym g) listed);
    each_row = subst (λ (rs : List Row). All (λ r. IsWritable m.unknowns (form_of r)) rs) (sym f) (rows-writable m is);
    each_goal = subst (λ (xs : List Goal). All (λ g. IsWritable m.unknowns (form_of g.form)) xs) (sym g)
        (writable.each m.unknowns (subst (All (λ i. i ≤ m.unknowns)) (sym p) within));
    fixed_form = difference-writable m.unknowns (form_of rest)
        (subst (λ (f : Form). length f.coefs ≤ m.unknowns) (sym h) group-shaped.fixed_fits) small;
  }
    where
      within : All (λ i. i ≤ m.unknowns) (sought_places m.left kind)
      within =
          All-weaker (λ i. i ≤ m.left) (λ i. i ≤ m.unknowns)
          (λ i l. let h = left-fits m is in omega (arith, l, h)) (sought_places m.left kind) (places-within m.left kind)

  -- the builder's problem is that of the kind's question
  pub problem-built : (n : ℕ) (places : List ℕ) (rows : List Row) (goals gs : List Goal) (rest : Row)
      (costs cs : List Cost) (b : Builder) (p : Problem)
      → places ≡ sought_places m.left kind → n ≡ length places → rows ≡ m.rows.items → goals ≡ gs
      → goal_forms 0 (length places) gs ≡ map before_rule places
      → form_of rest ≡ form_sum (fixed_part kind) (opposite w)
      → costs ≡ cs → map (λ c. c.size) cs ≡ map (λ i. if nat_eq i 0 then 0 else 1) places
      → map (λ c. c.height) cs ≡ map (λ i. if nat_eq i 0 then 1 else 0) places
      → Holds b (group_of n m.unknowns rows goals rest ∷ []) → IsBuilt b costs p
      → IsProblemOf (kinds.question_of (local_forms (prepared_of m)) w kind) p
  problem-built n places rows goals gs rest costs cs b p e f g h i j q sizes heights holds built = record {
    proper = built.proper (group_of n m.unknowns rows goals rest ∷ []) holds;
    agrees = subst (λ (x : Question). Agree (program_of p) (program_of_question x)) all
        (built.agrees (group_of n m.unknowns rows goals rest ∷ []) holds);
  }
    where
      many : length cs ≡ length places
      many = sym (length-map (λ (c : Cost). c.size) cs)
          ∙ (ap (λ (ns : List ℕ). length ns) sizes ∙ length-map (λ i. if nat_eq i 0 then 0 else 1) places)

      made : ℕ → List ℕ → List ℕ → List Row → List Form → Form → Question
      made count ss hs rs gs z = record {
        parameters = count;
        sizes = ss;
        heights = hs;
        groups = record { unknowns = m.unknowns; rows = map form_of rs; goals = gs; fixed = z } ∷ [];
      }

      all : question_of costs (group_of n m.unknowns rows goals rest ∷ [])
          ≡ kinds.question_of (local_forms (prepared_of m)) w kind
      all =
          ap (λ (xs : List Cost). question_of xs (group_of n m.unknowns rows goals rest ∷ [])) q
          ∙ (ap (λ (xs : List Goal). question_of cs (group_of n m.unknowns rows xs rest ∷ [])) h
          ∙ (ap (λ (count : ℕ). question_of cs (group_of count m.unknowns rows gs rest ∷ [])) f
          ∙ (ap (λ (count : ℕ). made count (map (λ (c : Cost). c.size) cs) (map (λ (c : Cost). c.height) cs) rows
          (goal_forms 0 (length places) gs) (form_of rest)) many
          ∙ (ap (λ (ss : List ℕ). made (length places) ss (map (λ (c : Cost). c.height) cs) rows
          (goal_forms 0 (length places) gs) (form_of rest)) sizes
          ∙ (ap (λ (hs : List ℕ). made (length places) (map (λ i. if nat_eq i 0 then 0 else 1) places) hs rows
          (goal_forms 0 (length places) gs) (form_of rest)) heights
          ∙ (ap (λ (rs : List Row). made (length places) (map (λ i. if nat_eq i 0 then 0 else 1) places)
          (map (λ i. if nat_eq i 0 then 1 else 0) places) rs (goal_forms 0 (length places) gs) (form_of rest)) g
          ∙ (ap (λ (fs : List Form). made (length places) (map (λ i. if nat_eq i 0 then 0 else 1) places)
          (map (λ i. if nat_eq i 0 then 1 else 0) places) m.rows.items fs (form_of rest)) i
          ∙ (ap (λ (z : Form). made (length places) (map (λ i. if nat_eq i 0 then 0 else 1) places)
          (map (λ i. if nat_eq i 0 then 1 else 0) places) m.rows.items (map before_rule places) z) j
          ∙ (ap (λ (ps : List ℕ). local_question (local_forms (prepared_of m)) w ps (fixed_part kind)) e
          ∙ sym (question-is (local_forms (prepared_of m)) w kind))))))))))
