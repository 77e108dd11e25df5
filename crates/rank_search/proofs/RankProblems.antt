-- The problem of a rank question: its groups and its costs.
use Rattle.std.proofs.Common.{◌≡◌, ℕ, suc, ◌+◌, ◌-◌, ◌<◌, ◌≤◌, ◌^◌, refl, sym, ap, ◌∙◌, subst, arith, Bool, true}
use Rattle.std.proofs.Common.{false, nat_eq, if◌then◌else◌, List, [], ◌∷◌, ◌++◌, length, map, get_or, Some}
use Rattle.std.specs.Prelude.{ℤ, slice_index_or, unsigned_abs}
use Rattle.std.specs.List.{All, range_with_len}
use Rattle.std.proofs.lemmas.List.Elements.{All-nil, All-weaker, All-head}
use Rattle.simplex_core.specs.linear_forms.Forms.{Form}
use Rattle.simplex_core.specs.linear_forms.Certificates.{minus_one}
use Rattle.simplex_core.specs.linear_forms.Combinations.{zero_form}
use Rattle.simplex_core.specs.linear_forms.ProgramLaws.{Agree}
use Rattle.simplex_core.specs.linear_forms.Questions.{Group, Question, IsGroupShaped, program_of_question}
use Rattle.simplex_core.specs.linear_forms.RuleQuestions.{RuleForms, RankedSet, Coefficient, symbols_of_set}
use Rattle.simplex_core.specs.linear_forms.RuleQuestions.{coefficients}
use Rattle.simplex_core.specs.linear_forms.RuleQuestions.{move_group, floor_group, size_at, height_at, rank_question}
use Rattle.simplex_core.proofs.linear_forms.ColumnLaws.{get_or-map}
use Rattle.simplex_core.proofs.linear_forms.ListLaws.{All-front, All-behind}
use Rattle.simplex_core.proofs.linear_forms.SolutionLaws.{length-map}
use Rattle.cert_types.proofs.rule_forms.RankSolutions.{rank-shaped}
use Rattle.poly_terms.specs.model.Programs as plain
use Rattle.poly_terms.specs.model.Programs.{rule_at}
use Rattle.poly_terms.specs.declared.poly.Row.{Row}
use Rattle.poly_terms.specs.Views.{form_of}
use Rattle.its_model.specs.declared.program.Program.{Program}
use Rattle.its_model.specs.declared.program.Rule.{Rule}
use Rattle.its_model.specs.Valid.{IsValid}
use Rattle.its_model.specs.Views.{program_of, rule_of}
use Rattle.guard_prep.specs.declared.rule_rows.RuleRows.{RuleRows}
use Rattle.guard_prep.specs.Prepared.{Prepared, prepared}
use Rattle.guard_prep.specs.Views.{prepared_of}
use Rattle.guard_prep.proofs.StepLaws.{preparable}
use Rattle.simplex_core.specs.declared.problem.Problem.{Problem}
use Rattle.simplex_core.specs.Problem.{program_of as program_of_problem}
use Rattle.lp_builder.specs.declared.builder.Builder.{Builder}
use Rattle.lp_builder.specs.declared.description.Cost.{Cost}
use Rattle.lp_builder.specs.declared.description.Goal.{Goal}
use Rattle.lp_builder.specs.Builders.{Holds, IsBuilt}
use Rattle.lp_builder.specs.Descriptions.{goal_forms, group_of, question_of, IsWritable, AreWritable, AreParameters}
use Rattle.cert_types.specs.cert_rules.AcceptsPlain.{IsRule}
use Rattle.cert_types.specs.cert_rules.Gaps.{SymbolPlace}
use Rattle.cert_types.specs.Composing.{AreRowsOf}
use Rattle.rank_search.specs.declared.coefficients.Coefficient.{Coefficient as Sought}
use Rattle.rank_search.specs.declared.goals.Part.{Part}
use Rattle.rank_search.specs.declared.goals.Part.TheVariants.{Move, Fall, Floor}
use Rattle.rank_search.specs.Coefficients.{coefficient_of}
use Rattle.rule_questions.specs.EmptyAnswers.{IsPrepared}
use Rattle.rank_search.specs.Goals.{goal_form, fixed_form, part_group, part_for, Fits}
use Rattle.rule_questions.specs.ProgramQuestions.{forms_of, forms_in, ranked_set, is_entered}
use Rattle.rule_questions.specs.Programs.{IsProblemOf}
use Rattle.rank_search.specs.RankAnswers.{IsRuleSet}
use Rattle.cert_types.proofs.Rules.{rule_here}
use Rattle.rank_search.proofs.Counts.{rule-inside, coefficients-held, value-at}
use Rattle.rule_questions.proofs.EmptyProblems.{rows-writable}
use Rattle.rank_search.proofs.RankSets.{set-of}

-- there are rows for each rule
pub rows-long : (p : Program) (prepared_rules : List RuleRows) → AreRowsOf prepared_rules (program_of p)
    → length prepared_rules
    ≡ length p.rules.items
rows-long p prepared_rules rows =
    sym (length-map prepared_of prepared_rules)
    ∙ (ap (λ (qs : List Prepared). length qs) rows
    ∙ (length-map prepared (map rule_of p.rules.items) ∙ length-map rule_of p.rules.items))

rows-read : (p : Program) (prepared_rules : List RuleRows) (k : ℕ) (r : Rule) (m : RuleRows)
    → AreRowsOf prepared_rules (program_of p)
    → k < length p.rules.items → r ≡ get_or p.rules.items k r → m ≡ get_or prepared_rules k m → prepared_of m ≡ prepared
    (rule_of r)
rows-read p prepared_rules k r m rows l e f =
    ap prepared_of f
    ∙ (sym (get_or-map prepared_of prepared_rules k (prepared_of m) m
    (omega (arith, l, rows-long p prepared_rules rows)))
    ∙ (ap (λ (qs : List Prepared). get_or qs k (prepared_of m)) rows
    ∙ (get_or-map prepared (map rule_of p.rules.items) k (prepared_of m) (rule_of r)
    (omega (arith, l, length-map rule_of p.rules.items))
    ∙ ap prepared (get_or-map rule_of p.rules.items k (rule_of r) r l ∙ ap rule_of (sym e)))))

module _ (p : Program) (prepared_rules : List RuleRows) (valid : IsValid (program_of p))
    (rows : AreRowsOf prepared_rules (program_of p)) where
  -- a rule of the program exists, and so do its rows
  pub rule-room : (t : ℕ) → IsRule (program_of p) t → (0 < t) × (t ≤ length p.rules.items)
  rule-room t i = let h = rule-inside (program_of p) t i in
      (h.0, let l = h.1 in omega (arith, l, length-map rule_of p.rules.items))

  module _ (t : ℕ) (i : IsRule (program_of p) t) (r : Rule) (m : RuleRows) (is : r ≡ get_or p.rules.items (t - 1) r)
      (has : m ≡ get_or prepared_rules (t - 1) m) where
    numbered : rule_at (program_of p) t ≡ Some (rule_of r)
    numbered = rule_here p t r (rule-room t i).0 (rule-room t i).1 is

    same : prepared_of m ≡ prepared (rule_of r)
    same = rows-read p prepared_rules (t - 1) r m rows (let h = rule-room t i in omega (arith, h.0, h.1)) is has

    -- the forms of a rule that questions use
    pub forms-are : forms_in (rule_at (program_of p) t) ≡ forms_of r.source r.target (prepared_of m)
    forms-are = ap forms_in numbered ∙ ap (λ (q : Prepared). forms_of r.source r.target q) (sym same)

    pub is-prepared : IsPrepared m
    is-prepared = record {
      rule = rule_of r;
      preparable = preparable (program_of p) t
          (rule_of r) valid numbered;
      same = same;
    }

map-map : {A B C : Type 0} (f : A → B) (g : B → C) (xs : List A) → map (λ x. g (f x)) xs ≡ map g (map f xs)
map-map f g [] = refl
map-map {A} {B} {C} f g (x ∷ xs) = ap (λ (ys : List C). g (f x) ∷ ys) (map-map f g xs)

-- the group that is added is the one that the rule needs
pub group-is : (part : Part) (source target : ℕ) (m : RuleRows) (coefs : List Sought) (rows : List Row)
    (goals : List Goal) (fixed : Row) (n : ℕ)
    → n ≡ length coefs → rows ≡ m.rows.items
    → goal_forms 0 (length coefs) goals ≡ map
    (λ c. goal_form part (forms_of source target (prepared_of m)) (coefficient_of c)) coefs
    → form_of fixed ≡ fixed_form part
    → group_of n m.unknowns rows goals fixed ≡ part_group part (forms_of source target (prepared_of m))
    (map coefficient_of coefs)
group-is part source target m coefs rows goals fixed n long e g f =
    ap (λ (k : ℕ). group_of k m.unknowns rows goals fixed) long
    ∙ (ap (λ (rs : List Row). group_of (length coefs) m.unknowns rs goals fixed) e
    ∙ (ap (λ (gs : List Form). made gs (form_of fixed))
    (g ∙ map-map coefficient_of (goal_form part (forms_of source target (prepared_of m))) coefs)
    ∙ ap (λ (z : Form). made
    (map (goal_form part (forms_of source target (prepared_of m))) (map coefficient_of coefs)) z) f))
  where
    made : List Form → Form → Group
    made gs z = record { unknowns = m.unknowns; rows = map form_of m.rows.items; goals = gs; fixed = z }

-- the group of a rule of the set; that of the floor
unfoldable pub set_group : plain.Program → ℕ → List Coefficient → ℕ → Group
set_group p strict cs t = part_group (part_for (nat_eq t strict)) (forms_in (rule_at p t)) cs

-- the group of a rule, depending on whether it has to decrease, is its group of the set
pub set_group-is : (p : plain.Program) (strict : ℕ) (cs : List Coefficient) (t : ℕ) (part : Part) → part ≡ part_for
    (nat_eq t strict)
    → part_group part (forms_in (rule_at p t)) cs ≡ set_group p strict cs t
unfolding set_group
set_group-is p strict cs t part e = ap (λ (x : Part). part_group x (forms_in (rule_at p t)) cs) e

module _ (p : plain.Program) (set : List ℕ) (strict : ℕ) (shut : List SymbolPlace) where
  abbrev b : RankedSet
  b = ranked_set p set strict shut

  move-is : (cs : List Coefficient) (t : ℕ) → set_group p strict cs t ≡ move_group b cs t
  unfolding set_group
  move-is cs t = go (nat_eq t strict)
    where
      go : (v : Bool) → part_group (part_for v) (forms_in (rule_at p t)) cs
          ≡ record {
            unknowns = (b.rule t).unknowns;
            rows = (b.rule t).rows;
            goals =
                (move_group b cs t).goals;
            fixed = if v then minus_one else zero_form;
          }
      go true = refl
      go false = refl

  groups-are : (cs : List Coefficient) (ts : List ℕ) → map (set_group p strict cs) ts ≡ map (move_group b cs) ts
  groups-are cs [] = refl
  groups-are cs (t ∷ ts) =
      ap (λ (g : Group). g ∷ map (set_group p strict cs) ts) (move-is cs t) ∙ ap
      (λ (gs : List Group). move_group b cs t ∷ gs) (groups-are cs ts)

  -- the goals of the set's rules have no coefficient past the unknowns
  module _ (valid : IsValid p) (rules : IsRuleSet p set strict) where
    all-shaped : All (IsGroupShaped (length (coefficients b (symbols_of_set b))))
        (map (move_group b (coefficients b (symbols_of_set b))) set ++ floor_group b
        (coefficients b (symbols_of_set b)) ∷ [])
    all-shaped = (rank-shaped b (set-of p set strict shut valid rules)).groups_are

    unmapped : (f : Coefficient → Form) (n : ℕ) (cs : List Coefficient) → All (λ g. length g.coefs ≤ n) (map f cs) → All
        (λ c. length (f c).coefs ≤ n) cs
    unmapped f n cs h k d l =
        subst (λ (g : Form). length g.coefs ≤ n) (get_or-map f cs k (f d) d l)
        (h k (f d) (let e = length-map f cs in omega (arith, l, e)))

    pub move-fits : (cs : List Coefficient) (i t : ℕ) → cs ≡ coefficients b (symbols_of_set b) → i < length set → t
        ≡ get_or set i t
        → Fits (part_for (nat_eq t strict)) (forms_in (rule_at p t)) cs
    move-fits cs i t e l is =
        subst (λ (xs : List Coefficient). Fits (part_for (nat_eq t strict)) (forms_in (rule_at p t)) xs) (sym e)
        (go (nat_eq t strict))
      where
        here : IsGroupShaped (length (coefficients b (symbols_of_set b)))
            (move_group b (coefficients b (symbols_of_set b)) t)
        here =
            subst (IsGroupShaped (length (coefficients b (symbols_of_set b))))
            (get_or-map (move_group b (coefficients b (symbols_of_set b))) set i
            (move_group b (coefficients b (symbols_of_set b)) t) t l ∙ ap
            (move_group b (coefficients b (symbols_of_set b))) (sym is))
            (All-front (IsGroupShaped (length (coefficients b (symbols_of_set b))))
            (map (move_group b (coefficients b (symbols_of_set b))) set)
            (floor_group b (coefficients b (symbols_of_set b)) ∷ []) all-shaped
            i (move_group b (coefficients b (symbols_of_set b)) t)
            (let m = length-map (move_group b (coefficients b (symbols_of_set b))) set in omega (arith, l, m)))

        go : (v : Bool) → Fits (part_for v) (forms_in (rule_at p t)) (coefficients b (symbols_of_set b))
        go true = record {
          each = unmapped (goal_form Fall (forms_in (rule_at p t))) (forms_in (rule_at p t)).unknowns
              (coefficients b (symbols_of_set b)) here.goals_fit;
        }
        go false = record {
          each = unmapped (goal_form Move (forms_in (rule_at p t))) (forms_in (rule_at p t)).unknowns
              (coefficients b (symbols_of_set b)) here.goals_fit;
        }

    pub floor-fits : (cs : List Coefficient) → cs ≡ coefficients b (symbols_of_set b) → Fits Floor
        (forms_in (rule_at p strict)) cs
    floor-fits cs e =
        subst (λ (xs : List Coefficient). Fits Floor (forms_in (rule_at p strict)) xs) (sym e)
        (record {
          each = unmapped (goal_form Floor (forms_in (rule_at p strict))) (forms_in (rule_at p strict)).unknowns
              (coefficients b (symbols_of_set b))
              (All-head (IsGroupShaped (length (coefficients b (symbols_of_set b))))
              (floor_group b (coefficients b (symbols_of_set b))) []
              (All-behind (IsGroupShaped (length (coefficients b (symbols_of_set b))))
              (map (move_group b (coefficients b (symbols_of_set b))) set)
              (floor_group b (coefficients b (symbols_of_set b)) ∷ []) all-shaped)).goals_fit;
        })

  -- two functions that agree on the coefficients map them alike
  map-agree : {A : Type 0} (f g : Coefficient → A) (cs : List Coefficient) → All (λ c. f c ≡ g c) cs → map f cs
      ≡ map g cs
  map-agree f g [] h = refl
  map-agree {A} f g (c ∷ cs) h =
      ap (λ (a : A). a ∷ map f cs) (All-head (λ x. f x ≡ g x) c cs h)
      ∙ ap (λ (xs : List A). g c ∷ xs) (map-agree f g cs (λ k d l. h (suc k) d (omega (arith, l))))

  marked : (marks : List Bool) → marks ≡ map (is_entered p set) (range_with_len 0 (length p.symbols))
      → All (λ c. slice_index_or marks c.symbol false ≡ is_entered p set c.symbol) (coefficients b (symbols_of_set b))
  marked marks e =
      coefficients-held (λ s. slice_index_or marks s false ≡ is_entered p set s) b
      (λ s l. ap (λ (ms : List Bool). slice_index_or ms s false) e
      ∙ (value-at (is_entered p set) 0 (length p.symbols) s false l ∙ ap (is_entered p set)
      (let z : 0 + s ≡ s = omega arith in z)))

  -- the costs are those of the question
  pub costs-are : (marks : List Bool) (coefs : List Sought) (costs : List ℕ) (on other : ℕ)
      → marks ≡ map (is_entered p set) (range_with_len 0 (length p.symbols)) → map coefficient_of coefs ≡ coefficients b
      (symbols_of_set b)
      → costs ≡ map (λ c. if slice_index_or marks c.symbol false then
      (if nat_eq c.place 0 then on else other) else 0) coefs
      → costs ≡ map (λ c. if is_entered p set c.symbol then (if nat_eq c.place 0 then on else other) else 0)
      (coefficients b (symbols_of_set b))
  costs-are marks coefs costs on other e f g =
      g ∙ (map-map coefficient_of
      (λ c. if slice_index_or marks c.symbol false then (if nat_eq c.place 0 then on else other) else 0) coefs
      ∙ (ap (map (λ c. if slice_index_or marks c.symbol false then (if nat_eq c.place 0 then on else other) else 0)) f
      ∙ map-agree (λ c. if slice_index_or marks c.symbol false then (if nat_eq c.place 0 then on else other) else 0)
      (λ c. if is_entered p set c.symbol then (if nat_eq c.place 0 then on else other) else 0)
      (coefficients b (symbols_of_set b))
      (All-weaker (λ c. slice_index_or marks c.symbol false ≡ is_entered p set c.symbol) _
      (λ c h. ap (λ (v : Bool). if v then (if nat_eq c.place 0 then on else other) else 0) h)
      (coefficients b (symbols_of_set b)) (marked marks e))))

  -- The linear program that the builder makes is that of the question.
  pub problem-built : (coefs : List Sought) (costs : List Cost) (builder : Builder) (problem : Problem)
      → map coefficient_of coefs ≡ coefficients b (symbols_of_set b) → map (λ c. c.size) costs ≡ map (size_at b)
      (coefficients b (symbols_of_set b))
      → map (λ c. c.height) costs ≡ map (height_at b) (coefficients b (symbols_of_set b))
      → Holds builder (map (set_group p strict (map coefficient_of coefs)) set ++ part_group Floor
      (forms_in (rule_at p strict)) (map coefficient_of coefs) ∷ [])
      → IsBuilt builder costs problem → IsProblemOf (rank_question b) problem
  problem-built coefs costs builder problem e sizes heights holds built = record {
    proper = built.proper _ holds;
    agrees = subst (λ (q : Question). Agree (program_of_problem problem) (program_of_question q)) question-is
        (built.agrees _ holds);
  }
    where
      cs : List Coefficient
      cs = coefficients b (symbols_of_set b)

      long : length costs ≡ length cs
      long =
          sym (length-map (λ (c : Cost). c.size) costs)
          ∙ (ap (λ (ns : List ℕ). length ns) sizes ∙ length-map (size_at b) (coefficients b (symbols_of_set b)))

      made : ℕ → List ℕ → List ℕ → List Group → Question
      made n ss hs gs = record { parameters = n; sizes = ss; heights = hs; groups = gs }

      built-groups : List Group
      built-groups = map (set_group p strict (map coefficient_of coefs)) set ++ part_group Floor
          (forms_in (rule_at p strict)) (map coefficient_of coefs) ∷ []

      groups : map (set_group p strict (map coefficient_of coefs)) set ++ part_group Floor (forms_in (rule_at p strict))
          (map coefficient_of coefs) ∷ []
          ≡ map (move_group b (coefficients b (symbols_of_set b))) set ++ floor_group b
          (coefficients b (symbols_of_set b)) ∷ []
      groups =
          ap (λ (xs : List Coefficient). map (set_group p strict xs) set ++ part_group Floor
          (forms_in (rule_at p strict)) xs ∷ []) e
          ∙ ap (λ (gs : List Group). gs ++ floor_group b (coefficients b (symbols_of_set b)) ∷ [])
          (groups-are (coefficients b (symbols_of_set b)) set)

      question-is : question_of costs
          (map (set_group p strict (map coefficient_of coefs)) set ++ part_group Floor (forms_in (rule_at p strict))
          (map coefficient_of coefs) ∷ [])
          ≡ rank_question b
      question-is =
          ap (λ (n : ℕ). made n (map (λ (c : Cost). c.size) costs)
          (map (λ (c : Cost). c.height) costs) built-groups) long
          ∙ (ap (λ (ss : List ℕ). made (length cs) ss (map (λ (c : Cost). c.height) costs) built-groups) sizes
          ∙ (ap (λ (hs : List ℕ). made (length cs) (map (size_at b) cs) hs built-groups) heights
          ∙ ap (λ (gs : List Group). made (length cs) (map (size_at b) cs) (map (height_at b) cs) gs) groups))

-- the fixed form of a group can be written
fixed-writable : (part : Part) (n : ℕ) → IsWritable n (fixed_form part)
fixed-writable Move n = record {
  fits = omega arith;
  coefs = All-nil
      (λ (a : ℤ). unsigned_abs a < 2 ^ 127);
  constant = omega arith;
}
fixed-writable Fall n = record {
  fits = omega arith;
  coefs = All-nil
      (λ (a : ℤ). unsigned_abs a < 2 ^ 127);
  constant = omega arith;
}
fixed-writable Floor n = record {
  fits = omega arith;
  coefs = All-nil
      (λ (a : ℤ). unsigned_abs a < 2 ^ 127);
  constant = omega arith;
}

-- the prepared rows of a rule can be written, with the fixed form of a group and with goals that can be
pub part-writable : (part : Part) (m : RuleRows) (n many : ℕ) (rows : List Row) (goals gs : List Goal) (fixed : Row)
    → IsPrepared m
    → n ≡ many → rows ≡ m.rows.items → goals ≡ gs → AreParameters many gs → All
    (λ g. IsWritable m.unknowns (form_of g.form)) gs
    → form_of fixed ≡ fixed_form part → AreWritable n m.unknowns rows goals fixed
part-writable part m n many rows goals gs fixed is e f g listed writable h = record {
  listed = subst (λ (k : ℕ). AreParameters k goals) (sym e)
      (subst (λ (xs : List Goal). AreParameters many xs) (sym g) listed);
  each_row = subst (λ (rs : List Row). All (λ r. IsWritable m.unknowns (form_of r)) rs) (sym f) (rows-writable m is);
  each_goal = subst (λ (xs : List Goal). All (λ g. IsWritable m.unknowns (form_of g.form)) xs) (sym g) writable;
  fixed_form = subst (IsWritable m.unknowns) (sym h) (fixed-writable part m.unknowns);
}

-- goals that fit, one for each coefficient
pub fits-listed : (part : Part) (r q : RuleForms) (coefs : List Sought) → r ≡ q → Fits part r (map coefficient_of coefs)
    → All (λ c. length (goal_form part q (coefficient_of c)).coefs ≤ q.unknowns) coefs
fits-listed part r q coefs e h k d l =
    subst (λ (c : Coefficient). length (goal_form part q c).coefs ≤ q.unknowns)
    (get_or-map coefficient_of coefs k (coefficient_of d) d l)
    ((subst (λ (x : RuleForms). Fits part x (map coefficient_of coefs)) e h).each k (coefficient_of d)
    (let m = length-map coefficient_of coefs in omega (arith, l, m)))
