-- The gap that is read off a dual holds.
use Rattle.std.proofs.Common.{◌≡◌, ℕ, zero, suc, ◌+◌, ◌<◌, ◌≤◌, ap, arith, refl, sym, ◌∙◌, subst, true, ◌⊎◌, inl, inr}
use Rattle.std.proofs.Common.{List, [], ◌∷◌, ◌++◌, length, map, Option, Some, None}
use Rattle.std.specs.Prelude.{ℤ, pos, negsuc, nat_abs, ◌+ℤ◌, ◌≤ℤ◌, ◌<ℤ◌, slice_index_or}
use Rattle.std.specs.List.{All}
use Rattle.std.proofs.lemmas.Int.{ints}
use Rattle.std.proofs.lemmas.Bool.{cases_lt}
use Rattle.std.proofs.lemmas.List.{get_or_past, map-append}
use Rattle.std.proofs.lemmas.List.Elements.{All-head, All-tail, All-get_or}
use Rattle.simplex_core.specs.linear_forms.Combinations.{zero_form}
use Rattle.simplex_core.specs.linear_forms.Forms.{Form, at, form_value}
use Rattle.simplex_core.specs.linear_forms.Limits.{point_limit}
use Rattle.simplex_core.specs.linear_forms.Points.{Meets}
use Rattle.simplex_core.specs.linear_forms.Questions.{Group, IsGroupShaped, listed}
use Rattle.simplex_core.specs.linear_forms.QuestionLaws.{after, AreElements, elements_of, Refutes, total_of}
use Rattle.simplex_core.specs.linear_forms.QuestionLaws.{fixed_total}
use Rattle.simplex_core.specs.linear_forms.RuleQuestions.{RankedSet, Coefficient, coefficients, symbols_of_set}
use Rattle.simplex_core.specs.linear_forms.RuleQuestions.{move_group, floor_group, rank_question}
use Rattle.simplex_core.proofs.linear_forms.ElementLaws.{dual-refutes}
use Rattle.simplex_core.proofs.linear_forms.ListLaws.{after-is, length-listed, listed-is}
use Rattle.simplex_core.proofs.linear_forms.SolutionLaws.{All-listed}
use Rattle.simplex_core.specs.HitsLimit.{IsScaledDual}
use Rattle.cert_types.proofs.rule_forms.RankSolutions.{rank-shaped}
use Rattle.poly_terms.specs.model.Programs.{Program, Rule, rule_at}
use Rattle.poly_terms.specs.model.Entries.{is_in}
use Rattle.its_model.specs.Valid.{IsValid}
use Rattle.cert_types.specs.cert_rules.AcceptsPlain.{IsRule}
use Rattle.cert_types.specs.cert_rules.GapChecks.{IsGapPoint, HasGapShape, IsPointOf, GapHolds, point_of}
use Rattle.cert_types.specs.cert_rules.Gaps.{ScaledPoint, SymbolPlace, Gap}
use Rattle.cert_types.specs.cert_rules.Numbers.{IsAscending}
use Rattle.cert_types.proofs.cert_rules.GapExclusion.{element_of, groups_with, elements_with}
use Rattle.cert_types.proofs.cert_rules.GapPoints.{AreEach, each-long, each-of}
use Rattle.cert_types.proofs.cert_rules.RefutedGaps.{refuted-holds}
use Rattle.cert_types.specs.declared.answer.GuardFeasibility.{GuardFeasibility}
use Rattle.cert_types.specs.declared.answer.GuardFeasibility.TheVariants as answers
use Rattle.cert_types.specs.AnswerViews.{scaled_of, gap_of}
use Rattle.cert_types.specs.guard_prep.Prepared.{prepared}
use Rattle.rule_questions.specs.EmptyAnswers.{IsNearPoint}
use Rattle.rule_questions.specs.ProgramQuestions.{forms_in, forms_at, ranked_set}
use Rattle.rule_questions.specs.RuleAnswers.{AreEmptyAnswers, answer_for, point_in}
use Rattle.rule_questions.proofs.Lists.{value-seen}
use Rattle.rank_search.specs.RankAnswers.{IsRuleSet, rank_program, points_of, IsReadOff}
use Rattle.rank_search.specs.RankLaws.{FoundGapsHold}
use Rattle.rank_search.proofs.RankSets.{in-all, set-of, symbols-same}

-- a number of at least 0 is its absolute value
abs-same : (d : ℤ) → pos 0 ≤ℤ d → d ≡ pos (nat_abs d)
abs-same (pos n) l = refl
abs-same (negsuc n) l = absurd (omega (arith, ints, l))

-- the value of a form at an element is that at its point
seen : (f : Form) (u : ℕ) (y : ℕ → ℤ) → length f.coefs ≤ u → pos 0 ≤ℤ y u
    → form_value f y (y u) ≡ form_value f (at (listed u y)) (pos (nat_abs (y u)))
seen f u y l h =
    value-seen f u y (at (listed u y)) (y u) l (λ j k. sym (listed-is u y j (pos 0) k))
    ∙ ap (λ (d : ℤ). form_value f (at (listed u y)) d) (abs-same (y u) h)

-- the points in a list of numbers are the elements in it
module _ (n : ℕ) where
  seen-elements : (y : ℕ → ℤ) (gs : List Group) → All (IsGroupShaped n) gs → AreElements gs (elements_of y gs)
      → AreElements gs (map element_of (points_of y gs))
  seen-elements y [] shaped h = tt
  seen-elements y (g ∷ gs) shaped h = (
    (
      omega (arith, ints),
      record {
        each = λ k d l. subst (λ (v : ℤ). pos 0 ≤ℤ v)
            (seen _ g.unknowns y ((All-head (IsGroupShaped n) g gs shaped).rows_fit k d l) h.0.0) (h.0.1.each k d l);
      },
    ),
    seen-elements (after (suc g.unknowns) y) gs (All-tail (IsGroupShaped n) g gs shaped) h.1,
  )

  goal-fits : (g : Group) (i : ℕ) → IsGroupShaped n g → length (slice_index_or g.goals i zero_form).coefs ≤ g.unknowns
  goal-fits g i s = go (cases_lt i (length g.goals))
    where
      go : (i < length g.goals) ⊎ (length g.goals ≤ i)
          → length (slice_index_or g.goals i zero_form).coefs ≤ g.unknowns
      go (inl l) = All-get_or (λ (f : Form). length f.coefs ≤ g.unknowns) g.goals i zero_form l s.goals_fit
      go (inr l) = subst (λ (f : Form). length f.coefs ≤ g.unknowns) (sym (get_or_past g.goals i zero_form l))
          (omega arith)

  both : (a b c d : ℤ) → a ≡ c → b ≡ d → a +ℤ b ≡ c +ℤ d
  both a b c d e f = omega (arith, ints, e, f)

  seen-total : (i : ℕ) (y : ℕ → ℤ) (gs : List Group) → All (IsGroupShaped n) gs → AreElements gs (elements_of y gs)
      → total_of i gs (elements_of y gs) ≡ total_of i gs (map element_of (points_of y gs))
  seen-total i y [] shaped h = refl
  seen-total i y (g ∷ gs) shaped h =
      both _ _ _ _
      (seen (slice_index_or g.goals i zero_form) g.unknowns y (goal-fits g i (All-head (IsGroupShaped n) g gs shaped))
      h.0.0)
      (seen-total i (after (suc g.unknowns) y) gs (All-tail (IsGroupShaped n) g gs shaped) h.1)

  seen-fixed : (y : ℕ → ℤ) (gs : List Group) → All (IsGroupShaped n) gs → AreElements gs (elements_of y gs)
      → fixed_total gs (elements_of y gs) ≡ fixed_total gs (map element_of (points_of y gs))
  seen-fixed y [] shaped h = refl
  seen-fixed y (g ∷ gs) shaped h =
      both _ _ _ _
      (seen g.fixed g.unknowns y (All-head (IsGroupShaped n) g gs shaped).fixed_fits h.0.0)
      (seen-fixed (after (suc g.unknowns) y) gs (All-tail (IsGroupShaped n) g gs shaped) h.1)

-- each number is within the limit of points
abbrev AreNear : (ℕ → ℤ) → Type 0
AreNear y = (j : ℕ) → nat_abs (y j) ≤ point_limit

near-after : (k : ℕ) (y : ℕ → ℤ) → AreNear y → AreNear (after k y)
near-after k y h j = subst (λ (x : ℤ). nat_abs x ≤ point_limit) (sym (after-is k y j)) (h (k + j))

module _ (b : RankedSet) (cs : List Coefficient) (floor : ScaledPoint) where
  -- a group has at least one point
  none-left : (y : ℕ → ℤ) (set : List ℕ) → [] ≡ points_of y (groups_with b cs floor set) → ⊥
  none-left y [] e = cc
  none-left y (t ∷ set) e = cc

  -- the point of a rule in a list of near numbers has its shape
  read-point : (t : ℕ) (y : ℕ → ℤ) → AreNear y
      → IsGapPoint (b.rule t) (record { parts = listed (b.rule t).unknowns y; den = nat_abs (y (b.rule t).unknowns) })
  read-point t y near = record {
    long = length-listed (b.rule t).unknowns y;
    parts_limit = All-listed (λ (x : ℤ). nat_abs x ≤ point_limit) (b.rule t).unknowns y (λ j l. near j);
    den_limit = near (b.rule t).unknowns;
  }

  -- all points in a list of near numbers are near: those of the rules and that of the floor
  read-each : (y : ℕ → ℤ) → AreNear y → (set : List ℕ) (moves : List ScaledPoint)
      → moves ++ (floor ∷ []) ≡ points_of y (groups_with b cs floor set)
      → AreEach (λ t z. IsGapPoint (b.rule t) z) set moves × IsGapPoint (b.rule b.strict) floor
  read-each y near [] [] e = (tt, subst (IsGapPoint (b.rule b.strict)) (sym same) (read-point b.strict y near))
    where
      same : floor
          ≡ record { parts = listed (b.rule b.strict).unknowns y; den = nat_abs (y (b.rule b.strict).unknowns) }
      same = cc
  read-each y near [] (z ∷ moves) e = absurd (more moves (let f : moves ++ (floor ∷ []) ≡ [] = cc in f))
    where
      more : (zs : List ScaledPoint) → zs ++ (floor ∷ []) ≡ [] → ⊥
      more [] f = cc
      more (x ∷ zs) f = cc
  read-each y near (t ∷ set) [] e =
      absurd (none-left (after (suc (b.rule t).unknowns) y) set
      (let f : [] ≡ points_of (after (suc (b.rule t).unknowns) y) (groups_with b cs floor set) = cc in f))
  read-each y near (t ∷ set) (z ∷ moves) e =
      let rest = read-each (after (suc (b.rule t).unknowns) y) (near-after (suc (b.rule t).unknowns) y near) set moves
      tails in (
        (subst (IsGapPoint (b.rule t)) (sym heads) (read-point t y near), rest.0),
        rest.1,
      )
    where
      heads : z ≡ record { parts = listed (b.rule t).unknowns y; den = nat_abs (y (b.rule t).unknowns) }
      heads = cc

      tails : moves ++ (floor ∷ []) ≡ points_of (after (suc (b.rule t).unknowns) y) (groups_with b cs floor set)
      tails = cc

module _ (p : Program) (set : List ℕ) (strict : ℕ) (shut : List SymbolPlace) (pivots : ℕ)
    (empties : List GuardFeasibility) (valid : IsValid p) (rules : IsRuleSet p set strict)
    (known : AreEmptyAnswers p pivots empties) where
  abbrev b : RankedSet
  b = ranked_set p set strict shut

  abbrev cs : List Coefficient
  cs = coefficients b (symbols_of_set b)

  -- a kept point of a rule has its shape, and is a point of its rows
  abbrev IsKept : ℕ → ScaledPoint → Type 0
  IsKept t z = IsGapPoint (forms_at p t) z × IsPointOf (forms_at p t).rows z

  kept-one : (t : ℕ) (z : ScaledPoint) → IsRule p t → (o : Option GuardFeasibility) → answer_for empties t ≡ o
      → Some z ≡ point_in o → IsKept t z
  kept-one t z i None e f = absurd (let no : ⊥ = cc in no)
  kept-one t z i (Some (answers.Empty n)) e f = absurd (let no : ⊥ = cc in no)
  kept-one t z i (Some (answers.Point w)) e f =
      subst (λ (o : Option Rule). IsGapPoint (forms_in o) z × IsPointOf (forms_in o).rows z) (sym i.numbered)
      (subst (λ (y : ScaledPoint). IsGapPoint (forms_in (Some i.rule)) y × IsPointOf (forms_in (Some i.rule)).rows y)
      (sym same)
      (record { long = near.long; parts_limit = near.parts_limit; den_limit = near.den_limit }, near.point))
    where
      near : IsNearPoint (prepared i.rule) (scaled_of w)
      near = (known.each t i.rule (answers.Point w) i.numbered e).0

      same : z ≡ scaled_of w
      same = cc
  kept-one t z i (Some (answers.OutOfLimits w)) e f = absurd (let no : ⊥ = cc in no)

  kept-each : (ts : List ℕ) (kept : List ScaledPoint) → All (IsRule p) ts
      → map (λ z. Some z) kept ≡ map (λ t. point_in (answer_for empties t)) ts → AreEach IsKept ts kept
  kept-each [] [] h e = tt
  kept-each [] (z ∷ kept) h e = absurd (let no : ⊥ = cc in no)
  kept-each (t ∷ ts) [] h e = absurd (let no : ⊥ = cc in no)
  kept-each (t ∷ ts) (z ∷ kept) h e = (
    kept-one t z (All-head (IsRule p) t ts h) (answer_for empties t) refl own,
    kept-each ts kept (All-tail (IsRule p) t ts h) others,
  )
    where
      own : Some z ≡ point_in (answer_for empties t)
      own = cc

      others : map (λ (y : ScaledPoint). Some y) kept ≡ map (λ (u : ℕ). point_in (answer_for empties u)) ts
      others = cc

  module _ (g : Gap) (r : IsReadOff b shut pivots empties g) where
    -- the gap with the given set, strict rule and shut places, and with these moves, floor and kept points
    abbrev own : Gap
    own = record { rule = strict; set = set; shut = shut; moves = g.moves; floor = g.floor; kept = g.kept }

    near : AreNear (at r.numbers)
    near j = go (cases_lt j (length r.numbers))
      where
        go : (j < length r.numbers) ⊎ (length r.numbers ≤ j) → nat_abs (at r.numbers j) ≤ point_limit
        go (inl l) = r.dual.within.each j l
        go (inr l) =
            subst (λ (x : ℤ). nat_abs x ≤ point_limit) (sym (get_or_past r.numbers j (pos 0) l)) (omega arith)

    read : AreEach (λ t z. IsGapPoint (b.rule t) z) set g.moves × IsGapPoint (b.rule strict) g.floor
    read = read-each b cs g.floor (at r.numbers) near set g.moves r.points

    kept : AreEach IsKept set g.kept
    kept = kept-each set g.kept rules.rules r.kept

    shape : HasGapShape p (forms_at p) own
    shape = record {
      ascending = rules.ascending;
      rules = λ t i. in-all (IsRule p) t set rules.rules i;
      inside = rules.inside;
      one_move = each-long (λ t z. IsGapPoint (b.rule t) z) set g.moves read.0;
      one_kept = each-long IsKept set g.kept kept;
      moves = each-of (λ t z. IsGapPoint (b.rule t) z) set g.moves read.0;
      kept = λ t i. (each-of IsKept set g.kept kept t i).0;
      floor = read.1;
    }

    told : Refutes (rank_question b) (elements_of (at r.numbers) (rank_question b).groups)
    told =
        dual-refutes (rank_question b) (at r.numbers) (rank-shaped b (set-of p set strict shut valid rules))
        r.dual.certified

    same-elements : elements_with g.moves g.floor ≡ map element_of (points_of (at r.numbers) (rank_question b).groups)
    same-elements =
        sym (map-append element_of g.moves (g.floor ∷ [])) ∙ ap (λ (zs : List ScaledPoint). map element_of zs) r.points

    refutes : Refutes (rank_question b) (elements_with g.moves g.floor)
    refutes =
        let shaped = (rank-shaped b (set-of p set strict shut valid rules)).groups_are in
        subst (Refutes (rank_question b)) (sym same-elements) (record {
          elements = seen-elements (length cs) (at r.numbers) (rank_question b).groups shaped told.elements;
          balanced = λ i l.
              sym (seen-total (length cs) i (at r.numbers) (rank_question b).groups shaped told.elements)
              ∙ told.balanced i l;
          below = subst (λ (v : ℤ). v <ℤ pos 0)
              (seen-fixed (length cs) (at r.numbers) (rank_question b).groups shaped told.elements) told.below;
        })

    -- the gap that is read off the dual holds
    own-holds : GapHolds p (forms_at p) own
    own-holds =
        refuted-holds p b own
        (record {
          same_set = refl;
          same_rule = refl;
          same_shut = λ s i. refl;
          places = λ s. refl;
          symbols = symbols-same p set strict shut rules.rules;
        })
        shape shape.one_move refutes (λ t i. (each-of IsKept set g.kept kept t i).1)

    pub found-holds : GapHolds p (forms_at p) g
    found-holds =
        subst (λ (t : ℕ). GapHolds p (forms_at p) (made t g.set g.shut)) (sym r.numbered)
        (subst (λ (ts : List ℕ). GapHolds p (forms_at p) (made strict ts g.shut)) (sym r.same_set)
        (subst (λ (ss : List SymbolPlace). GapHolds p (forms_at p) (made strict set ss)) (sym r.same_shut) own-holds))
      where
        made : ℕ → List ℕ → List SymbolPlace → Gap
        made t ts ss = record { rule = t; set = ts; shut = ss; moves = g.moves; floor = g.floor; kept = g.kept }

-- found gaps hold
pub gaps-found-hold : FoundGapsHold
gaps-found-hold = record {
  each = λ p set strict shut pivots empties g valid rules known r. record {
    rule = r.0.numbered;
    same_set = r.0.same_set;
    same_shut = r.0.same_shut;
    holds = found-holds p set strict shut pivots empties valid rules known (gap_of g) r.0;
  };
}
