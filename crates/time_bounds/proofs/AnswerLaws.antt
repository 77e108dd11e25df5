-- What an answer gives, by what its composed time is rewritten to.
use Rattle.std.proofs.Common.{◌≡◌, ℕ, List, [], ◌∷◌, map, All, true, false, Option, Some, None, refl, sym, ap, subst, arith}
use Rattle.std.proofs.lemmas.List.Elements.{All-nil, All-cons, All-head, All-tail}
use Rattle.model.specs.Programs.{Program}
use Rattle.model.specs.Bounds.{Bound}
use Rattle.its_model.specs.Valid.{IsValid}
use Rattle.bound_table.specs.RewriteResult as within
use Rattle.bound_table.specs.RewriteResult.{Fits, rewritten_within}
use Rattle.guard_prep.proofs.StepLaws.{few-places as few_places}
use Rattle.cert_types.specs.cert_rules.AcceptsRank.{HasFormShape}
use Rattle.cert_types.specs.cert_rules.Gaps.{SymbolPlace}
use Rattle.cert_types.specs.cert_rules.Nodes.{ResultVariable, RankNode}
use Rattle.cert_types.specs.cert_rules.Composed.{time_of}
use Rattle.cert_types.specs.declared.answer.GuardFeasibility.{GuardFeasibility}
use Rattle.cert_types.specs.declared.rank.Form as code
use Rattle.cert_types.specs.declared.rank.RankNode as code_rank
use Rattle.cert_types.specs.declared.gap.Gap as code_gap
use Rattle.cert_types.specs.cert_rules.AcceptsPlain.{IsRule}
use Rattle.cert_types.specs.cert_rules.GapChecks.{GapHolds}
use Rattle.cert_types.specs.cert_rules.Known.{IsKnown}
use Rattle.cert_types.specs.cert_program.Setting.{setting_of}
use Rattle.cert_types.specs.AnswerViews.{gap_of}
use Rattle.cert_types.specs.Views.{form_of, rank_of}
use Rattle.cert_types.specs.Sizes.{IsShort}
use Rattle.cert_types.proofs.cert_program.Small.{small-bounds}
use Rattle.rank_search.specs.declared.answer.RankAnswer.{RankAnswer}
use Rattle.rank_search.specs.declared.answer.RankAnswer.TheVariants as ranks
use Rattle.rank_search.specs.rule_questions.ProgramQuestions.{forms_at, ranked_set, places_of}
use Rattle.rank_search.specs.rule_questions.RuleAnswers.{AreEmptyAnswers}
use Rattle.rank_search.specs.RankAnswers.{IsRuleSet, IsRankAnswer}
use Rattle.rank_search.proofs.Accepted.{nodes-accepted}
use Rattle.bound_fixpoint.specs.Keys.{Bounds, is_untimed, lacks, over}
use Rattle.bound_fixpoint.specs.Derivations.{RankBy}
use Rattle.bound_fixpoint.specs.Needs.{rank_premises}
use Rattle.outcome.specs.Reports.{TimeLarge}
use Rattle.bound_fixpoint.specs.Searches.{Ranked, Unranked, NoBound, OfTime}
use Rattle.bound_fixpoint.specs.Answers.{Answer, Found, Lacks, AnsweredQuestion, AnswersRanking, AnswersTime}
use Rattle.bound_fixpoint.specs.Right.{IsRightRanking}
use Rattle.bound_fixpoint.proofs.AcceptedRanks.{is_question}
use Rattle.time_bounds.specs.declared.asking.AnsweredRankQuestion.{AnsweredRankQuestion}
use Rattle.time_bounds.specs.ProgramRules.{ranking_of}
use Rattle.time_bounds.specs.ProgramSearches.{searches_of_program}
use Rattle.time_bounds.specs.Questions.{HasShape, IsAsked, AnswersQuestion}
use Rattle.time_bounds.specs.TriedRules.{IsMissing}
use Rattle.time_bounds.proofs.RightSizings.{program_searches_right}
pub use Rattle.model.proofs.Cases.{IfOk-both as both}

-- a composed time that fits is what the node composes
pub found-sound : (p : Program) (b : Bounds) (node : RankNode) (premises : List ResultVariable) (x : Bound)
    → Fits x ≡ rewritten_within (time_of p node (over b).time (over b).size) → premises ≡ rank_premises p node
    → AnswersRanking (setting_of p) b (Ranked node) (Found (RankBy node) premises x)
found-sound p b node premises x e same =
    let h = (small-bounds.fits (time_of p node (over b).time (over b).size) x).0 (sym e) in (h.0, refl, same, h.1)

-- a composed time that is too large gives no time
pub large-sound : (p : Program) (b : Bounds) (node : RankNode) (n : ℕ)
    → within.TooLarge n ≡ rewritten_within (time_of p node (over b).time (over b).size)
    → AnswersRanking (setting_of p) b (Ranked node) (Lacks (OfTime (TimeLarge n)))
large-sound p b node n e =
    let h = (small-bounds.large (time_of p node (over b).time (over b).size) n).0 (sym e) in (h.0, ap (λ (n : ℕ). OfTime (TimeLarge n)) h.1)

-- an answered question of the code is one of the relation
pub asked_of : (p : Program) (b : Bounds) (pivots : ℕ) (empties : List GuardFeasibility) (t : ℕ) (a : AnsweredRankQuestion) → AreEmptyAnswers p pivots empties
    → IsAsked p b t a → AnswersQuestion p pivots empties t a → AnsweredQuestion (searches_of_program p pivots) (setting_of p) b t
asked_of p b pivots empties t a answers asked answered = record {
  set = a.set.items;
  shut = places_of a.shut.items;
  answer = ranking_of a.answer;
  is_set = asked.set;
  are_shut = asked.shut;
  answered = (empties, answers, (a.answer, refl, answered.answer));
}

-- the result of an answer is the result on the rule's time
pub time-sound : (p : Program) (b : Bounds) (pivots : ℕ) (empties : List GuardFeasibility) (t : ℕ) (a : AnsweredRankQuestion) (x : Answer)
    → AreEmptyAnswers p pivots empties → IsAsked p b t a → AnswersQuestion p pivots empties t a
    → AnswersRanking (setting_of p) b (ranking_of a.answer) x → AnswersTime (searches_of_program p pivots) (setting_of p) b t x
unfolding asked_of
time-sound p b pivots empties t a x answers asked answered is_answer =
    record { asked = asked_of p b pivots empties t a answers asked answered; is_answer = is_answer }

-- the reason that an answer gives is the result on the rule's time
pub missing_reason_answered : (p : Program) (b : Bounds) (pivots : ℕ) (empties : List GuardFeasibility) (t : ℕ) (a : AnsweredRankQuestion)
    → AreEmptyAnswers p pivots empties → (m : IsMissing p b pivots empties t a)
    → AnswersTime (searches_of_program p pivots) (setting_of p) b t (Lacks m.why)
missing_reason_answered p b pivots empties t a answers m =
    time-sound p b pivots empties t a (Lacks m.why) answers m.asked m.answered m.is_answer

short_forms : (p : Program) (fs : List code.Form) → IsValid p → All (HasFormShape p) (map form_of fs) → All IsShort fs
short_forms p [] v h = All-nil IsShort
short_forms p (f ∷ fs) v h =
    let first = All-head (HasFormShape p) (form_of f) (map form_of fs) h in
    let few = few_places p.symbols f.symbol v.symbols in
    All-cons IsShort f fs (omega (arith, first.long, few)) (short_forms p fs v (All-tail (HasFormShape p) (form_of f) (map form_of fs) h))

-- a node that was found has a denominator of at least 1, and forms with few coefficients
pub shape_of : (p : Program) (set : List ℕ) (strict : ℕ) (shut : List SymbolPlace) (pivots : ℕ) (empties : List GuardFeasibility) (a : RankAnswer)
    → IsValid p → IsRuleSet p set strict → IsRankAnswer (ranked_set p set strict shut) shut pivots empties a → HasShape a
shape_of p set strict shut pivots empties (ranks.Ranked node) v rules h =
    let shape = (nodes-accepted.shown p set strict shut pivots (rank_of node) v rules h.0).shape in
    (shape.den, short_forms p node.forms.items v shape.forms)
shape_of p set strict shut pivots empties (ranks.NoRank gap) v rules h = tt
shape_of p set strict shut pivots empties (ranks.OutOfLimits t) v rules h = tt

-- an answer to a question is one to a question that is the same
pub answered_of : (p : Program) (pivots t : ℕ) (a : AnsweredRankQuestion) (empties : List GuardFeasibility) (set : List ℕ) (shut : List (ℕ × ℕ)) (answers : List GuardFeasibility)
    → IsValid p → IsRuleSet p a.set.items t → set ≡ a.set.items → shut ≡ a.shut.items → answers ≡ empties
    → IsRankAnswer (ranked_set p set t (places_of shut)) (places_of shut) pivots answers a.answer → AnswersQuestion p pivots empties t a
answered_of p pivots t a empties set shut answers v rules e f g h =
    let moved = subst (λ (xs : List GuardFeasibility). IsRankAnswer (ranked_set p a.set.items t (places_of a.shut.items)) (places_of a.shut.items) pivots xs a.answer) g
    (subst (λ (ys : List (ℕ × ℕ)). IsRankAnswer (ranked_set p a.set.items t (places_of ys)) (places_of ys) pivots answers a.answer) f
    (subst (λ (zs : List ℕ). IsRankAnswer (ranked_set p zs t (places_of shut)) (places_of shut) pivots answers a.answer) e h)) in
    record { answer = moved; shape = shape_of p a.set.items t (places_of a.shut.items) pivots empties a.answer v rules moved }

-- what is missing, by an answer that gives no time
pub missing_of : (p : Program) (b : Bounds) (pivots : ℕ) (empties : List GuardFeasibility) (t : ℕ) (a : AnsweredRankQuestion) (answer : RankAnswer) (why : NoBound)
    → IsAsked p b t a → AnswersQuestion p pivots empties t a → a.answer ≡ answer
    → AnswersRanking (setting_of p) b (ranking_of answer) (Lacks why)
    → IsMissing p b pivots empties t (record { set = a.set; shut = a.shut; answer = answer })
missing_of p b pivots empties t a answer why asked answered e is_answer = record {
  asked = record { set = asked.set; shut = asked.shut };
  answered = record {
    answer = subst (λ (x : RankAnswer). IsRankAnswer (ranked_set p a.set.items t (places_of a.shut.items)) (places_of a.shut.items) pivots empties x) e answered.answer;
    shape = subst HasShape e answered.shape;
  };
  why = why;
  is_answer = is_answer;
}

-- if a time is missing, the composed one doesn't fit
pub missing_unfit : (p : Program) (b : Bounds) (pivots : ℕ) (empties : List GuardFeasibility) (t : ℕ) (a : AnsweredRankQuestion) (node : code_rank.RankNode) (x : Bound)
    → IsMissing p b pivots empties t a → a.answer ≡ ranks.Ranked node
    → Fits x ≡ rewritten_within (time_of p (rank_of node) (over b).time (over b).size) → ⊥
missing_unfit p b pivots empties t a node x missing e fits =
    let is_answer = subst (λ (y : RankAnswer). AnswersRanking (setting_of p) b (ranking_of y) (Lacks missing.why)) e missing.is_answer in
    is_answer.0 (found-sound p b (rank_of node) (rank_premises p (rank_of node)) x fits refl).0

-- a gap that is given as an answer holds
pub gap_holds : (p : Program) (b : Bounds) (pivots : ℕ) (empties : List GuardFeasibility) (t : ℕ) (a : AnsweredRankQuestion) (g : code_gap.Gap) → IsValid p
    → AreEmptyAnswers p pivots empties → is_untimed b 0 ≡ false → IsRule p t → IsMissing p b pivots empties t a → a.answer ≡ ranks.NoRank g
    → GapHolds p (forms_at p) (gap_of g)
gap_holds p b pivots empties t a g valid answers start rule m e = told.0.holds
  where
    told : IsRightRanking (searches_of_program p pivots) (setting_of p) a.set.items t (places_of a.shut.items) (Unranked (gap_of g))
    told =
        subst (λ (x : RankAnswer). IsRightRanking (searches_of_program p pivots) (setting_of p) a.set.items t (places_of a.shut.items) (ranking_of x)) e
        ((program_searches_right.each p pivots valid).rank a.set.items t (places_of a.shut.items) (ranking_of a.answer)
        (is_question (setting_of p) b (timed (b 0 0) start) t a.set.items rule m.asked.set)
        (empties, answers, (a.answer, refl, m.answered.answer)))
      where
        timed : (o : Option Bound) → lacks o ≡ false → IsKnown o
        timed None k = absurd (let f : ⊥ = cc in f)
        timed (Some x) k = (x, refl)

-- a rule without a time has none
pub untimed_none : (b : Bounds) (t : ℕ) → is_untimed b t ≡ true → b t 0 ≡ None
untimed_none b t e = go (b t 0) e
  where
    go : (o : Option Bound) → lacks o ≡ true → o ≡ None
    go None e = refl
    go (Some x) e = absurd (let f : ⊥ = cc in f)
