-- The report of an analysis is printable if its numbers fit their types and its total has few nodes; so it is determined
-- by its text.
use Rattle.std.proofs.Common.{◌≡◌, ℕ, zero, suc, ◌+◌, ◌<◌, ◌≤◌, List, [], ◌∷◌, length, map, Option, Some, None, refl}
use Rattle.std.proofs.Common.{sym, ◌∙◌, ap, subst, arith}
use Rattle.std.specs.Prelude.{ℤ, slice_get, IfSome}
use Rattle.std.specs.List.{AllByRecursion, Contains}
use Rattle.std.proofs.lemmas.List.{length-append, length-map}
use Rattle.std.proofs.lemmas.List.Elements.{All-contains_itself, recursion_from_All}
use Rattle.model.specs.Programs.{Program, Rule}
use Rattle.model.specs.Paths.{target_in, target_of}
use Rattle.model.specs.Bounds.{Bound}
use Rattle.its_model.specs.Valid.{IsValid, IsValidRule}
use Rattle.its_reader.proofs.its_text.ValidPrograms.{spelled_valid}
use Rattle.command_line.specs.Lines.{Word}
use Rattle.its_model.specs.linear_forms.Forms.{at}
use Rattle.its_model.specs.linear_forms.Questions.{Group}
use Rattle.its_model.specs.linear_forms.QuestionLaws.{after}
use Rattle.its_model.specs.linear_forms.RuleQuestions.{RankedSet, rank_question, symbols_of_set, coefficients}
use Rattle.its_model.specs.linear_forms.RuleQuestions.{move_group}
use Rattle.its_model.specs.linear_forms.RuleQuestions.{floor_group}
use Rattle.outcome.specs.cert_rules.Gaps.{SymbolPlace, Gap}
use Rattle.outcome.specs.cert_rules.AcceptsCosts.{stated_cost}
use Rattle.outcome.specs.cert_rules.Nodes.{CostBy, RankNode}
use Rattle.outcome.specs.cert_program.Setting.{setting_of}
use Rattle.outcome.specs.cert_types.declared.answer.GuardFeasibility.{GuardFeasibility}
use Rattle.time_bounds.specs.rank_search.declared.answer.RankAnswer.{RankAnswer}
use Rattle.time_bounds.specs.rank_search.declared.answer.RankAnswer.TheVariants as ranks
use Rattle.time_bounds.specs.rule_questions.ProgramQuestions.{ranked_set}
use Rattle.time_bounds.specs.rule_questions.RuleAnswers.{answer_for, point_in}
use Rattle.time_bounds.specs.rank_search.RankAnswers.{points_of, IsReadOff, IsRankAnswer}
use Rattle.outcome.specs.Reports.{NoTime, NoFunction, TimeHitLimit, TimeLarge, Time, Timed, Untimed}
use Rattle.outcome.specs.Reports.{Size, Sized, Unsized, RuleCost, Costed, Uncosted, Report, spendings, spent_in}
use Rattle.time_bounds.specs.bound_fixpoint.Answers.{Target, TimeOf, SizesOf, Lacks, AnswersTarget, AnswersTime, AnswersRanking}
use Rattle.time_bounds.specs.bound_fixpoint.Derivations.{Derivation, bounds_of}
use Rattle.time_bounds.specs.bound_fixpoint.Keys.{Bounds, over}
use Rattle.time_bounds.specs.bound_fixpoint.Rounds.{IsAskedFor, IsNoBound}
use Rattle.time_bounds.specs.bound_fixpoint.Searches.{OfTime}
use Rattle.time_bounds.specs.bound_fixpoint.Searches.{Ranking, Ranked, Unranked, RankHitLimit}
use Rattle.time_bounds.specs.bound_fixpoint.Sets.{AreShutOf}
use Rattle.report_text.specs.bound_text.Texts.{HasShortBases}
use Rattle.report_text.specs.States.{States}
use Rattle.report_text.specs.Printable as texts
use Rattle.report_text.specs.Printable.{IsShort, IsPrintablePlace, IsPrintableGap, IsPrintableNoTime, IsPrintableTime}
use Rattle.report_text.specs.Printable.{IsPrintableCost, IsPrintableSize, IsPrintableTotal, IsPrintableReport}
use Rattle.report_text.proofs.OneReport.{one_report}
use Rattle.cost_bounds.specs.CostOutcomes.{BoundedBy, IsCostOf}
use Rattle.time_bounds.specs.ProgramRules.{ranking_of}
use Rattle.time_bounds.specs.ProgramSearches.{searches_of_program}
use Rattle.time_bounds.specs.Totals.{total_of}
use Rattle.time_bounds.specs.Analysis.{AreTimesOf, AreCostsOver, AreSizesOf, AreSizeRowsOf, IsAnalysis}
use Rattle.time_bounds.specs.PrintableLaws.{IsPrintableBound, ArePrintableBounds, ArePrintable}
use Rattle.time_bounds.proofs.Printables.{found_printable}
use Rattle.call_plans.specs.Calls.{SinkUse}
use Rattle.koat_cli.specs.AnalysisTexts.{HasFewNodes, AnalysisTextsStateOneReport}
use Rattle.koat_cli.specs.Calls.{Call}
use Rattle.koat_cli.specs.FittingReports.{HasShortNumbers, ReasonFits, TimeFits, CostFits, SizeFits, TotalFits}
use Rattle.koat_cli.specs.FittingReports.{ReportFits}
use Rattle.koat_cli.specs.WroteReport.{WroteReport}
use Rattle.koat_cli.proofs.FewNodes.{HasFew, HaveFew, derivations_few, cost_few}

-- equal disclosed counts are equal numbers
some_same : (a b : ℕ) → ◌≡◌ {A = Option ℕ} (Some a) (Some b) → a ≡ b
some_same a b e = cc

-- a rule of a valid program leads to a symbol of it
target_few : (p : Program) → IsValid p → (t a : ℕ) → target_of p t ≡ Some a → a < length p.symbols
target_few p valid zero a e = subst (λ (s : ℕ). s < length p.symbols) (some_same p.start a e) valid.start
target_few p valid (suc t) a e = of_rule p.rules t valid.rules e
  where
    of_rule : (rules : List Rule) (k : ℕ) → AllByRecursion (IsValidRule p) rules → target_in (slice_get rules k) ≡ Some a
        → a < length p.symbols
    of_rule [] k are h = absurd (none h)
      where
        none : ◌≡◌ {A = Option ℕ} None (Some a) → ⊥
        none x = cc
    of_rule (r ∷ rules) zero are h = subst (λ (s : ℕ). s < length p.symbols) (some_same r.target a h) are.0.target
    of_rule (r ∷ rules) (suc k) are h = of_rule rules k are.1 h

-- there is a point for each group
points_many : (y : ℕ → ℤ) (gs : List Group) → length (points_of y gs) ≡ length gs
points_many y [] = refl
points_many y (g ∷ gs) = omega (arith, points_many (after (suc g.unknowns) y) gs)

-- places of symbols of the program are printable if their numbers are short
places_fit : (n : ℕ) (all shut : List SymbolPlace) → ((s : SymbolPlace) → Contains all s → s.symbol < n)
    → AllByRecursion (Contains all) shut → AllByRecursion (λ s. IsShort s.place) shut → AllByRecursion (IsPrintablePlace n) shut
places_fit n all [] few among short = tt
places_fit n all (s ∷ shut) few among short =
    (record { symbol = few s among.0; place = short.0 }, places_fit n all shut few among.1 short.1)

-- a rank question has a group for each rule of its set, and one for the floor
groups_many : (b : RankedSet) → length (rank_question b).groups ≡ length b.set + 1
groups_many b =
    let cs = coefficients b (symbols_of_set b) in
    length-append (map (move_group b cs) b.set) (floor_group b cs ∷ [])
    ∙ ap (λ (n : ℕ). n + 1) (length-map b.set (move_group b cs))

-- a gap that is read off a dual has a move and a kept point for each rule of its set
module _ (b : RankedSet) (shut : List SymbolPlace) (pivots : ℕ) (empties : List GuardFeasibility) (g : Gap)
    (read : IsReadOff b shut pivots empties g) where
  moves_many : length g.moves ≤ length g.set
  moves_many =
      let same : length g.moves + 1 ≡ length b.set + 1 =
      sym (length-append g.moves (g.floor ∷ [])) ∙ (ap length read.points
      ∙ (points_many (at read.numbers) (rank_question b).groups ∙ groups_many b)) in
      omega (arith, same, ap length read.same_set)

  kept_many : length g.kept ≤ length g.set
  kept_many =
      let same : length g.kept ≡ length b.set =
      sym (length-map g.kept (λ z. Some z)) ∙ (ap length read.kept
      ∙ length-map b.set (λ t. point_in (answer_for empties t))) in
      omega (arith, same, ap length read.same_set)

-- the shut places of a gap that is read off a dual are places of the program's symbols
gap_fits : (p : Program) (pivots : ℕ) (b : Bounds) (t : ℕ) (set : List ℕ) (shut : List SymbolPlace)
    (empties : List GuardFeasibility) (g : Gap) → IsValid p → AreShutOf p b set shut
    → IsReadOff (ranked_set p set t shut) shut pivots empties g → HasShortNumbers g
    → IsPrintableGap (length p.symbols) g
gap_fits p pivots b t set shut empties g valid are read short = record {
  rule = short.rule;
  set = short.set;
  shut = places_fit (length p.symbols) g.shut g.shut few
      (recursion_from_All (Contains g.shut) g.shut (All-contains_itself g.shut)) short.places;
  moves_shown = moves_many (ranked_set p set t shut) shut pivots empties g read;
  moves = short.moves;
  floor = short.floor;
  kept_shown = kept_many (ranked_set p set t shut) shut pivots empties g read;
  kept = short.kept;
}
  where
    few : (s : SymbolPlace) → Contains g.shut s → s.symbol < length p.symbols
    few s among =
        let is = (are.places s).0 (subst (λ (xs : List SymbolPlace). Contains xs s) read.same_shut among) in
        target_few p valid is.entry s.symbol is.leads

-- the gap of an answer is read off a dual
gap_read : (b : RankedSet) (shut : List SymbolPlace) (pivots : ℕ) (empties : List GuardFeasibility) (f : Gap)
    (a : RankAnswer) → ranking_of a ≡ Unranked f → IsRankAnswer b shut pivots empties a
    → IsReadOff b shut pivots empties f
gap_read b shut pivots empties f (ranks.Ranked node) e r = absurd (apart _ e)
  where
    apart : (n : RankNode) → Ranked n ≡ Unranked f → ⊥
    apart n x = cc
gap_read b shut pivots empties f (ranks.NoRank gap) e r = subst (IsReadOff b shut pivots empties) (same _ e) r.0
  where
    same : (h : Gap) → Unranked h ≡ Unranked f → h ≡ f
    same h x = cc
gap_read b shut pivots empties f (ranks.OutOfLimits x) e r = absurd (apart e)
  where
    apart : RankHitLimit x ≡ Unranked f → ⊥
    apart y = cc

-- a derived bound is printable, if its bases fit and it has few nodes
bound_fits : (p : Program) (b : Bound) → IsPrintableBound (length p.start_names) b → HasShortBases b → HasFew b
    → texts.IsPrintableBound (length p.start_names) b
bound_fits p b h bases few = record { tidy = h.0; listed = h.1; fits = record { bases = bases; nodes = few } }

module _ (p : Program) (pivots : ℕ) (valid : IsValid p) (fs : List Derivation)
    (good : ArePrintableBounds (length p.start_names) (bounds_of p fs)) (few : HaveFew (bounds_of p fs)) where
  -- the gap of an answer to a rank question is printable
  answer_fits : (t : ℕ) (g : Gap) (set : List ℕ) (shut : List SymbolPlace) → AreShutOf p (bounds_of p fs) set shut
      → HasShortNumbers g → (answer : Ranking) → (searches_of_program p pivots).Ranks set t shut answer
      → AnswersRanking (setting_of p) (bounds_of p fs) answer (Lacks (OfTime (NoFunction g)))
      → IsPrintableGap (length p.symbols) g
  answer_fits t g set shut are short (Ranked node) answered is_answer = absurd (apart _ is_answer.1)
    where
      apart : (m : ℕ) → OfTime (NoFunction g) ≡ OfTime (TimeLarge m) → ⊥
      apart m x = cc
  answer_fits t g set shut are short (Unranked f) answered is_answer =
      gap_fits p pivots (bounds_of p fs) t set shut answered.0 g valid are
      (subst (IsReadOff (ranked_set p set t shut) shut pivots answered.0) (sym (same is_answer))
      (gap_read (ranked_set p set t shut) shut pivots answered.0 f answered.2.0 answered.2.1 answered.2.2)) short
    where
      same : Lacks (OfTime (NoFunction g)) ≡ Lacks (OfTime (NoFunction f)) → g ≡ f
      same x = cc
  answer_fits t g set shut are short (RankHitLimit x) answered is_answer = absurd (apart is_answer)
    where
      apart : Lacks (OfTime (NoFunction g)) ≡ Lacks (OfTime (TimeHitLimit x)) → ⊥
      apart y = cc

  -- the gap of the result for a rule is printable
  printed_gap_fits : (t : ℕ) (g : Gap) → HasShortNumbers g
      → AnswersTime (searches_of_program p pivots) (setting_of p) (bounds_of p fs) t (Lacks (OfTime (NoFunction g)))
      → IsPrintableGap (length p.symbols) g
  printed_gap_fits t g short h =
      answer_fits t g h.asked.set h.asked.shut h.asked.are_shut short h.asked.answer h.asked.answered h.is_answer

  -- the reason why a time is missing is printable
  no_time_fits : (t : ℕ) (why : NoTime) → IsNoBound (searches_of_program p pivots) (setting_of p) fs t 0 (OfTime why)
      → ReasonFits why → IsPrintableNoTime (length p.symbols) why
  no_time_fits t (TimeHitLimit x) h fits = fits
  no_time_fits t (TimeLarge m) h fits = fits
  no_time_fits t (NoFunction g) h fits = by h.target h.asked h.is_answer
    where
      by : (x : Target) → IsAskedFor (searches_of_program p pivots) (setting_of p) t 0 x
          → AnswersTarget (searches_of_program p pivots) (setting_of p) (bounds_of p fs) x (Lacks (OfTime (NoFunction g)))
          → IsPrintableGap (length p.symbols) g
      by (TimeOf u) asked is_answer = printed_gap_fits u g fits is_answer
      by (SizesOf keys) asked is_answer = absurd asked

  -- the times from rule k on are printable
  times_fit : (k : ℕ) (times : List Time) → AreTimesOf (searches_of_program p pivots) p fs k times
      → AllByRecursion TimeFits times → AllByRecursion (IsPrintableTime p) times
  times_fit k [] h fits = tt
  times_fit k (Timed b ∷ times) h fits =
      (bound_fits p b (good.each k 0 b h.0) fits.0 (few.each k 0 b h.0), times_fit (suc k) times h.1 fits.1)
  times_fit k (Untimed why ∷ times) h fits =
      (no_time_fits k why h.0 fits.0, times_fit (suc k) times h.1 fits.1)

  -- the sizes of rule t from place i on are printable
  sizes_fit : (t i : ℕ) (sizes : List Size) → AreSizesOf (searches_of_program p pivots) p fs t i sizes
      → AllByRecursion SizeFits sizes → AllByRecursion (IsPrintableSize p) sizes
  sizes_fit t i [] h fits = tt
  sizes_fit t i (Sized b ∷ sizes) h fits =
      (bound_fits p b (good.each t i b h.0) fits.0 (few.each t i b h.0), sizes_fit t (suc i) sizes h.1 fits.1)
  sizes_fit t i (Unsized why ∷ sizes) h fits = (fits.0, sizes_fit t (suc i) sizes h.1 fits.1)

  -- the sizes of the rules from t on are printable
  rows_fit : (t : ℕ) (rows : List (List Size)) → AreSizeRowsOf (searches_of_program p pivots) p fs t rows
      → AllByRecursion (AllByRecursion SizeFits) rows → AllByRecursion (AllByRecursion (IsPrintableSize p)) rows
  rows_fit t [] h fits = tt
  rows_fit t (row ∷ rows) h fits = (sizes_fit t 1 row h.0 fits.0, rows_fit (suc t) rows h.1 fits.1)

-- each bound on a cost over these bounds is printable
abbrev ArePrintableCosts : Program → ℕ → List Derivation → Type 0
ArePrintableCosts p pivots fs = (t : ℕ) (by : CostBy) → IsCostOf p pivots (over (bounds_of p fs)) t (BoundedBy by)
    → IsPrintableBound (length p.start_names) (stated_cost (setting_of p) (over (bounds_of p fs)) t by)

-- the costs from rule k on are printable
costs_fit : (p : Program) (pivots : ℕ) (fs : List Derivation) → ArePrintableCosts p pivots fs → (k : ℕ)
    (costs : List (Option RuleCost)) → AreCostsOver p pivots (bounds_of p fs) k costs → AllByRecursion CostFits costs
    → AllByRecursion (IsPrintableCost p) costs
costs_fit p pivots fs good k [] h fits = tt
costs_fit p pivots fs good k (None ∷ costs) h fits = (tt, costs_fit p pivots fs good (suc k) costs h.1 fits.1)
costs_fit p pivots fs good k (Some (Costed b) ∷ costs) h fits = (
  bound_fits p b (subst (IsPrintableBound (length p.start_names)) (sym h.0.2) (good k h.0.0 h.0.1)) fits.0
      (subst HasFew (sym h.0.2) (cost_few p pivots (over (bounds_of p fs)) k h.0.0 h.0.1)),
  costs_fit p pivots fs good (suc k) costs h.1 fits.1,
)
costs_fit p pivots fs good k (Some (Uncosted why) ∷ costs) h fits =
    (fits.0, costs_fit p pivots fs good (suc k) costs h.1 fits.1)

-- the bounds on what rules with printable times and costs spend are tidy, over the start arguments
spent_fits : (p : Program) (t : Time) (c : Option RuleCost) (rest : List (Option Bound)) → IsPrintableTime p t
    → IsPrintableCost p c → ArePrintable (length p.start_names) rest
    → ArePrintable (length p.start_names) (spent_in t c ∷ rest)
spent_fits p (Timed b) None rest h k more = ((h.tidy, h.listed), more)
spent_fits p (Untimed why) None rest h k more = more
spent_fits p t (Some (Costed b)) rest h k more = ((k.tidy, k.listed), more)
spent_fits p t (Some (Uncosted why)) rest h k more = more

spendings_fit : (p : Program) (times : List Time) (costs : List (Option RuleCost))
    → AllByRecursion (IsPrintableTime p) times → AllByRecursion (IsPrintableCost p) costs
    → ArePrintable (length p.start_names) (spendings times costs)
spendings_fit p [] costs h k = tt
spendings_fit p (t ∷ times) [] h k = tt
spendings_fit p (t ∷ times) (c ∷ costs) h k =
    spent_fits p t c (spendings times costs) h.0 k.0 (spendings_fit p times costs h.1 k.1)

-- the total of printable bounds is printable
total_fits : (p : Program) (spent : List (Option Bound)) (total : Option Bound)
    → ArePrintable (length p.start_names) spent → total ≡ total_of spent → TotalFits total → IfSome total HasFew
    → IsPrintableTotal p total
total_fits p spent None h e fits few = tt
total_fits p spent (Some b) h e fits few =
    let tidy = found_printable.totals (length p.start_names) spent b h (sym e) in
    bound_fits p b tidy fits few

-- the report of an analysis whose numbers fit is printable, if its total has few nodes
analysis_fits : (p : Program) (pivots : ℕ) (r : Report) → IsValid p → IsAnalysis p pivots r → ReportFits r
    → HasFewNodes r → IsPrintableReport p r
analysis_fits p pivots r valid h fits few_nodes = record {
  times = times;
  costs = costs;
  total = total_fits p (spendings r.times r.costs) r.total (spendings_fit p r.times r.costs times costs) h.total fits.total few_nodes;
  sizes = rows_fit p pivots valid h.derivations good few 1 r.sizes h.sizes fits.sizes;
}
  where
    good : ArePrintableBounds (length p.start_names) (bounds_of p h.derivations)
    good = found_printable.derivations p pivots h.derivations valid h.last.made

    few : HaveFew (bounds_of p h.derivations)
    few = derivations_few p pivots h.derivations valid h.last.made

    times : AllByRecursion (IsPrintableTime p) r.times
    times = times_fit p pivots valid h.derivations good few 1 r.times h.times fits.times

    good_costs : ArePrintableCosts p pivots h.derivations
    good_costs t by is = found_printable.costs p pivots h.derivations t by valid h.last.made is

    costs : AllByRecursion (IsPrintableCost p) r.costs
    costs = costs_fit p pivots h.derivations good_costs 1 r.costs h.costs fits.costs

-- the reports of two analyses with one text are the same
one_analysis : (p : Program) (pivots others : ℕ) (text : List ℕ) (r q : Report) → IsValid p → IsAnalysis p pivots r
    → ReportFits r → HasFewNodes r → IsAnalysis p others q → ReportFits q → HasFewNodes q → States p text r
    → States p text q → r ≡ q
one_analysis p pivots others text r q valid h fits few k fit less x y =
    one_report.each p text r q valid (analysis_fits p pivots r valid h fits few)
    (analysis_fits p others q valid k fit less) x y

-- the reports that two calls wrote with one text for one program are the same
one_written : (call other : Call) (put more : SinkUse) (pivots others : ℕ) (file second : Word) (r q : Report)
    (a : WroteReport call put pivots file r) (b : WroteReport other more others second q) → a.program ≡ b.program
    → a.text ≡ b.text → HasFewNodes r → HasFewNodes q → r ≡ q
one_written call other put more pivots others file second r q a b same text few less =
    one_analysis a.program pivots others a.text r q (spelled_valid a.given.bytes a.program a.given.stands) a.found.found
    a.fits few (subst (λ (p : Program). IsAnalysis p others q) (sym same) b.found.found) b.fits less a.stated
    (subst (λ (x : List ℕ). States a.program x q) (sym text)
    (subst (λ (p : Program). States p b.text q) (sym same) b.stated))

-- the report of an analysis whose numbers fit is determined by its text, if its total has few nodes
pub reports_are_determined : AnalysisTextsStateOneReport
reports_are_determined = record {
  printable = analysis_fits;
  no_other = λ p pivots text r q valid h fits few printable x y.
      one_report.each p text r q valid (analysis_fits p pivots r valid h fits few) printable x y;
  of_analyses = one_analysis;
  of_calls = one_written;
}
