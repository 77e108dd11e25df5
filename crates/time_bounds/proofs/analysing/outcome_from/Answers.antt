use Rattle.std.proofs.Common.{List, length, map, Vec, Option, Some, All, sym, ◌∙◌, ap, subst, arith}
use Rattle.std.specs.Option.{option_map}
use Rattle.std.specs.declared.alloc.Global.{Global}
use Rattle.std.proofs.lemmas.List.{length-map}
use Rattle.outcome.specs.Reports.{Size}
use Rattle.outcome.specs.Views.{cost_of, size_of, time_of}
use Rattle.outcome.specs.declared.entry.CostEntry.{CostEntry}
use Rattle.outcome.specs.declared.entry.SizeEntry.{SizeEntry}
use Rattle.outcome.specs.declared.entry.TimeEntry.{TimeEntry}
use Rattle.outcome.specs.declared.outcome_of.Outcome.{Outcome}
use Rattle.cert_types.specs.Views.{proof_of}
use Rattle.cert_types.specs.cert_program.Setting.{setting_of}
use Rattle.cert_types.specs.cert_rules.Nodes.{Proof}
use Rattle.bound_derivations.specs.Views.{derivations_of}
use Rattle.bound_derivations.proofs.FewDerivations.{made-few}
use Rattle.bound_fixpoint.specs.Derivations.{number_in}
use Rattle.bound_fixpoint.specs.Keys.{Bounds, lacks}
use Rattle.bound_fixpoint.specs.Needs.{lemma_by}
use Rattle.size_bounds.specs.Tables.{bounds_in, number_at}
use Rattle.time_bounds.specs.declared.sizing.ComponentAttempt.{ComponentAttempt}
use Rattle.time_bounds.specs.Analysis.{AreCostsOver}
use Rattle.time_bounds.specs.CostEntries.{AreCostEntries}
use Rattle.time_bounds.specs.ProgramSearches.{searches_of_program}
use Rattle.time_bounds.specs.Questions.{program_in}
use Rattle.time_bounds.specs.RoundsMade.{known_with}
use Rattle.time_bounds.specs.SizeSaid.{said_table, put_whys, AreThere}
use Rattle.time_bounds.specs.TimesSaid.{AreTimesOver}
use Rattle.time_bounds.specs.Totals.{spendings_by, total_of}
use Rattle.time_bounds.specs.TriedRules.{AreAskedOver}
use Rattle.time_bounds.proofs.SizeNumbers.{rows_left}
use Rattle.time_bounds.proofs.OneProgram.{program_searches_one}
use Rattle.time_bounds.proofs.OutcomeLemmas.{has_lemmas}
use Rattle.time_bounds.proofs.RightSizings.{program_searches_right}
use Rattle.time_bounds.proofs.MadeRounds.{round_closed}
use Rattle.time_bounds.proofs.SaidSizes.{all_there, many}
use Rattle.time_bounds.proofs.TablesOver.{bounds_same}
use Rattle.time_bounds.proofs.WholeAnalysis.{at_last, none_sized, removed_analysis}
use Rattle.time_bounds.proofs.analysing.outcome_from.Goals as goal

pub size_entries-requires-clause-one_each : goal.size_entries-requires-clause-one_each
size_entries-requires-clause-one_each c =
    ap (λ (xs : List ComponentAttempt). length xs) c.deref.ensures.value ∙ c.requires.last.tried

pub size_entries-requires-clause-there : goal.size_entries-requires-clause-there
size_entries-requires-clause-there c =
    let cx = c.args.cx.now in
    let p = program_in cx in
    let derivations = c.args.derived.derivations.items in
    let b = known_with cx derivations in
    let cs = c.args.candidates.now in
    let xs = c.args.kept.attempts.items in
    subst (λ (ys : List ComponentAttempt). All AreThere (put_whys (said_table c.args.derived.table) cs ys)) (sym c.deref.ensures.value)
    (all_there p cx.pivots c.args.derived.table derivations c.requires.derived cs c.requires.candidates c.requires.made xs
    (at_last p cx.pivots b cs xs c.requires.last.attempts c.requires.last.tried)
    (none_sized p cx.pivots b cs xs c.requires.last.attempts c.requires.last.tried))

pub remove-requires : goal.remove-requires
remove-requires c =
    let cx = c.args.cx.now in
    let p = program_in cx in
    let derivations = c.args.derived.derivations.items in
    let b = known_with cx derivations in
    let cs = c.args.candidates.now in
    let xs = c.args.kept.attempts.items in
    let told = c.in_ok-sizes.ensures.sizes
    ∙ ap (λ (ys : List ComponentAttempt). put_whys (said_table c.args.derived.table) cs ys) c.deref.ensures.value in
    let long = ap (λ (rs : List (List (Option Size))). length rs) told in
    let rows = length-map c.in_ok-sizes.sizes.items (λ (row : Vec SizeEntry Global). map (λ e. Some (size_of e)) row.items) in
    let some = many p cx.pivots c.args.derived.table derivations c.requires.derived cs c.requires.candidates c.requires.made xs
    (at_last p cx.pivots b cs xs c.requires.last.attempts c.requires.last.tried)
    (none_sized p cx.pivots b cs xs c.requires.last.attempts c.requires.last.tried) in
    omega (arith, long, rows, some, c.in_ok-sizes.sizes.ok.0)

pub time_entries-requires-clause-start : goal.time_entries-requires-clause-start
time_entries-requires-clause-start c = ap lacks (c.requires.derived.bounds 0 0)

pub time_entries-requires-clause-asked : goal.time_entries-requires-clause-asked
time_entries-requires-clause-asked c =
    let cx = c.args.cx.now in
    subst (λ (b : Bounds). AreAskedOver (program_in cx) b b cx.pivots cx.empties.items 1 c.args.kept.asked.items)
    (sym (bounds_same (program_in cx) c.args.derived.table c.args.derived.derivations.items c.requires.derived)) c.requires.last.asked

pub time_entries-requires-clause-few : goal.time_entries-requires-clause-few
time_entries-requires-clause-few c = omega (arith, c.requires.last.one_each, c.requires.ready.valid.few_rules)

pub time_entries-requires-clause-rules : goal.time_entries-requires-clause-rules
time_entries-requires-clause-rules c = omega (arith, c.requires.last.one_each)

pub cost_entries-requires-clause-few : goal.cost_entries-requires-clause-few
cost_entries-requires-clause-few c =
    let cx = c.args.cx.now in
    let p = program_in cx in
    let fs = derivations_of c.args.derived.derivations.items in
    let few = made-few (searches_of_program p cx.pivots) (setting_of p) c.requires.ready.valid
    (program_searches_right.each p cx.pivots c.requires.ready.valid) (program_searches_one.each p cx.pivots) fs c.requires.made in
    omega (
      arith,
      few,
      ap (λ (ls : List Proof). length ls) (c.in_ok-lemmas.ensures p c.requires.derived),
      length-map c.in_ok-lemmas.lemmas.items proof_of,
      length-map fs (λ f. lemma_by (number_in fs) f.node f.premises),
    )

pub total-requires : goal.total-requires
total-requires c =
    omega (
      arith,
      ap (λ (es : List TimeEntry). length es) c.deref-2.ensures.value,
      ap (λ (es : List (Option CostEntry)). length es) c.deref-3.ensures.value,
      c.in_ok-times.ensures.one_each,
      c.requires.last.one_each,
      c.in_ok-costs.ensures.one_each,
    )

pub returns-clause-found : goal.returns-clause-found
returns-clause-found c =
    let cx = c.args.cx.now in
    let p = program_in cx in
    let derivations = c.args.derived.derivations.items in
    let b = known_with cx derivations in
    let cs = c.args.candidates.now in
    let xs = c.args.kept.attempts.items in
    let o : Outcome = record {
      times = c.in_ok-times.field-0.times;
      sizes = c.remove.new.self;
      costs = c.in_ok-costs.field-0.costs;
      total = c.in_ok-total.total;
      lemmas = c.in_ok-costs.field-0.lemmas;
      gaps = c.in_ok-times.field-0.gaps;
    } in
    let told = c.in_ok-sizes.ensures.sizes
    ∙ ap (λ (ys : List ComponentAttempt). put_whys (said_table c.args.derived.table) cs ys) c.deref.ensures.value in
    let total = c.in_ok-total.ensures
    ∙ (λ i. total_of (spendings_by (c.deref-2.ensures.value i) (c.deref-3.ensures.value i))) in
    let costs = subst (λ (d : Bounds). AreCostsOver p cx.pivots d 1 (map (option_map cost_of) c.in_ok-costs.field-0.costs.items))
    (bounds_same p c.args.derived.table derivations c.requires.derived) c.in_ok-costs.ensures.entries.each in
    (removed_analysis p cx.pivots cs c.args.derived.table derivations xs o c.requires.derived c.requires.candidates
    (round_closed cx cs derivations c.args.kept c.requires.made c.requires.last)
    (at_last p cx.pivots b cs xs c.requires.last.attempts c.requires.last.tried)
    (none_sized p cx.pivots b cs xs c.requires.last.attempts c.requires.last.tried) c.in_ok-sizes.sizes.items told c.remove.ensures.items
    (c.in_ok-times.ensures.one_each ∙ c.requires.last.one_each)
    (subst (λ (d : Bounds). AreTimesOver (searches_of_program p cx.pivots) p d 1
    (map (time_of c.in_ok-times.field-0.gaps.items) c.in_ok-times.field-0.times.items))
    (bounds_same p c.args.derived.table derivations c.requires.derived) c.in_ok-times.ensures.said) c.in_ok-costs.ensures.one_each
    costs total).0

pub returns-clause-lemmas : goal.returns-clause-lemmas
returns-clause-lemmas c =
    let cx = c.args.cx.now in
    let p = program_in cx in
    let derivations = c.args.derived.derivations.items in
    let b = known_with cx derivations in
    let cs = c.args.candidates.now in
    let xs = c.args.kept.attempts.items in
    let o : Outcome = record {
      times = c.in_ok-times.field-0.times;
      sizes = c.remove.new.self;
      costs = c.in_ok-costs.field-0.costs;
      total = c.in_ok-total.total;
      lemmas = c.in_ok-costs.field-0.lemmas;
      gaps = c.in_ok-times.field-0.gaps;
    } in
    let told = c.in_ok-sizes.ensures.sizes
    ∙ ap (λ (ys : List ComponentAttempt). put_whys (said_table c.args.derived.table) cs ys) c.deref.ensures.value in
    let total = c.in_ok-total.ensures
    ∙ (λ i. total_of (spendings_by (c.deref-2.ensures.value i) (c.deref-3.ensures.value i))) in
    let costs = subst (λ (d : Bounds). AreCostsOver p cx.pivots d 1 (map (option_map cost_of) c.in_ok-costs.field-0.costs.items))
    (bounds_same p c.args.derived.table derivations c.requires.derived) c.in_ok-costs.ensures.entries.each in
    let analysis = removed_analysis p cx.pivots cs c.args.derived.table derivations xs o c.requires.derived c.requires.candidates
    (round_closed cx cs derivations c.args.kept c.requires.made c.requires.last)
    (at_last p cx.pivots b cs xs c.requires.last.attempts c.requires.last.tried)
    (none_sized p cx.pivots b cs xs c.requires.last.attempts c.requires.last.tried) c.in_ok-sizes.sizes.items told c.remove.ensures.items
    (c.in_ok-times.ensures.one_each ∙ c.requires.last.one_each)
    (subst (λ (d : Bounds). AreTimesOver (searches_of_program p cx.pivots) p d 1
    (map (time_of c.in_ok-times.field-0.gaps.items) c.in_ok-times.field-0.times.items))
    (bounds_same p c.args.derived.table derivations c.requires.derived) c.in_ok-times.ensures.said) c.in_ok-costs.ensures.one_each
    costs total in
    has_lemmas p cx.pivots c.args.derived.table derivations o c.requires.ready.valid c.requires.derived analysis
    (subst (λ (ls : List Proof). AreCostEntries p cx.pivots (bounds_in c.args.derived.table) (number_at c.args.derived.table) ls
    c.in_ok-costs.field-0.costs.items (map proof_of c.in_ok-costs.field-0.lemmas.items)) (c.in_ok-lemmas.ensures p c.requires.derived)
    c.in_ok-costs.ensures.entries)
    c.in_ok-times.ensures.carried
    (rows_left (number_at c.args.derived.table) c.in_ok-sizes.sizes.items c.remove.new.self.items c.remove.ensures.items c.in_ok-sizes.ensures.carried)
    c.in_ok-times.ensures.in_order c.in_ok-times.ensures.hold
