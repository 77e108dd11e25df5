use Rattle.std.proofs.Common.{List, ◌++◌, sym, ◌∙◌, ap, subst, map}
use Rattle.guard_prep.specs.declared.rule_rows.RuleRows.{RuleRows}
use Rattle.cert_types.specs.declared.side_bound.Member.{Member}
use Rattle.cert_types.specs.cert_rules.Known.{Table}
use Rattle.cert_types.specs.cert_program.Setting.{setting_of}
use Rattle.cert_types.specs.Views.{member_of}
use Rattle.size_nodes.specs.Members.{IsMemberOfProgram, AreMembersOfProgram}
use Rattle.size_bounds.specs.Tables.{table_of}
use Rattle.size_nodes.specs.Sizings.{IsSpreadSizing, IsCycleSizing}
use Rattle.bound_fixpoint.specs.Derivations as plain
use Rattle.bound_derivations.specs.Views.{derivations_of}
use Rattle.time_bounds.specs.Attempts.{IsSizeStep, has_side_bounds, derivations_by, node_in}
use Rattle.time_bounds.specs.Candidates.{result_variables_in}
use Rattle.time_bounds.specs.Questions.{program_in}
use Rattle.time_bounds.specs.RoundsMade.{known_with}
use Rattle.time_bounds.proofs.SizeRounds.{places_open}
use Rattle.time_bounds.proofs.TablesOver.{table_with}
use Rattle.time_bounds.proofs.ComponentTries.{all_taken, armless, taken, spread_gives, cycle_gives, given_alone, given_loop}
use Rattle.time_bounds.proofs.sizing.try_side_bounds.Goals as goal

pub returns-in-Lacking-clause-step : goal.returns-in-Lacking-clause-step
returns-in-Lacking-clause-step c =
    armless (program_in c.args.cx.now) c.args.cx.now.pivots c.requires.candidate.0 c.args.derived.now.derivations.items c.args.candidate.now
    c.in-Lacking.field-0 c.requires.candidate.1 c.in-Lacking.is c.requires.lacking

pub sized_spread-requires : goal.sized_spread-requires
sized_spread-requires c =
    let p = program_in c.args.cx.now in (
      p,
      subst (λ (prepared_rules : List RuleRows). IsMemberOfProgram p c.args.cx.now.graph prepared_rules (member_of c.in-Alone.member)) (sym c.deref.ensures.value)
          (given_alone p c.args.cx.now.pivots c.requires.candidate.0 c.args.candidate.now c.in-Alone.member c.args.cx.now.graph
          c.args.cx.now.prepared_rules.items c.requires.ready.valid c.requires.ready.graph c.requires.ready.rows c.requires.candidate.1 c.in-Alone.is),
    )

pub take-requires-clause-side_bounds : goal.take-requires-clause-side_bounds
take-requires-clause-side_bounds c = ap has_side_bounds c.in-Alone.is

pub take-requires-clause-open : goal.take-requires-clause-open
take-requires-clause-open c =
    places_open (program_in c.args.cx.now) (derivations_of c.args.derived.now.derivations.items) c.args.candidate.now c.requires.within c.requires.uniform
    c.requires.lacking

pub returns-in_ok-sizing-in-Alone-clause-step : goal.returns-in_ok-sizing-in-Alone-clause-step
returns-in_ok-sizing-in-Alone-clause-step c =
    let p = program_in c.args.cx.now in
    let old = c.args.derived.now.derivations.items in
    let new = c.take.new.derived.derivations.items in
    let cand = c.args.candidate.now in
    let a = c.in_ok-sizing-in-Alone.sizing in
    let given = subst (λ (prepared_rules : List RuleRows). IsMemberOfProgram p c.args.cx.now.graph prepared_rules (member_of c.in-Alone.member)) (sym c.deref.ensures.value)
    (given_alone p c.args.cx.now.pivots c.requires.candidate.0 cand c.in-Alone.member c.args.cx.now.graph c.args.cx.now.prepared_rules.items
    c.requires.ready.valid c.requires.ready.graph c.requires.ready.rows c.requires.candidate.1 c.in-Alone.is) in
    let says = subst (λ (t : Table). IsSpreadSizing (setting_of p) t (member_of c.in-Alone.member) a)
    (table_with p c.args.derived.now.table old c.requires.derived) (c.in_ok-sizing-in-Alone.ensures p given) in
    let node = ap node_in c.in-Alone.is in
    let gives = spread_gives p c.args.cx.now.pivots c.requires.candidate.0 cand c.in-Alone.member
    (known_with c.args.cx.now old) a c.requires.candidate.1 c.in-Alone.is says in
    all_taken c.take.result _ (λ x. IsSizeStep p c.args.cx.now.pivots old cand x new) _
    (λ x is grown. taken p c.args.cx.now.pivots old new cand _ a x c.requires.lacking gives is
    (grown ∙ ap (λ (n : plain.Node). derivations_of old ++ derivations_by (result_variables_in cand) n a) node)) c.take.ensures.attempt c.take.ensures.derivations

pub sized_cycle-requires : goal.sized_cycle-requires
sized_cycle-requires c =
    let p = program_in c.args.cx.now in (
      p,
      subst (λ (prepared_rules : List RuleRows). AreMembersOfProgram p c.args.cx.now.graph prepared_rules (map member_of c.deref-in-Loop-2.result.now))
          (sym c.deref-in-Loop.ensures.value)
          (subst (λ (ms : List Member). AreMembersOfProgram p c.args.cx.now.graph c.args.cx.now.prepared_rules.items (map member_of ms))
          (sym c.deref-in-Loop-2.ensures.value)
          (given_loop p c.args.cx.now.pivots c.requires.candidate.0 c.args.candidate.now c.in-Loop.members c.args.cx.now.graph
          c.args.cx.now.prepared_rules.items c.requires.ready.valid c.requires.ready.graph c.requires.ready.rows c.requires.candidate.1 c.in-Loop.is)),
    )

pub take-requires-in-Loop-clause-side_bounds : goal.take-requires-in-Loop-clause-side_bounds
take-requires-in-Loop-clause-side_bounds c = ap has_side_bounds c.in-Loop.is

pub take-requires-in-Loop-clause-open : goal.take-requires-in-Loop-clause-open
take-requires-in-Loop-clause-open c =
    places_open (program_in c.args.cx.now) (derivations_of c.args.derived.now.derivations.items) c.args.candidate.now c.requires.within c.requires.uniform
    c.requires.lacking

pub returns-in_ok-sizing-in-Loop-clause-step : goal.returns-in_ok-sizing-in-Loop-clause-step
returns-in_ok-sizing-in-Loop-clause-step c =
    let p = program_in c.args.cx.now in
    let old = c.args.derived.now.derivations.items in
    let new = c.take-in-Loop.new.derived.derivations.items in
    let cand = c.args.candidate.now in
    let a = c.in_ok-sizing-in-Loop.sizing in
    let given = subst (λ (prepared_rules : List RuleRows). AreMembersOfProgram p c.args.cx.now.graph prepared_rules (map member_of c.deref-in-Loop-2.result.now))
    (sym c.deref-in-Loop.ensures.value)
    (subst (λ (ms : List Member). AreMembersOfProgram p c.args.cx.now.graph c.args.cx.now.prepared_rules.items (map member_of ms))
    (sym c.deref-in-Loop-2.ensures.value)
    (given_loop p c.args.cx.now.pivots c.requires.candidate.0 cand c.in-Loop.members c.args.cx.now.graph c.args.cx.now.prepared_rules.items
    c.requires.ready.valid c.requires.ready.graph c.requires.ready.rows c.requires.candidate.1 c.in-Loop.is)) in
    let says = subst (λ (t : Table). IsCycleSizing (setting_of p) t (map member_of c.in-Loop.members.items) a)
    (table_with p c.args.derived.now.table old c.requires.derived)
    (subst (λ (ms : List Member). IsCycleSizing (setting_of p) (table_of c.args.derived.now.table) (map member_of ms) a) c.deref-in-Loop-2.ensures.value
    (c.in_ok-sizing-in-Loop.ensures p given)) in
    let node = ap node_in c.in-Loop.is in
    let gives = cycle_gives p c.args.cx.now.pivots c.requires.candidate.0 cand c.in-Loop.members
    (known_with c.args.cx.now old) a c.requires.candidate.1 c.in-Loop.is says in
    all_taken c.take-in-Loop.result _ (λ x. IsSizeStep p c.args.cx.now.pivots old cand x new) _
    (λ x is grown. taken p c.args.cx.now.pivots old new cand _ a x c.requires.lacking gives is
    (grown ∙ ap (λ (n : plain.Node). derivations_of old ++ derivations_by (result_variables_in cand) n a) node)) c.take-in-Loop.ensures.attempt
    c.take-in-Loop.ensures.derivations
