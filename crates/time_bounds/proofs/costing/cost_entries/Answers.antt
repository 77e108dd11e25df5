use Rattle.std.proofs.Common.{◌+◌, List, length, map, Option, sym, ap, subst, arith}
use Rattle.std.proofs.lemmas.List.{length-map, length_push}
use Rattle.its_model.specs.Views.{rule_of}
use Rattle.cert_types.specs.Views.{proof_of}
use Rattle.outcome.specs.declared.entry.CostEntry.{CostEntry}
use Rattle.size_bounds.specs.Tables.{bounds_in, number_at}
use Rattle.time_bounds.specs.CostEntries.{AreCostEntries}
use Rattle.time_bounds.specs.Questions.{program_in}
use Rattle.time_bounds.proofs.CostEntries.{entry_pushed, no_entries}
use Rattle.time_bounds.proofs.costing.cost_entries.Goals as goal

pub loop-i-init : goal.loop-i-init
loop-i-init c =
    let cx = c.args.cx.now in
    record {
      one_each = ap (λ (es : List (Option CostEntry)). length es) c.new-costs.ensures.items;
      few = omega arith;
      entries =
          subst (λ (es : List (Option CostEntry)). AreCostEntries (program_in cx) cx.pivots (bounds_in c.args.table.now)
          (number_at c.args.table.now) (map proof_of c.args.lemmas.items) es (map proof_of c.args.lemmas.items))
          (sym c.new-costs.ensures.items)
          (no_entries (program_in cx) cx.pivots (bounds_in c.args.table.now) (number_at c.args.table.now)
          (map proof_of c.args.lemmas.items));
    }

pub cost_entry-requires-clause-few : goal.cost_entry-requires-clause-few
cost_entry-requires-clause-few c =
    let cx = c.args.cx.now in
    omega (
      arith,
      c.requires.few,
      c.loop-i.invariant.few,
      c.loop-i-test.true,
      c.requires.ready.valid.few_rules,
      length-map cx.program.now.rules.items rule_of,
    )

pub loop-i-preserved : goal.loop-i-preserved
loop-i-preserved c =
    let cx = c.args.cx.now in
    record {
      one_each = omega (
        arith,
        ap (λ (es : List (Option CostEntry)). length es) c.in_ok-push.ensures.items,
        length_push c.loop-i.costs.items c.in_ok-cost_entry.field-0,
        c.loop-i.invariant.one_each,
      );
      few = omega (arith, c.loop-i.invariant.few, c.in_ok-cost_entry.ensures.few);
      entries =
          subst (λ (es : List (Option CostEntry)). AreCostEntries (program_in cx) cx.pivots (bounds_in c.args.table.now)
          (number_at c.args.table.now) (map proof_of c.args.lemmas.items) es (map proof_of c.cost_entry.new.lemmas.items))
          (sym c.in_ok-push.ensures.items)
          (entry_pushed (program_in cx) cx.pivots (bounds_in c.args.table.now) (number_at c.args.table.now)
          (map proof_of c.args.lemmas.items) c.loop-i.costs.items c.in_ok-cost_entry.field-0 (map proof_of c.loop-i.lemmas.items)
          (map proof_of c.cost_entry.new.lemmas.items) (c.loop-i.i + 1) c.loop-i.invariant.entries
          (omega (arith, c.loop-i.invariant.one_each)) c.in_ok-cost_entry.ensures.adds);
    }

pub returns-clause-one_each : goal.returns-clause-one_each
returns-clause-one_each c =
    omega (
      arith,
      c.loop-i.invariant.one_each,
      c.loop-i-test.false,
      length-map c.args.cx.now.program.now.rules.items rule_of,
    )

pub returns-clause-entries : goal.returns-clause-entries
returns-clause-entries c = c.loop-i.invariant.entries
