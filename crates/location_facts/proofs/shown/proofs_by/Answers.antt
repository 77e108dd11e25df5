use Rattle.std.proofs.Common.{◌≡◌, ℕ, ◌+◌, ◌-◌, ap, arith, ◌∙◌, List, [], length, get_or, subst, sym}
use Rattle.std.specs.Prelude.{slice_get}
use Rattle.std.proofs.lemmas.List.Elements.{All-cons, All-nil}
use Rattle.cert_types.specs.guard_prep.declared.rule_rows.RuleRows.{RuleRows}
use Rattle.its_model.specs.Views.{program_of}
use Rattle.location_facts.specs.declared.fact.FactProof.{FactProof}
use Rattle.location_facts.specs.Elements.{IsMeasured, IsElement}
use Rattle.location_facts.specs.Implied.{AreImplied}
use Rattle.location_facts.specs.Due.{RefutesQueried}
use Rattle.location_facts.proofs.CombinedLists.{prepared-many}
use Rattle.location_facts.proofs.ElementRules.{element-measured, element-found}
use Rattle.location_facts.proofs.DueRules.{under-read, rows-read, answer-sound, rest-same}
use Rattle.location_facts.proofs.ProofSteps.{missed-read, proofs-longer, implied-read, proofs-all}
use Rattle.location_facts.proofs.ShownRules.{into-rule, number-read}
use Rattle.location_facts.proofs.UnderRules.{prepared_rule-read}
use Rattle.location_facts.proofs.shown.proofs_by.Goals as goal

pub overflow_sub-prepared_rule : goal.overflow_sub-prepared_rule
overflow_sub-prepared_rule c =
    (into-rule (program_of c.args.search.program.now) c.args.earlier.fact.symbol c.loop-k.k
    (get_or c.args.into.now c.loop-k.k 0)
    c.args.into.now c.requires.into (omega arith) (number-read c.args.into.now c.loop-k.k (omega arith))).0

pub bounds-search-rule : goal.bounds-search-rule
bounds-search-rule c =
    let w = (into-rule (program_of c.args.search.program.now) c.args.earlier.fact.symbol c.loop-k.k
    (get_or c.args.into.now c.loop-k.k 0)
    c.args.into.now c.requires.into (omega arith) (number-read c.args.into.now c.loop-k.k (omega arith))) in
    omega (
      arith,
      w.0,
      w.1,
      prepared-many (program_of c.args.search.program.now) c.args.search.prepared_rules.now
          c.requires.rows,
    )

pub overflow_sub-under : goal.overflow_sub-under
overflow_sub-under c = (into-rule (program_of c.args.search.program.now) c.args.earlier.fact.symbol c.loop-k.k
    (get_or c.args.into.now c.loop-k.k 0)
    c.args.into.now c.requires.into (omega arith) (number-read c.args.into.now c.loop-k.k (omega arith))).0

pub bounds-rules_under_facts-rule : goal.bounds-rules_under_facts-rule
bounds-rules_under_facts-rule c =
    let w = (into-rule (program_of c.args.search.program.now) c.args.earlier.fact.symbol c.loop-k.k
    (get_or c.args.into.now c.loop-k.k 0)
    c.args.into.now c.requires.into (omega arith) (number-read c.args.into.now c.loop-k.k (omega arith))) in
    omega (arith, w.0, w.1, c.requires.under.are.many)

pub proof_by-requires-clause-prepared : goal.proof_by-requires-clause-prepared
proof_by-requires-clause-prepared c =
    prepared_rule-read (program_of c.args.search.program.now) c.args.search.prepared_rules.now
    (get_or c.args.into.now c.loop-k.k 0)
    (get_or c.args.search.prepared_rules.now ((get_or c.args.into.now c.loop-k.k 0) - 1) c.index-search-rule.result)
    c.requires.valid c.requires.rows
    (into-rule (program_of c.args.search.program.now) c.args.earlier.fact.symbol c.loop-k.k
    (get_or c.args.into.now c.loop-k.k 0)
    c.args.into.now c.requires.into (omega arith) (number-read c.args.into.now c.loop-k.k (omega arith)))
    (ap (λ (x : RuleRows). get_or c.args.search.prepared_rules.now ((get_or c.args.into.now c.loop-k.k 0) - 1) x)
    c.index-search-rule.is)

pub proof_by-requires-clause-rows : goal.proof_by-requires-clause-rows
proof_by-requires-clause-rows c =
    rows-read (program_of c.args.search.program.now) c.args.search.prepared_rules.now c.args.search.pivots
    (slice_get c.requires.under.due ((get_or c.args.into.now c.loop-k.k 0) - 1)) c.requires.under.kept
    (get_or c.args.into.now c.loop-k.k 0)
    (get_or c.args.search.prepared_rules.now ((get_or c.args.into.now c.loop-k.k 0) - 1) c.index-search-rule.result)
    c.index-rules_under_facts-rule.result c.requires.rows
    (into-rule (program_of c.args.search.program.now) c.args.earlier.fact.symbol c.loop-k.k
    (get_or c.args.into.now c.loop-k.k 0)
    c.args.into.now c.requires.into (omega arith) (number-read c.args.into.now c.loop-k.k (omega arith)))
    (ap (λ (x : RuleRows). get_or c.args.search.prepared_rules.now ((get_or c.args.into.now c.loop-k.k 0) - 1) x)
    c.index-search-rule.is)
    (under-read (program_of c.args.search.program.now) c.args.search.pivots c.requires.under.due c.requires.under.kept
    c.args.rules_under_facts.now (get_or c.args.into.now c.loop-k.k 0)
    c.index-rules_under_facts-rule.result
    (into-rule (program_of c.args.search.program.now) c.args.earlier.fact.symbol c.loop-k.k
    (get_or c.args.into.now c.loop-k.k 0)
    c.args.into.now c.requires.into (omega arith) (number-read c.args.into.now c.loop-k.k (omega arith)))
    c.requires.under.are c.index-rules_under_facts-rule.is)

pub returns-in-Refuted-clause-verdict : goal.returns-in-Refuted-clause-verdict
returns-in-Refuted-clause-verdict c = λ due kept are stand.
    missed-read (program_of c.args.search.program.now) c.args.search.pivots kept c.args.earlier.fact c.loop-k.k
    (get_or c.args.into.now c.loop-k.k 0)
    c.args.into.now c.requires.into (omega arith) (number-read c.args.into.now c.loop-k.k (omega arith))
    (answer-sound (program_of c.args.search.program.now) c.args.search.prepared_rules.now c.args.search.pivots due kept
    c.args.earlier.fact
    c.args.earlier.proofs.items c.args.into.now c.loop-k.k (get_or c.args.into.now c.loop-k.k 0)
    (get_or c.args.search.prepared_rules.now ((get_or c.args.into.now c.loop-k.k 0) - 1) c.index-search-rule.result)
    c.index-rules_under_facts-rule.result _ _ c.in-Refuted.is c.requires.rows c.requires.into
    (omega arith) (number-read c.args.into.now c.loop-k.k (omega arith))
    (into-rule (program_of c.args.search.program.now) c.args.earlier.fact.symbol c.loop-k.k
    (get_or c.args.into.now c.loop-k.k 0)
    c.args.into.now c.requires.into (omega arith) (number-read c.args.into.now c.loop-k.k (omega arith)))
    (ap (λ (x : RuleRows). get_or c.args.search.prepared_rules.now ((get_or c.args.into.now c.loop-k.k 0) - 1) x)
    c.index-search-rule.is)
    (under-read (program_of c.args.search.program.now) c.args.search.pivots due kept c.args.rules_under_facts.now
    (get_or c.args.into.now c.loop-k.k 0)
    c.index-rules_under_facts-rule.result
    (into-rule (program_of c.args.search.program.now) c.args.earlier.fact.symbol c.loop-k.k
    (get_or c.args.into.now c.loop-k.k 0)
    c.args.into.now c.requires.into (omega arith) (number-read c.args.into.now c.loop-k.k (omega arith))) are
    c.index-rules_under_facts-rule.is) stand
    c.taken_proof-before.result (c.taken_proof-before.ensures.taken ∙ c.loop-k.invariant.same c.loop-k.k (omega arith))
    c.in_ok-proof.ensures.verdict)

pub returns-in-Refuted-clause-measured : goal.returns-in-Refuted-clause-measured
returns-in-Refuted-clause-measured c =
    All-cons (IsMeasured (program_of c.args.search.program.now)) _ []
    (element-measured (program_of c.args.search.program.now) c.args.search.prepared_rules.now c.args.search.pivots
    (get_or c.args.into.now c.loop-k.k 0)
    (get_or c.args.search.prepared_rules.now ((get_or c.args.into.now c.loop-k.k 0) - 1) c.index-search-rule.result)
    c.args.earlier.fact c.index-rules_under_facts-rule.result c.in-Refuted.at
    (into-rule (program_of c.args.search.program.now) c.args.earlier.fact.symbol c.loop-k.k
    (get_or c.args.into.now c.loop-k.k 0)
    c.args.into.now c.requires.into (omega arith) (number-read c.args.into.now c.loop-k.k (omega arith)))
    (subst (RefutesQueried _ _ c.index-rules_under_facts-rule.result) c.in-Refuted.is c.in_ok-proof.ensures.stands)
    (prepared_rule-read (program_of c.args.search.program.now) c.args.search.prepared_rules.now
    (get_or c.args.into.now c.loop-k.k 0)
    (get_or c.args.search.prepared_rules.now ((get_or c.args.into.now c.loop-k.k 0) - 1) c.index-search-rule.result)
    c.requires.valid c.requires.rows
    (into-rule (program_of c.args.search.program.now) c.args.earlier.fact.symbol c.loop-k.k
    (get_or c.args.into.now c.loop-k.k 0)
    c.args.into.now c.requires.into (omega arith) (number-read c.args.into.now c.loop-k.k (omega arith)))
    (ap (λ (x : RuleRows). get_or c.args.search.prepared_rules.now ((get_or c.args.into.now c.loop-k.k 0) - 1) x)
    c.index-search-rule.is)))
    (All-nil (IsMeasured (program_of c.args.search.program.now)))

pub returns-in-Refuted-clause-elements : goal.returns-in-Refuted-clause-elements
returns-in-Refuted-clause-elements c = λ due kept are stand.
    All-cons (IsElement (program_of c.args.search.program.now) c.args.search.pivots kept) _ []
    (element-found (program_of c.args.search.program.now) c.args.search.prepared_rules.now c.args.search.pivots
    (get_or c.args.into.now c.loop-k.k 0)
    (get_or c.args.search.prepared_rules.now ((get_or c.args.into.now c.loop-k.k 0) - 1) c.index-search-rule.result)
    c.args.earlier.fact c.index-rules_under_facts-rule.result c.in-Refuted.at
    (into-rule (program_of c.args.search.program.now) c.args.earlier.fact.symbol c.loop-k.k
    (get_or c.args.into.now c.loop-k.k 0)
    c.args.into.now c.requires.into (omega arith) (number-read c.args.into.now c.loop-k.k (omega arith)))
    (subst (RefutesQueried _ _ c.index-rules_under_facts-rule.result) c.in-Refuted.is c.in_ok-proof.ensures.stands)
    (slice_get due ((get_or c.args.into.now c.loop-k.k 0) - 1)) kept
    (under-read (program_of c.args.search.program.now) c.args.search.pivots due kept c.args.rules_under_facts.now
    (get_or c.args.into.now c.loop-k.k 0)
    c.index-rules_under_facts-rule.result
    (into-rule (program_of c.args.search.program.now) c.args.earlier.fact.symbol c.loop-k.k
    (get_or c.args.into.now c.loop-k.k 0)
    c.args.into.now c.requires.into (omega arith) (number-read c.args.into.now c.loop-k.k (omega arith))) are
    c.index-rules_under_facts-rule.is)
    (answer-sound (program_of c.args.search.program.now) c.args.search.prepared_rules.now c.args.search.pivots due kept
    c.args.earlier.fact
    c.args.earlier.proofs.items c.args.into.now c.loop-k.k (get_or c.args.into.now c.loop-k.k 0)
    (get_or c.args.search.prepared_rules.now ((get_or c.args.into.now c.loop-k.k 0) - 1) c.index-search-rule.result)
    c.index-rules_under_facts-rule.result _ _ c.in-Refuted.is c.requires.rows c.requires.into
    (omega arith) (number-read c.args.into.now c.loop-k.k (omega arith))
    (into-rule (program_of c.args.search.program.now) c.args.earlier.fact.symbol c.loop-k.k
    (get_or c.args.into.now c.loop-k.k 0)
    c.args.into.now c.requires.into (omega arith) (number-read c.args.into.now c.loop-k.k (omega arith)))
    (ap (λ (x : RuleRows). get_or c.args.search.prepared_rules.now ((get_or c.args.into.now c.loop-k.k 0) - 1) x)
    c.index-search-rule.is)
    (under-read (program_of c.args.search.program.now) c.args.search.pivots due kept c.args.rules_under_facts.now
    (get_or c.args.into.now c.loop-k.k 0)
    c.index-rules_under_facts-rule.result
    (into-rule (program_of c.args.search.program.now) c.args.earlier.fact.symbol c.loop-k.k
    (get_or c.args.into.now c.loop-k.k 0)
    c.args.into.now c.requires.into (omega arith) (number-read c.args.into.now c.loop-k.k (omega arith))) are
    c.index-rules_under_facts-rule.is) stand
    c.taken_proof-before.result (c.taken_proof-before.ensures.taken ∙ c.loop-k.invariant.same c.loop-k.k (omega arith))
    c.in_ok-proof.ensures.verdict))
    (All-nil (IsElement (program_of c.args.search.program.now) c.args.search.pivots kept))

pub returns-in-Missed-clause-verdict : goal.returns-in-Missed-clause-verdict
returns-in-Missed-clause-verdict c = λ due kept are stand.
    missed-read (program_of c.args.search.program.now) c.args.search.pivots kept c.args.earlier.fact c.loop-k.k
    (get_or c.args.into.now c.loop-k.k 0)
    c.args.into.now c.requires.into (omega arith) (number-read c.args.into.now c.loop-k.k (omega arith))
    (answer-sound (program_of c.args.search.program.now) c.args.search.prepared_rules.now c.args.search.pivots due kept
    c.args.earlier.fact
    c.args.earlier.proofs.items c.args.into.now c.loop-k.k (get_or c.args.into.now c.loop-k.k 0)
    (get_or c.args.search.prepared_rules.now ((get_or c.args.into.now c.loop-k.k 0) - 1) c.index-search-rule.result)
    c.index-rules_under_facts-rule.result _ _ c.in-Missed.is c.requires.rows c.requires.into
    (omega arith) (number-read c.args.into.now c.loop-k.k (omega arith))
    (into-rule (program_of c.args.search.program.now) c.args.earlier.fact.symbol c.loop-k.k
    (get_or c.args.into.now c.loop-k.k 0)
    c.args.into.now c.requires.into (omega arith) (number-read c.args.into.now c.loop-k.k (omega arith)))
    (ap (λ (x : RuleRows). get_or c.args.search.prepared_rules.now ((get_or c.args.into.now c.loop-k.k 0) - 1) x)
    c.index-search-rule.is)
    (under-read (program_of c.args.search.program.now) c.args.search.pivots due kept c.args.rules_under_facts.now
    (get_or c.args.into.now c.loop-k.k 0)
    c.index-rules_under_facts-rule.result
    (into-rule (program_of c.args.search.program.now) c.args.earlier.fact.symbol c.loop-k.k
    (get_or c.args.into.now c.loop-k.k 0)
    c.args.into.now c.requires.into (omega arith) (number-read c.args.into.now c.loop-k.k (omega arith))) are
    c.index-rules_under_facts-rule.is) stand
    c.taken_proof-before.result (c.taken_proof-before.ensures.taken ∙ c.loop-k.invariant.same c.loop-k.k (omega arith))
    c.in_ok-proof.ensures.verdict)

pub loop-k-preserved : goal.loop-k-preserved
loop-k-preserved c = record {
  same = rest-same c.loop-k.earlier_proofs.items c.taken_proof-before.new.proofs.items c.args.earlier.proofs.items
      c.loop-k.k
      c.loop-k.invariant.same c.taken_proof-before.ensures.others;
  many = proofs-longer c.loop-k.proofs.items c.push.new.self.items c.in-Shown.proof c.loop-k.k
      c.loop-k.invariant.many c.in_ok-push-in-Shown.ensures.items;
  implied = λ due kept are stand.
      subst (λ (ps : List FactProof). AreImplied (program_of c.args.search.program.now) c.args.search.pivots kept
      c.args.earlier.fact ps
      (c.loop-k.k + 1)) (sym c.in_ok-push-in-Shown.ensures.items)
      (implied-read (program_of c.args.search.program.now) c.args.search.pivots kept c.args.earlier.fact
      c.loop-k.proofs.items c.loop-k.k
      (get_or c.args.into.now c.loop-k.k 0) c.in-Shown.proof c.args.into.now c.requires.into (omega arith)
      (number-read c.args.into.now c.loop-k.k (omega arith))
      (c.loop-k.invariant.implied due kept are stand) c.loop-k.invariant.many
      (answer-sound (program_of c.args.search.program.now) c.args.search.prepared_rules.now c.args.search.pivots due
      kept c.args.earlier.fact
      c.args.earlier.proofs.items c.args.into.now c.loop-k.k (get_or c.args.into.now c.loop-k.k 0)
      (get_or c.args.search.prepared_rules.now ((get_or c.args.into.now c.loop-k.k 0) - 1)
      c.index-search-rule.result)
      c.index-rules_under_facts-rule.result _ _ c.in-Shown.is c.requires.rows c.requires.into
      (omega arith) (number-read c.args.into.now c.loop-k.k (omega arith))
      (into-rule (program_of c.args.search.program.now) c.args.earlier.fact.symbol c.loop-k.k
      (get_or c.args.into.now c.loop-k.k 0)
      c.args.into.now c.requires.into (omega arith) (number-read c.args.into.now c.loop-k.k (omega arith)))
      (ap (λ (x : RuleRows). get_or c.args.search.prepared_rules.now ((get_or c.args.into.now c.loop-k.k 0) - 1) x)
      c.index-search-rule.is)
      (under-read (program_of c.args.search.program.now) c.args.search.pivots due kept c.args.rules_under_facts.now
      (get_or c.args.into.now c.loop-k.k 0)
      c.index-rules_under_facts-rule.result
      (into-rule (program_of c.args.search.program.now) c.args.earlier.fact.symbol c.loop-k.k
      (get_or c.args.into.now c.loop-k.k 0)
      c.args.into.now c.requires.into (omega arith) (number-read c.args.into.now c.loop-k.k (omega arith))) are
      c.index-rules_under_facts-rule.is) stand
      c.taken_proof-before.result
      (c.taken_proof-before.ensures.taken ∙ c.loop-k.invariant.same c.loop-k.k (omega arith))
      c.in_ok-proof.ensures.verdict));
}

pub returns-clause-verdict : goal.returns-clause-verdict
returns-clause-verdict c = λ due kept are stand.
    let into-is = c.requires.into in
    let every : c.loop-k.k ≡ length c.args.into.now = omega arith in
    proofs-all (program_of c.args.search.program.now) c.args.search.pivots kept c.args.earlier.fact c.loop-k.proofs
    c.loop-k.k
    (every ∙ ap (λ (ts : List ℕ). length ts) into-is) c.loop-k.invariant.many
    (c.loop-k.invariant.implied due kept are stand)
