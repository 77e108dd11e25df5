use Rattle.std.proofs.Common.{List, Option, map, subst, sym}
use Rattle.std.specs.Prelude.{MatchOption}
use denote.Ref.{Bor}
use Rattle.std.specs.List.{AllByRecursion}
use Rattle.std.proofs.lemmas.List.Elements.{All-from_recursion}
use Rattle.guard_prep.specs.declared.rule_rows.RuleRows.{RuleRows}
use Rattle.gap_checks.specs.GapTests.{IsFirstFailing}
use Rattle.cert_types.specs.Views.{member_of}
use Rattle.cert_types.specs.declared.side_bound.Member.{Member}
use Rattle.cert_types.specs.cert_rules.Nodes as plain
use Rattle.cert_types.specs.cert_rules.AcceptsSizes.{AcceptsLow, AcceptsUp}
use Rattle.cert_types.specs.Composing.{AreRowsOf}
use Rattle.cert_context.specs.CheckContexts.{program, setting}
use Rattle.check_sizes.proofs.SizedNodes.{cycle-answer, cycle-low, cycle-shape, cycle-up}
use Rattle.check_sizes.proofs.looping.loop_facts.Goals as goal

-- the answer is the first member that fails the test, or none if all pass
abbrev FirstOff : (plain.Member → Type 0) → List plain.Member → Option (Bor Member) → Type 0
FirstOff P ms o = MatchOption o (AllByRecursion P ms) (λ m. IsFirstFailing P ms (member_of m.now))

pub returns-then-not-has_cycle_shape : goal.returns-then-not-has_cycle_shape
returns-then-not-has_cycle_shape g c =
    cycle-shape (setting c.args.context.now) (g.K.Known.table c.args.known.now) (map member_of c.args.members.now)
    (λ h. let f = c.if-not-has_cycle_shape.ensures.1 h in let no : ⊥ = cc in no)

pub first_refused_up-requires-clause-shapes : goal.first_refused_up-requires-clause-shapes
first_refused_up-requires-clause-shapes g c = (c.has_cycle_shape.ensures.0 c.if-not-has_cycle_shape.false).each

pub returns-in-Some : goal.returns-in-Some
returns-in-Some g c =
    cycle-up (setting c.args.context.now) (g.K.Known.table c.args.known.now) (map member_of c.args.members.now)
    (c.has_cycle_shape.ensures.0 c.if-not-has_cycle_shape.false) (member_of c.in-Some.member.now)
    (subst (FirstOff (AcceptsUp (setting c.args.context.now)) (map member_of c.args.members.now)) c.in-Some.is c.in_ok-member.ensures)

pub first_refused_low-requires-clause-shapes : goal.first_refused_low-requires-clause-shapes
first_refused_low-requires-clause-shapes g c = (c.has_cycle_shape.ensures.0 c.if-not-has_cycle_shape.false).each

pub returns-in-Some-2 : goal.returns-in-Some-2
returns-in-Some-2 g c =
    cycle-low (setting c.args.context.now) (g.K.Known.table c.args.known.now) (map member_of c.args.members.now)
    (c.has_cycle_shape.ensures.0 c.if-not-has_cycle_shape.false) (subst (FirstOff (AcceptsUp (setting c.args.context.now)) (map member_of c.args.members.now)) c.in_default.is c.in_ok-member.ensures)
    (member_of c.in-Some-2.member.now)
    (subst (FirstOff (AcceptsLow (setting c.args.context.now)) (map member_of c.args.members.now)) c.in-Some-2.is c.in_ok-member-2.ensures)

pub sized_cycle-requires : goal.sized_cycle-requires
sized_cycle-requires g c = (
  program c.args.context.now,
  record {
    valid = c.requires.valid;
    graph = c.requires.graph;
    rows = subst (λ (rs : List RuleRows). AreRowsOf rs (program c.args.context.now)) (sym c.deref.ensures.value) c.requires.rows;
    shape = c.has_cycle_shape.ensures.0 c.if-not-has_cycle_shape.false;
    up = All-from_recursion (AcceptsUp (setting c.args.context.now)) (map member_of c.args.members.now) (subst (FirstOff (AcceptsUp (setting c.args.context.now)) (map member_of c.args.members.now)) c.in_default.is c.in_ok-member.ensures);
    low = All-from_recursion (AcceptsLow (setting c.args.context.now)) (map member_of c.args.members.now)
        (subst (FirstOff (AcceptsLow (setting c.args.context.now)) (map member_of c.args.members.now)) c.in_default-2.is c.in_ok-member-2.ensures);
  },
)

pub returns : goal.returns
returns g c =
    let s = setting c.args.context.now in
    let ms = map member_of c.args.members.now in
    cycle-answer s (g.K.Known.table c.args.known.now) ms c.in_ok-sizing.sizing c.stated.result
    (c.in_ok-sizing.ensures (program c.args.context.now) (record {
      valid = c.requires.valid;
      graph = c.requires.graph;
      rows = subst (λ (rs : List RuleRows). AreRowsOf rs (program c.args.context.now)) (sym c.deref.ensures.value) c.requires.rows;
      shape = c.has_cycle_shape.ensures.0 c.if-not-has_cycle_shape.false;
      up = All-from_recursion (AcceptsUp s) ms (subst (FirstOff (AcceptsUp (setting c.args.context.now)) (map member_of c.args.members.now)) c.in_default.is c.in_ok-member.ensures);
      low = All-from_recursion (AcceptsLow s) ms (subst (FirstOff (AcceptsLow (setting c.args.context.now)) (map member_of c.args.members.now)) c.in_default-2.is c.in_ok-member-2.ensures);
    }))
    c.stated.ensures
