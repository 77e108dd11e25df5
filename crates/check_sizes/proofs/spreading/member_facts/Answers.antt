use Rattle.std.proofs.Common.{List, map, subst, sym}
use Rattle.std.specs.Prelude.{MatchResult}
use Rattle.guard_prep.specs.declared.rule_rows.RuleRows.{RuleRows}
use Rattle.cert_types.specs.Composing.{AreRowsOf}
use Rattle.cert_types.specs.Views.{member_of}
use Rattle.cert_types.specs.declared.side_bound.Member.{Member}
use Rattle.cert_context.specs.CheckContexts.{program, setting}
use Rattle.check_sizes.specs.SizeAnswers.{IsFaultOf, StatesSizes}
use Rattle.check_sizes.proofs.SizedNodes.{spread-answer, spread-low, spread-shape, spread-up}
use Rattle.check_sizes.proofs.spreading.member_facts.Goals as goal

pub returns-then-not-has_member_shape : goal.returns-then-not-has_member_shape
returns-then-not-has_member_shape g c =
    spread-shape (setting c.args.context.now) (g.K.Known.table c.args.known.now) (member_of c.args.member.now)
    (λ h. let f = c.if-not-has_member_shape.ensures.1 h in let no : ⊥ = cc in no)

pub returns-then-not-has_up : goal.returns-then-not-has_up
returns-then-not-has_up g c =
    spread-up (setting c.args.context.now) (g.K.Known.table c.args.known.now) (member_of c.args.member.now)
    (c.has_member_shape.ensures.0 c.if-not-has_member_shape.false)
    (λ h. let f = c.in_ok-has_up.ensures.1 h in let no : ⊥ = cc in no)

pub returns-then-not-has_low : goal.returns-then-not-has_low
returns-then-not-has_low g c =
    spread-low (setting c.args.context.now) (g.K.Known.table c.args.known.now) (member_of c.args.member.now)
    (c.has_member_shape.ensures.0 c.if-not-has_member_shape.false) (c.in_ok-has_up.ensures.0 c.if-not-has_up.false)
    (λ h. let f = c.in_ok-has_low.ensures.1 h in let no : ⊥ = cc in no)

pub sized_spread-requires : goal.sized_spread-requires
sized_spread-requires g c = (
  program c.args.context.now,
  record {
    valid = c.requires.valid;
    graph = c.requires.graph;
    rows = subst (λ (rs : List RuleRows). AreRowsOf rs (program c.args.context.now)) (sym c.deref.ensures.value) c.requires.rows;
    shape = c.has_member_shape.ensures.0 c.if-not-has_member_shape.false;
    up = c.in_ok-has_up.ensures.0 c.if-not-has_up.false;
    low = c.in_ok-has_low.ensures.0 c.if-not-has_low.false;
  },
)

pub returns : goal.returns
returns g c =
    let s = setting c.args.context.now in
    let table = g.K.Known.table c.args.known.now in
    let m = member_of c.args.member.now in
    spread-answer s table m c.in_ok-sizing.sizing c.stated.result
    (c.in_ok-sizing.ensures (program c.args.context.now) (record {
      valid = c.requires.valid;
      graph = c.requires.graph;
      rows = subst (λ (rs : List RuleRows). AreRowsOf rs (program c.args.context.now)) (sym c.deref.ensures.value) c.requires.rows;
      shape = c.has_member_shape.ensures.0 c.if-not-has_member_shape.false;
      up = c.in_ok-has_up.ensures.0 c.if-not-has_up.false;
      low = c.in_ok-has_low.ensures.0 c.if-not-has_low.false;
    }))
    (subst (λ (ms : List Member). MatchResult c.stated.result (λ facts. StatesSizes (map member_of ms) c.in_ok-sizing.sizing facts)
    (λ fault. IsFaultOf c.in_ok-sizing.sizing fault)) c.from_ref.ensures.value c.stated.ensures)
