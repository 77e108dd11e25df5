use Rattle.std.proofs.Common.{◌≡◌, subst, sym}
use Rattle.std.proofs.lemmas.Result.{IfOk-weaker}
use Rattle.guard_prep.specs.Views.{prepared_of}
use Rattle.poly_terms.specs.Views.{form_of}
use Rattle.local_size.specs.declared.side.Side.{Side}
use Rattle.local_size.specs.Asking.{IsValue, side_of, side_outcome_of}
use Rattle.local_size.specs.Places.{is_nonlinear_at, value_on}
use Rattle.local_size.proofs.KindLists.{kinds-allowed}
use Rattle.local_size.proofs.Searches.{side-comes}
use Rattle.local_size.proofs.Values.{new_values-value, opposite-value, value-up-is, value-low-is}
use Rattle.local_size.proofs.side.search_side.Goals as goal

pub search_kinds-requires-clause-value : goal.search_kinds-requires-clause-value
search_kinds-requires-clause-value c =
    new_values-value c.args.prepared_rule.now c.requires.prepared c.args.place c.index-value.result.now c.requires.place.0
    c.requires.place.1 c.index-value.ensures

pub search_kinds-requires-clause-kinds : goal.search_kinds-requires-clause-kinds
search_kinds-requires-clause-kinds c =
    kinds-allowed (is_nonlinear_at (prepared_of c.args.prepared_rule.now) c.args.place) c.args.prepared_rule.now.left c.args.place
    c.args.kinds.now c.requires.kinds

pub returns-in-Up : goal.returns-in-Up
returns-in-Up c =
    IfOk-weaker c.search_kinds.result _ _
    (λ a h. side-comes (prepared_of c.args.prepared_rule.now) c.args.place c.args.pivots (side_of c.args.side)
    (form_of c.index-value.result.now) c.args.kinds.now (side_outcome_of a)
    (subst (λ (s : Side). form_of c.index-value.result.now
    ≡ value_on (side_of s) (prepared_of c.args.prepared_rule.now) c.args.place) (sym c.in-Up.is)
    (value-up-is c.args.prepared_rule.now c.requires.prepared c.args.place c.index-value.result.now c.requires.place.0
    c.requires.place.1 c.index-value.ensures)) c.requires.kinds h) c.search_kinds.ensures

pub negated-requires : goal.negated-requires
negated-requires c =
    (new_values-value c.args.prepared_rule.now c.requires.prepared c.args.place c.index-value.result.now c.requires.place.0
    c.requires.place.1 c.index-value.ensures).small

pub search_kinds-requires-in-Low-clause-value : goal.search_kinds-requires-in-Low-clause-value
search_kinds-requires-in-Low-clause-value c =
    subst (IsValue c.args.prepared_rule.now) (sym c.in_ok-negation-in-Low.ensures)
    (opposite-value c.args.prepared_rule.now (form_of c.index-value.result.now)
    (new_values-value c.args.prepared_rule.now c.requires.prepared c.args.place c.index-value.result.now c.requires.place.0
    c.requires.place.1 c.index-value.ensures))

pub search_kinds-requires-in-Low-clause-kinds : goal.search_kinds-requires-in-Low-clause-kinds
search_kinds-requires-in-Low-clause-kinds c =
    kinds-allowed (is_nonlinear_at (prepared_of c.args.prepared_rule.now) c.args.place) c.args.prepared_rule.now.left c.args.place
    c.args.kinds.now c.requires.kinds

pub returns-in_ok-negation-in-Low : goal.returns-in_ok-negation-in-Low
returns-in_ok-negation-in-Low c =
    IfOk-weaker c.search_kinds-in-Low.result _ _
    (λ a h. side-comes (prepared_of c.args.prepared_rule.now) c.args.place c.args.pivots (side_of c.args.side)
    (form_of c.in_ok-negation-in-Low.negation) c.args.kinds.now (side_outcome_of a)
    (subst (λ (s : Side). form_of c.in_ok-negation-in-Low.negation
    ≡ value_on (side_of s) (prepared_of c.args.prepared_rule.now) c.args.place) (sym c.in-Low.is)
    (value-low-is c.args.prepared_rule.now c.requires.prepared c.args.place c.index-value.result.now c.requires.place.0
    c.requires.place.1 c.index-value.ensures _ c.in_ok-negation-in-Low.ensures)) c.requires.kinds h)
    c.search_kinds-in-Low.ensures
