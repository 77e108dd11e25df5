use Rattle.std.proofs.Common.{◌≡◌, ◌+◌, ◌∷◌, map}
use Rattle.std.proofs.lemmas.Result.{IfOk-weaker}
use Rattle.poly_terms.specs.model.Bounds.{Parts}
use Rattle.bound_expr.specs.Views.{bounds_of, parts_of}
use Rattle.cert_program.specs.cert_rules.Composed.{place_parts}
use Rattle.cert_types.specs.Views.{member_of}
use Rattle.cert_types.specs.Sizes.{members_from, sizes_from, joined}
use Rattle.cert_types.proofs.Parts.{places_pushed, none_pushed}
use Rattle.cert_types.proofs.places.+push_places.Goals as goal

pub returns-in_default : goal.returns-in_default
returns-in_default g t c = none_pushed _ c.args.coefs.now c.args.den _ _ c.in_default.ensures.cases

pub returns : goal.returns
returns g t c =
    let members = map member_of c.args.members.now in
    let table = g.K.Known.table c.args.known.now in
    let e : c.args.coefs.now ≡ c.in-Some.coef.now ∷ c.in-Some.others.now = c.in-Some.ensures.cases.0 in
    let old : Parts = parts_of (bounds_of c.args.parts.now.items) in
    let between : Parts = parts_of (bounds_of c.push_place.new.parts.items) in
    let new : Parts = parts_of (bounds_of c.push_places.new.parts.items) in
    IfOk-weaker c.push_places.result
    (λ x. new ≡ joined between (place_parts c.in-Some.others.now c.args.den (members_from members c.args.rule (c.args.place + 1)) (sizes_from table c.args.rule (c.args.place + 1))))
    (λ x. new ≡ joined old (place_parts c.args.coefs.now c.args.den (members_from members c.args.rule c.args.place) (sizes_from table c.args.rule c.args.place)))
    (λ x h. places_pushed members table c.args.rule c.args.coefs.now c.in-Some.coef.now c.in-Some.others.now c.args.den c.args.place old between new e (c.in_ok-push_place.ensures {u = tt}) h)
    c.push_places.ensures
