use Rattle.std.proofs.Common.{◌≡◌, ◌<◌, List, length, Option, Some, None, sym, subst, ap, ◌∙◌, arith, rules}
use Rattle.std.specs.Prelude.{vec_len, remove}
use denote.Ref.{Bor}
use Rattle.signed_bounds.specs.Bounds as plain
use Rattle.signed_bounds.specs.Views.{signed_of}
use Rattle.signed_bounds.specs.declared.signed.Signed.{Signed}
use Rattle.signed_within.specs.Tests.{without}
use Rattle.signed_within.specs.Positions.{IsTakenBy}
use Rattle.signed_within.specs.Views.{signed_at}
use Rattle.signed_within.proofs.Positions.{signed_at-remove, signed_at-length}
use Rattle.signed_within.proofs.matching.take_one.Goals as goal

pub remove-requires : goal.remove-requires
remove-requires c =
    let w = without c.args.test (signed_of c.args.factor.now) in
    let here = subst (λ (rs : List (Bor Signed)). IsTakenBy w (signed_at rs) c.in_ok-found.found) c.deref.ensures.value
    c.in_ok-found.ensures in
    let taken = rw c.in-Some.is at here in
    let len : vec_len c.args.left.now ≡ length c.args.left.now.items = search rules in
    omega (arith, taken.0, signed_at-length c.args.left.now.items)

pub returns-in-None : goal.returns-in-None
returns-in-None c =
    let w = without c.args.test (signed_of c.args.factor.now) in
    let here = subst (λ (rs : List (Bor Signed)). IsTakenBy w (signed_at rs) c.in_ok-found.found) c.deref.ensures.value
    c.in_ok-found.ensures in
    rw c.in-None.is at here

pub returns-in-Some : goal.returns-in-Some
returns-in-Some c =
    let w = without c.args.test (signed_of c.args.factor.now) in
    let here = subst (λ (rs : List (Bor Signed)). IsTakenBy w (signed_at rs) c.in_ok-found.found) c.deref.ensures.value
    c.in_ok-found.ensures in
    let taken = rw c.in-Some.is at here in
    taken.1
    ∙ ap Some (sym (signed_at-remove c.args.left.now.items c.in-Some.position))
    ∙ ap (λ (rs : List (Bor Signed)). Some (signed_at rs)) (sym c.remove.ensures.items)
