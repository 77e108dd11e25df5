use Rattle.std.proofs.Common.{◌∷◌, [], ◌∙◌, List, Option, Bor, sym, ap}
use Rattle.std.specs.Prelude.{option_map}
use Rattle.std.proofs.lemmas.List.{map-append}
use Rattle.signed_bounds.specs.Bounds as plain
use Rattle.signed_bounds.specs.declared.signed.Signed.{Signed}
use Rattle.signed_bounds.specs.Views.{signed_of, signeds_of}
use Rattle.potential_nodes.specs.Falls.{with_bound}
use Rattle.check_potentials.specs.Parts.{in_front}
use Rattle.check_potentials.proofs.PartLaws.{in_front_one}
use Rattle.check_potentials.proofs.gains.push_bound.Goals as goal

pub returns-in_ok-push-in-Some : goal.returns-in_ok-push-in-Some
returns-in_ok-push-in-Some c = λ rest.
    let old = signeds_of c.args.parts.now.items in
    ap (λ (xs : List Signed). in_front (signeds_of xs) rest) c.in_ok-push-in-Some.ensures.items
    ∙ (ap (λ (bs : List plain.Signed). in_front bs rest)
    (map-append signed_of c.args.parts.now.items (c.in_ok-copy-in-Some.copy ∷ []))
    ∙ (in_front_one old (signed_of c.in_ok-copy-in-Some.copy) rest
    ∙ (ap (λ (b : plain.Signed). in_front old (plain.Part b rest)) c.in_ok-copy-in-Some.ensures
    ∙ ap (λ (o : Option (Bor Signed)). in_front old (with_bound (option_map (λ b. signed_of b.now) o) rest))
    (sym c.in-Some.is))))
