use Rattle.std.proofs.Common.{◌∙◌, ap, map, arith}
use Rattle.cert_program.specs.cert_rules.Known.{known}
use Rattle.cert_types.specs.Views.{member_of}
use Rattle.cert_types.specs.Sizes.{is_result_variable}
use Rattle.cert_types.proofs.Parts.{pushed}
use Rattle.cert_types.proofs.places.push_place.Goals as goal

pub returns : goal.returns
returns g c =
    pushed c.args.parts.now.items c.push.new.self.items c.in_ok-part.part c.in_ok-size.size c.args.coef.now c.args.den
    (is_result_variable (map member_of c.args.members.now) c.args.rule c.args.place) _ c.rounded_coefficient.result
    c.in_ok-push.ensures.items c.in_ok-part.ensures (c.in_ok-size.ensures ∙ ap known c.size.ensures) c.rounded_coefficient.ensures
    (let h = c.if-is_out.false in grind (arith, h, c.is_left_out-is_out.ensures))
