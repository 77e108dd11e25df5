use Rattle.std.proofs.Common.{codes, ap}
use Rattle.signed_bounds.specs.Views.{signed_of}
use Rattle.claim_types.specs.Views.{claim_of}
use Rattle.claim_types.specs.declared.claim.Claim.{Claim}
use Rattle.potential_writer.specs.Claims.{claim_line}
use Rattle.potential_writer.proofs.SideTexts.{side_written}
use Rattle.potential_writer.proofs.claims.push_claim.Goals as goal

pub returns-in_ok-extend_from_slice-in-OnAbove : goal.returns-in_ok-extend_from_slice-in-OnAbove
returns-in_ok-extend_from_slice-in-OnAbove c =
    side_written c.push_side_line.result c.push_side_line.new.text.items c.args.text.now.items _ c.deref.result.now c.in-OnAbove.cited.items
    (claim_line (claim_of c.args.claim.now)) (codes "claim above ") c.in-OnAbove.rule c.in-OnAbove.place (signed_of c.in-OnAbove.bound)
    (ap (λ (x : Claim). claim_line (claim_of x)) c.in-OnAbove.is) c.deref.ensures.value
    c.in_ok-extend_from_slice-in-OnAbove.ensures.items c.push_side_line.ensures

pub returns-in_ok-extend_from_slice-in-OnBelow : goal.returns-in_ok-extend_from_slice-in-OnBelow
returns-in_ok-extend_from_slice-in-OnBelow c =
    side_written c.push_side_line-in-OnBelow.result c.push_side_line-in-OnBelow.new.text.items c.args.text.now.items _ c.deref-in-OnBelow.result.now c.in-OnBelow.cited.items
    (claim_line (claim_of c.args.claim.now)) (codes "claim below ") c.in-OnBelow.rule c.in-OnBelow.place (signed_of c.in-OnBelow.bound)
    (ap (λ (x : Claim). claim_line (claim_of x)) c.in-OnBelow.is) c.deref-in-OnBelow.ensures.value
    c.in_ok-extend_from_slice-in-OnBelow.ensures.items c.push_side_line-in-OnBelow.ensures
