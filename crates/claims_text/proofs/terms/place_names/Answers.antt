use Rattle.claims_text.proofs.PlaceNames.{names_more}
use Rattle.claims_text.proofs.terms.place_names.Goals as goal

pub loop-place-preserved : goal.loop-place-preserved
loop-place-preserved c =
    names_more c.loop-place.names.items c.push.new.self.items c.in_ok-place_name.field-0 c.loop-place.place
    c.loop-place.invariant c.in_ok-push.ensures.items c.in_ok-place_name.ensures
