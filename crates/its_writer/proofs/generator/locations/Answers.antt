-- One more location has been built.
use Rattle.std.proofs.Common.{◌∙◌, ap, map}
use Rattle.its_model.specs.Views.{symbol_of}
use Rattle.its_writer.proofs.GeneratedMade.{with_two_places, location_more}
use Rattle.its_writer.proofs.generator.locations.Goals as goal

pub loop-number-preserved : goal.loop-number-preserved
loop-number-preserved c =
    ap (map symbol_of) c.in_ok-push.ensures.items
    ∙ location_more c.loop-number.symbols.items _ c.loop-number.number c.loop-number.invariant (ap with_two_places c.in_ok-location_name.ensures)
