-- The number is written after the letter `l`.
use Rattle.its_writer.proofs.GeneratedMade.{named}
use Rattle.its_writer.proofs.generator.location_name.Goals as goal

pub returns : goal.returns
returns c =
    named c.args.number c.in_ok-bytes.bytes.items c.write_number.new.text.items (c.in_ok-bytes.ensures.items_if_clones_equal (λ x y e. e))
    c.in_ok-write_number.ensures
