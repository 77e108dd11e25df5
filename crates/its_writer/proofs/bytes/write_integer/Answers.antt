-- An integer of 128 bits has fewer than 64 digits.
use Rattle.std.proofs.Common.{arith, ◌∙◌}
use Rattle.std.proofs.lemmas.Int.{ints, to_z-of_z}
use Rattle.its_writer.proofs.Numerals.{integer_written}
use Rattle.its_writer.proofs.bytes.write_integer.Goals as goal

pub returns : goal.returns
returns c =
    let fits = c.ranges.z.sfits in
    integer_written c.args.z _ c.args.text.now.items c.write_bytes.new.text.items _ c.write_bytes.result (omega (arith, ints, fits)) (c.as_bytes.ensures.value ∙ c.format.ensures.text)
    (to_z-of_z _ c.args.z c.ranges.z) c.write_bytes.ensures
