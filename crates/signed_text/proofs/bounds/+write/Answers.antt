use Rattle.std.proofs.Common.{map}
use Rattle.text_core.specs.Names.{name_of}
use Rattle.signed_text.proofs.FactorTexts.{product-after_first}
use Rattle.signed_text.proofs.bounds.+write.Goals as goal

pub write_product-loop-factor-init : goal.write_product-loop-factor-init
write_product-loop-factor-init t c =
    product-after_first (map name_of c.args.names.now) c.args.factors.now c.in-Some.others.now c.in-Some.first.now
    c.args.text.now.items c.write_factor.new.text.items c.in-Some.ensures.cases.0 c.in_ok-write_factor.ensures
