-- The constant in the table of the code is the one in the list of its entries.
use Rattle.std.proofs.Common.{rules, ◌≡◌, refl, sym, ◌∙◌, ap, Some, w64, to_z, of_z}
use Rattle.std.specs.Prelude.{option_copied}
use Rattle.symbol_facts.specs.Common.{are_same}
use Rattle.symbol_facts.proofs.Inserting.{looked-up}
use Rattle.symbol_facts.proofs.strongest.constant_in.Goals as goal

pub returns-in-Some : goal.returns-in-Some
returns-in-Some c =
    let same : to_z w64 (of_z w64 c.in-Some.constant.now) ≡ c.in-Some.constant.now = search rules in
    ap Some same
    ∙ (ap option_copied (sym c.in-Some.is)
    ∙ (c.get.ensures.value
    ∙ looked-up (λ k. k.now) (λ k. are_same c.args.coefs.now k.now) c.args.coefs.now c.args.table.now.entries (λ k. refl)))

pub returns-in-None : goal.returns-in-None
returns-in-None c =
    ap option_copied (sym c.in-None.is)
    ∙ (c.get.ensures.value
    ∙ looked-up (λ k. k.now) (λ k. are_same c.args.coefs.now k.now) c.args.coefs.now c.args.table.now.entries (λ k. refl))
