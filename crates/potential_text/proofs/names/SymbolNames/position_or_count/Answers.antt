use Rattle.std.proofs.Common.{refl, sym, ◌∙◌}
use Rattle.text_core.proofs.KeyLaws.{found_position, key_among, absent_position}
use Rattle.potential_text.proofs.names.SymbolNames.position_or_count.Goals as goal

pub returns-in-Some : goal.returns-in-Some
returns-in-Some c =
    found_position (λ k. k.now) c.args.name.now _ (λ k. refl) c.args.self.now.names.keys c.in-Some.position (sym c.in-Some.ensures.index)

pub returns-in-None : goal.returns-in-None
returns-in-None c = c.len.ensures.len ∙ absent_position (λ k. k.now) c.args.name.now c.args.self.now.names.keys
    (sym (key_among (λ k. k.now) c.args.name.now _ (λ k. refl) c.args.self.now.names.keys) ∙ sym c.in-None.ensures.found)
