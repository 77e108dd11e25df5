use Rattle.std.proofs.Common.{rules, ◌≡◌, refl, ◌∙◌, w64, to_z, of_z}
use Rattle.refined_programs.specs.Views.{affine_form}
use Rattle.symbol_facts.proofs.Inserting.{table_step, same_form}
use Rattle.symbol_facts.proofs.strongest.add_fact.Goals as goal

pub returns : goal.returns
returns c =
    let same : to_z w64 (of_z w64 c.lesser-least.result) ≡ c.lesser-least.result = search rules in
    table_step (λ k. k.now) _ c.args.table.now.entries c.insert.new.self.entries c.as_slice-coefs.result
    c.args.fact.now.constant _ c.constant_in.result (affine_form c.args.fact.now) (λ i j. refl)
    c.in_ok-insert.ensures.entries (same ∙ c.lesser-least.ensures) c.constant_in.ensures
    (same_form _ _ c.args.fact.now.constant c.as_slice-coefs.ensures.value)
