use Rattle.std.proofs.Common.{◌≡◌, List, [], ◌∷◌, ◌++◌, map, sym, ◌∙◌, ap}
use Rattle.std.specs.Prelude.{ℤ}
use Rattle.std.proofs.lemmas.List.{append_assoc, map-append}
use Rattle.std.proofs.lemmas.Result.{IfOk-weaker}
use Rattle.its_model.specs.Views.{program_of}
use Rattle.cert_types.specs.declared.side_bound.ResultVariable as code
use Rattle.cert_types.specs.cert_rules.Composed.{rank_form}
use Rattle.cert_types.specs.cert_rules.Nodes.{ResultVariable}
use Rattle.cert_types.specs.Sizes.{form_found}
use Rattle.its_model.specs.linear_forms.Forms.{Form}
use Rattle.cert_types.specs.Views.{form_of, rank_of, result_variable_of}
use Rattle.bound_fixpoint.specs.Keys.{key, time_key}
use Rattle.bound_fixpoint.specs.Needs.{read_places, entry_premises}
use Rattle.time_bounds.proofs.premises.push_needed.Goals as goal

pub returns-in-Some : goal.returns-in-Some
returns-in-Some c =
    let p = program_of c.args.p.now in
    let node = rank_of c.args.node.now in
    let e = c.args.entry in
    let told = ap form_found (sym c.in-Some.is)
    ∙ (c.rank_form.ensures.first
    ∙ (λ i. rank_form (map form_of (c.deref.ensures.value i)) (c.target_of.ensures i))) in
    let coefs = c.deref-in-Some.ensures.value ∙ ap (λ (f : Form). f.coefs) told in
    IfOk-weaker c.push_sizes.result
    (λ _. map result_variable_of c.push_sizes.new.premises.items
    ≡ map result_variable_of c.push.new.self.items ++ map (λ i. key e i) (read_places 1 c.deref-in-Some.result.now))
    (λ _. map result_variable_of c.push_sizes.new.premises.items ≡ map result_variable_of c.args.premises.now.items ++ entry_premises p node e)
    (λ _ h. h
    ∙ (ap (λ (ss : List code.ResultVariable). map result_variable_of ss ++ map (λ i. key e i) (read_places 1 c.deref-in-Some.result.now)) c.in_ok-push.ensures.items
    ∙ (ap (λ (ks : List ResultVariable). ks ++ map (λ i. key e i) (read_places 1 c.deref-in-Some.result.now))
    (map-append result_variable_of c.args.premises.now.items (record { rule = e; place = 0 } ∷ []))
    ∙ (append_assoc (map result_variable_of c.args.premises.now.items) (time_key e ∷ []) (map (λ i. key e i) (read_places 1 c.deref-in-Some.result.now))
    ∙ ap (λ (cs : List ℤ). map result_variable_of c.args.premises.now.items ++ time_key e ∷ map (λ i. key e i) (read_places 1 cs)) coefs))))
    c.push_sizes.ensures
