use Rattle.std.proofs.Common.{List, [], ◌∷◌, ◌++◌, sym, ◌∙◌, ap, subst, map}
use Rattle.std.proofs.lemmas.List.{append-nil}
use Rattle.bound_expr.specs.Views.{bound_of}
use Rattle.cert_types.specs.declared.side_bound.ResultVariable.{ResultVariable}
use Rattle.cert_types.specs.Views.{result_variable_of}
use Rattle.bound_derivations.specs.Books.{AreOpen}
use Rattle.bound_derivations.specs.Views.{derivations_of}
use Rattle.bound_derivations.proofs.Room.{room_for}
use Rattle.size_nodes.specs.declared.sizing.Sizing.{Sizing}
use Rattle.time_bounds.specs.Attempts.{attempt_by, derivations_by, node_in}
use Rattle.time_bounds.specs.Candidates.{result_variables_in}
use Rattle.time_bounds.specs.Questions.{program_in}
use Rattle.time_bounds.proofs.sizing.take.Goals as goal

pub take-requires : goal.take-requires
take-requires c = record {
  few =
      room_for (program_in c.args.cx.now) c.args.derived.now.table c.args.derived.now.derivations.items (result_variables_in c.args.candidate.now) c.requires.derived
      c.requires.open;
}

pub returns-in_ok-take-in-Found-clause-attempt : goal.returns-in_ok-take-in-Found-clause-attempt
returns-in_ok-take-in-Found-clause-attempt c = ap attempt_by (sym c.in-Found.is)

pub returns-in_ok-take-in-Found-clause-derivations : goal.returns-in_ok-take-in-Found-clause-derivations
returns-in_ok-take-in-Found-clause-derivations c =
    let cand = c.args.candidate.now in
    let old = derivations_of c.args.derived.now.derivations.items in
    c.in_ok-take-in-Found.ensures.derivations
    ∙ ((λ i. old ++ record {
      keys = map result_variable_of ((c.in_ok-result_variables-in-Found.ensures.items ∙ c.deref.ensures.value) i);
      node = c.in_ok-node-in-Found.ensures i;
      premises = map result_variable_of c.in-Found.premises.items;
      bound = bound_of c.in-Found.bound;
    } ∷ [])
    ∙ ap (λ (x : Sizing). old ++ derivations_by (result_variables_in cand) (node_in cand.side_bounds) x) (sym c.in-Found.is))

pub returns-in_ok-take-in-Found-clause-derived : goal.returns-in_ok-take-in-Found-clause-derived
returns-in_ok-take-in-Found-clause-derived c =
    c.in_ok-take-in-Found.ensures.derived (program_in c.args.cx.now) c.requires.derived
    (subst (λ (ss : List ResultVariable). AreOpen (program_in c.args.cx.now) (derivations_of c.args.derived.now.derivations.items) (map result_variable_of ss))
    (sym (c.in_ok-result_variables-in-Found.ensures.items ∙ c.deref.ensures.value)) c.requires.open)

pub returns-in-Missing-clause-attempt : goal.returns-in-Missing-clause-attempt
returns-in-Missing-clause-attempt c = ap attempt_by (sym c.in-Missing.is)

pub returns-in-Missing-clause-derivations : goal.returns-in-Missing-clause-derivations
returns-in-Missing-clause-derivations c =
    sym (append-nil (derivations_of c.args.derived.now.derivations.items))
    ∙ ap (λ (x : Sizing). derivations_of c.args.derived.now.derivations.items ++ derivations_by (result_variables_in c.args.candidate.now) (node_in c.args.candidate.now.side_bounds) x)
    (sym c.in-Missing.is)

pub returns-in-Nonlinear-clause-attempt : goal.returns-in-Nonlinear-clause-attempt
returns-in-Nonlinear-clause-attempt c = ap attempt_by (sym c.in-Nonlinear.is)

pub returns-in-Nonlinear-clause-derivations : goal.returns-in-Nonlinear-clause-derivations
returns-in-Nonlinear-clause-derivations c =
    sym (append-nil (derivations_of c.args.derived.now.derivations.items))
    ∙ ap (λ (x : Sizing). derivations_of c.args.derived.now.derivations.items ++ derivations_by (result_variables_in c.args.candidate.now) (node_in c.args.candidate.now.side_bounds) x)
    (sym c.in-Nonlinear.is)

pub returns-in-Untimed-clause-attempt : goal.returns-in-Untimed-clause-attempt
returns-in-Untimed-clause-attempt c = ap attempt_by (sym c.in-Untimed.is)

pub returns-in-Untimed-clause-derivations : goal.returns-in-Untimed-clause-derivations
returns-in-Untimed-clause-derivations c =
    sym (append-nil (derivations_of c.args.derived.now.derivations.items))
    ∙ ap (λ (x : Sizing). derivations_of c.args.derived.now.derivations.items ++ derivations_by (result_variables_in c.args.candidate.now) (node_in c.args.candidate.now.side_bounds) x)
    (sym c.in-Untimed.is)

pub returns-in-Large-clause-attempt : goal.returns-in-Large-clause-attempt
returns-in-Large-clause-attempt c = ap attempt_by (sym c.in-Large.is)

pub returns-in-Large-clause-derivations : goal.returns-in-Large-clause-derivations
returns-in-Large-clause-derivations c =
    sym (append-nil (derivations_of c.args.derived.now.derivations.items))
    ∙ ap (λ (x : Sizing). derivations_of c.args.derived.now.derivations.items ++ derivations_by (result_variables_in c.args.candidate.now) (node_in c.args.candidate.now.side_bounds) x)
    (sym c.in-Large.is)
