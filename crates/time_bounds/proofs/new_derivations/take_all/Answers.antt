use Rattle.std.proofs.Common.{List, [], ◌∷◌, ◌++◌, sym, ◌∙◌, ap}
use Rattle.std.proofs.Common.{append_assoc}
use Rattle.std.proofs.lemmas.List.{append-nil, map-append}
use Rattle.std.proofs.lemmas.Iterator.Adapters.{YieldsList-from_vec}
use Rattle.std.proofs.lemmas.Iterator.Consumers.{YieldsList-turn, YieldsList-so_far}
use Rattle.its_model.specs.Views.{program_of}
use Rattle.bound_fixpoint.specs.Derivations as plain
use Rattle.bound_derivations.specs.Views.{derivation_of, derivations_of}
use Rattle.bound_derivations.proofs.Room.{room_for}
use Rattle.time_bounds.proofs.OpenDerivations.{map-same, open_read}
use Rattle.time_bounds.proofs.new_derivations.take_all.Goals as goal

pub loop-derivation-init : goal.loop-derivation-init
loop-derivation-init c = record {
  derivations = sym (append-nil (derivations_of c.args.derived.now.derivations.items));
  derived = c.requires.derived;
}

pub take-requires : goal.take-requires
take-requires c =
    let p = program_of c.args.cx.now.program.now in
    let gives = c.into_iter-derivation-iterator.ensures.into_iter_gives in
    let road = YieldsList-from_vec {s = c.into_iter-derivation-iterator.result} c.args.derivations.items gives.0 (gives.1 ∙ c.args.derivations.ok.0) in
    let turn = YieldsList-turn road c.loop-derivation.yielded c.loop-derivation.derivation-iterator c.loop-derivation.yielded_by c.next.result c.next.new.self
    c.in-Some.derivation c.in-Some.is c.next.ensures.steps in
    let so_far = sym (map-same c.loop-derivation.yielded)
    ∙ YieldsList-so_far road c.loop-derivation.yielded c.loop-derivation.derivation-iterator c.loop-derivation.yielded_by in
    record {
      few =
          room_for p c.loop-derivation.derived.table c.loop-derivation.derived.derivations.items (derivation_of c.in-Some.derivation).keys c.loop-derivation.invariant.derived
          (open_read p (derivations_of c.args.derived.now.derivations.items) (derivations_of c.loop-derivation.derived.derivations.items) c.args.derivations.items c.loop-derivation.yielded
          c.in-Some.derivation c.requires.open c.loop-derivation.invariant.derivations so_far turn.0 turn.1);
    }

pub loop-derivation-preserved : goal.loop-derivation-preserved
loop-derivation-preserved c =
    let p = program_of c.args.cx.now.program.now in
    let gives = c.into_iter-derivation-iterator.ensures.into_iter_gives in
    let road = YieldsList-from_vec {s = c.into_iter-derivation-iterator.result} c.args.derivations.items gives.0 (gives.1 ∙ c.args.derivations.ok.0) in
    let turn = YieldsList-turn road c.loop-derivation.yielded c.loop-derivation.derivation-iterator c.loop-derivation.yielded_by c.next.result c.next.new.self
    c.in-Some.derivation c.in-Some.is c.next.ensures.steps in
    let so_far = sym (map-same c.loop-derivation.yielded)
    ∙ YieldsList-so_far road c.loop-derivation.yielded c.loop-derivation.derivation-iterator c.loop-derivation.yielded_by in
    record {
      derivations =
          c.in_ok-take.ensures.derivations
          ∙ (ap (λ (fs : List plain.Derivation). fs ++ derivation_of c.in-Some.derivation ∷ []) c.loop-derivation.invariant.derivations
          ∙ (append_assoc (derivations_of c.args.derived.now.derivations.items) (derivations_of c.loop-derivation.yielded) (derivation_of c.in-Some.derivation ∷ [])
          ∙ ap (λ (fs : List plain.Derivation). derivations_of c.args.derived.now.derivations.items ++ fs)
          (sym (map-append derivation_of c.loop-derivation.yielded (c.in-Some.derivation ∷ [])))));
      derived = c.in_ok-take.ensures.derived p c.loop-derivation.invariant.derived
          (open_read p (derivations_of c.args.derived.now.derivations.items) (derivations_of c.loop-derivation.derived.derivations.items) c.args.derivations.items
          c.loop-derivation.yielded c.in-Some.derivation c.requires.open c.loop-derivation.invariant.derivations so_far turn.0 turn.1);
    }
