use Rattle.std.proofs.Common.{◌≡◌, ℕ, suc, [], ◌++◌, arith, refl, subst, if◌then◌else◌}
use Rattle.std.specs.Prelude.{nat_eq}
use Rattle.std.specs.List.{range_with_len}
use Rattle.location_facts.specs.Candidates.{with_places, with_plus}
use Rattle.location_facts.proofs.CandidateLoops.{lists-pushed, lists-none}
use Rattle.location_facts.proofs.candidates.push_plus.Goals as goal

pub loop-minus-init : goal.loop-minus-init
loop-minus-init c =
    lists-none (with_plus c.args.symbol c.args.plus)
    (λ j. if nat_eq c.args.plus j then [] else with_places c.args.symbol c.args.plus j) refl (λ j js. refl)
    c.args.all.now.items

pub loop-minus-preserved : goal.loop-minus-preserved
loop-minus-preserved c =
    lists-pushed (with_plus c.args.symbol c.args.plus)
    (λ j. if nat_eq c.args.plus j then [] else with_places c.args.symbol c.args.plus j) refl (λ j js. refl)
    c.loop-minus.minus c.args.all.now.items c.loop-minus.all.items c.push_both.new.all.items c.loop-minus.invariant
    (c.in_ok-push_both.ensures {u = tt})

pub returns : goal.returns
returns c =
    let all : c.loop-minus.minus ≡ suc c.args.last = omega arith in
    subst (λ (k : ℕ). c.loop-minus.all.items
    ≡ c.args.all.now.items ++ with_plus c.args.symbol c.args.plus (range_with_len 0 k)) all c.loop-minus.invariant
