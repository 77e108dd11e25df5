use Rattle.std.proofs.Common.{◌≡◌, ℕ, suc, ◌++◌, List, arith, refl, subst}
use Rattle.std.specs.List.{range_with_len}
use Rattle.location_facts.specs.Candidates.{with_plus, with_symbol}
use Rattle.location_facts.proofs.CandidateLoops.{lists-pushed, lists-none}
use Rattle.location_facts.proofs.candidates.push_symbol.Goals as goal

pub loop-plus-init : goal.loop-plus-init
loop-plus-init c =
    lists-none (λ (is : List ℕ). with_symbol c.args.symbol is (range_with_len 0 (suc c.args.last)))
    (λ i. with_plus c.args.symbol i (range_with_len 0 (suc c.args.last))) refl (λ j js. refl) c.args.all.now.items

pub loop-plus-preserved : goal.loop-plus-preserved
loop-plus-preserved c =
    lists-pushed (λ (is : List ℕ). with_symbol c.args.symbol is (range_with_len 0 (suc c.args.last)))
    (λ i. with_plus c.args.symbol i (range_with_len 0 (suc c.args.last))) refl (λ j js. refl) c.loop-plus.plus
    c.args.all.now.items c.loop-plus.all.items c.push_plus.new.all.items c.loop-plus.invariant
    (c.in_ok-push_plus.ensures {u = tt})

pub returns : goal.returns
returns c =
    let all : c.loop-plus.plus ≡ suc c.args.last = omega arith in
    subst (λ (k : ℕ). c.loop-plus.all.items
    ≡ c.args.all.now.items ++ with_symbol c.args.symbol (range_with_len 0 k) (range_with_len 0 (suc c.args.last))) all
    c.loop-plus.invariant
