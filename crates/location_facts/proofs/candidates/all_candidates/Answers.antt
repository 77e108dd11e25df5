use Rattle.std.proofs.Common.{◌≡◌, ℕ, [], arith, refl, subst, length}
use Rattle.std.specs.List.{range_with_len}
use Rattle.its_model.specs.Views.{program_of}
use Rattle.location_facts.specs.Candidates.{candidates_at, candidates_among}
use Rattle.location_facts.proofs.CandidateLoops.{lists-pushed}
use Rattle.location_facts.proofs.FaultLists.{symbol_count}
use Rattle.location_facts.proofs.candidates.all_candidates.Goals as goal

pub loop-symbol-preserved : goal.loop-symbol-preserved
loop-symbol-preserved c =
    lists-pushed (candidates_among (program_of c.args.p.now)) (candidates_at (program_of c.args.p.now)) refl
    (λ j js. refl) c.loop-symbol.symbol [] c.loop-symbol.all.items c.push_at.new.all.items c.loop-symbol.invariant
    (c.in_ok-push_at.ensures {u = tt})

pub returns : goal.returns
returns c =
    let n = symbol_count c.args.p.now in
    let all : c.loop-symbol.symbol ≡ length (program_of c.args.p.now).symbols = omega (arith, n) in
    subst (λ (k : ℕ). c.loop-symbol.all.items ≡ candidates_among (program_of c.args.p.now) (range_with_len 0 k)) all
    c.loop-symbol.invariant
