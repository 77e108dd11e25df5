use Rattle.std.proofs.Common.{ℕ, ◌<◌, ◌≤◌, All, arith, sym, take, get_or}
use Rattle.std.proofs.lemmas.List.{take_all}
use Rattle.std.proofs.lemmas.List.Elements.{All-more, All-weaker, All-same, All-get_or}
use Rattle.its_graph.proofs.PairLists.{Pair}
use Rattle.its_graph.proofs.links.link_limit.Goals as goal

-- The ends of one more link are below the limit.
pub loop-from-preserved : goal.loop-from-preserved
loop-from-preserved c =
    let links = c.args.links.now in
    let i = c.loop-from.from-index in
    let limit : ℕ = c.max-limit.result in
    let Below = λ (e : Pair). (e.0 < limit) × (e.1 < limit) in
    let wider : All Below (take i links) =
    All-weaker (λ (e : Pair). (e.0 < c.loop-from.limit) × (e.1 < c.loop-from.limit)) Below
    (λ e h. (omega (arith, h.0, c.max.ensures, c.max-limit.ensures), omega (arith, h.1, c.max.ensures, c.max-limit.ensures)))
    (take i links) c.loop-from.invariant.below in
    let here : Below (get_or links i (0, 0)) =
    (omega (arith, c.max.ensures, c.max-limit.ensures), omega (arith, c.max.ensures, c.max-limit.ensures)) in
    record {
      below = All-more Below links i (0, 0) c.loop-from-test.true wider here;
      few = omega (arith, c.max.ensures, c.max-limit.ensures, c.loop-from.invariant.few);
      least = λ n all.
          least n all (All-get_or (λ (e : Pair). (e.0 < n) × (e.1 < n)) links i (0, 0) c.loop-from-test.true all);
    }
  where
    least : (n : ℕ) → All (λ (e : Pair). (e.0 < n) × (e.1 < n)) c.args.links.now
        → ((get_or c.args.links.now c.loop-from.from-index (0, 0)).0 < n) × ((get_or c.args.links.now c.loop-from.from-index (0, 0)).1 < n)
        → c.max-limit.result ≤ n
    least n all low = omega (arith, c.max.ensures, c.max-limit.ensures, c.loop-from.invariant.least n all, low.0, low.1)

pub returns-clause-below : goal.returns-clause-below
returns-clause-below c =
    All-same (λ (e : Pair). (e.0 < c.loop-from.limit) × (e.1 < c.loop-from.limit)) c.args.links.now
    (take c.loop-from.from-index c.args.links.now) (sym (take_all c.loop-from.from-index c.args.links.now (omega arith)))
    c.loop-from.invariant.below
