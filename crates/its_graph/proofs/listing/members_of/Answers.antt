use Rattle.std.proofs.Common.{◌≡◌, ℕ, ◌<◌, List, All, Vec, length, get_or, sym, ◌∙◌, ap, subst}
use Rattle.std.specs.declared.alloc.Global.{Global}
use Rattle.std.proofs.lemmas.Result.{IfOk-weaker}
use Rattle.std.proofs.lemmas.List.{with_items_is}
use Rattle.its_graph.specs.Groups.{values_in, values_of}
use Rattle.its_graph.specs.Members.{numbered, AreMembers}
use Rattle.its_graph.proofs.PairLists.{Pair}
use Rattle.its_graph.proofs.Membership.{members-at, numbered-keys, leaders-placed}
use Rattle.its_graph.proofs.listing.members_of.Goals as goal

-- The positions are below the length of the order.
pub grouped-requires : goal.grouped-requires
grouped-requires c =
    let leaders = c.args.leaders.now in
    let order = c.args.order.now in
    let positions = c.note_positions.new.positions in
    let same = with_items_is c.in_ok-positions.positions positions (c.note_positions.auto.positions ∙ (ap length c.deref_mut.ensures.value ∙ sym c.in_ok-positions.positions.ok.0)) in
    let n : ℕ = length order in
    subst (λ (xs : List Pair). All (λ (e : Pair). e.0 < n) xs) (sym (c.deref-2.ensures.value ∙ (c.in_ok-numbered_by.ensures ∙ ap (λ (xs : List ℕ). numbered xs 0 leaders) (c.deref.ensures.value ∙ same))))
    (numbered-keys positions n leaders 0 (leaders-placed positions leaders order c.note_positions.ensures c.requires.all))

-- The values at each position are the members.
pub returns-clause-members : goal.returns-clause-members
returns-clause-members c =
    let leaders = c.args.leaders.now in
    let order = c.args.order.now in
    let positions = c.note_positions.new.positions in
    let same = with_items_is c.in_ok-positions.positions positions (c.note_positions.auto.positions ∙ (ap length c.deref_mut.ensures.value ∙ sym c.in_ok-positions.positions.ok.0)) in
    let pairs : c.deref-2.result.now ≡ numbered positions 0 leaders = c.deref-2.ensures.value ∙ (c.in_ok-numbered_by.ensures ∙ ap (λ (xs : List ℕ). numbered xs 0 leaders) (c.deref.ensures.value ∙ same)) in
    IfOk-weaker c.grouped.result (λ (found : Vec (Vec ℕ Global) Global). (a : ℕ) → values_in found.items a ≡ values_of c.deref-2.result.now a)
    (λ (found : Vec (Vec ℕ Global) Global). (k : ℕ) → k < length order → AreMembers leaders (get_or order k 0) (values_in found.items k))
    (λ found values k low. subst (λ (xs : List ℕ). AreMembers leaders (get_or order k 0) xs) (sym (values k ∙ ap (λ (xs : List Pair). values_of xs k) pairs)) (members-at positions leaders order c.note_positions.ensures c.requires.all k low)) c.grouped.ensures.values
