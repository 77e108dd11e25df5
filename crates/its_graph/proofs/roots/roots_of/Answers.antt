use Rattle.std.proofs.Common.{◌≡◌, ℕ, ◌+◌, ◌<◌, ◌≤◌, ◌⊎◌, inl, inr, List, [], ◌∷◌, ◌++◌, All, Contains, length, arith}
use Rattle.std.proofs.Common.{sym, subst}
use Rattle.std.proofs.lemmas.Bool.{cases_lt}
use Rattle.std.proofs.lemmas.List.Elements.{All-push, Contains-append_left, Contains-push}
use Rattle.its_graph.proofs.roots.roots_of.Goals as goal

-- All nodes are in range, and those up to this one are listed.
pub loop-node-preserved : goal.loop-node-preserved
loop-node-preserved c =
    let roots = c.loop-node.roots.items in
    let node = c.loop-node.node in
    let n = length c.args.next.now in
    let e : c.push.new.self.items ≡ roots ++ node ∷ [] = c.in_ok-push.ensures.items in
    record {
      within = subst (λ (xs : List ℕ). All (λ a. a < n) xs) (sym e) (All-push (λ (a : ℕ). a < n) roots node c.loop-node.invariant.within c.loop-node-test.true);
      all = λ a low. subst (λ (xs : List ℕ). Contains xs a) (sym e) (go a low (cases_lt a node));
    }
  where
    go : (a : ℕ) → a < c.loop-node.node + 1 → (a < c.loop-node.node) ⊎ (c.loop-node.node ≤ a) → Contains (c.loop-node.roots.items ++ c.loop-node.node ∷ []) a
    go a low (inl before) = Contains-append_left c.loop-node.roots.items (c.loop-node.node ∷ []) a (c.loop-node.invariant.all a before)
    go a low (inr here) =
        let same : c.loop-node.node ≡ a = omega arith in
        subst (λ (x : ℕ). Contains (c.loop-node.roots.items ++ c.loop-node.node ∷ []) x) same (Contains-push c.loop-node.roots.items c.loop-node.node)
