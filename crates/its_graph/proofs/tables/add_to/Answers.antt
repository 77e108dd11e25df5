use Rattle.its_graph.proofs.KeySets.{insert_key-elements}
use Rattle.std.proofs.Common.{◌≡◌, ◌⊎◌, ◌↔◌, ℕ, List, Contains, subst, sym}
use Rattle.its_graph.proofs.tables.add_to.Goals as goal

-- The keys after are those before and the number.
pub returns : goal.returns
returns c = λ q. subst (λ (xs : List ℕ). Contains xs q ↔ (Contains c.args.set.now.keys q ⊎ (q ≡ c.args.number))) (sym c.in_ok-insert.ensures.keys) (insert_key-elements c.args.number c.args.set.now.keys q)
