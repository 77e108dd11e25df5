use Rattle.std.proofs.Common.{◌≡◌, [], ◌∷◌, ◌++◌, map}
use Rattle.while_model.specs.Moves.{passing}
use Rattle.its_model.specs.Views.{atom_of}
use Rattle.while_front.specs.Views.{move_of}
use Rattle.while_front.proofs.moves.push_negated.Given as goal

-- Each atom passed has a move.
abbrev pub invariant-loop-atom : goal.invariant-loop-atom
invariant-loop-atom l =
    map move_of l.moves.items
    ≡ map move_of l.fn.moves.items ++ map (λ atom. passing l.from (atom ∷ []) l.to) (map atom_of l.yielded)
