-- Moves that certificates show, by what is paid at their rules.
use Rattle.std.proofs.Common.{◌≡◌, ℕ, ap}
use Rattle.std.specs.Prelude.{if◌then◌else◌}
use Rattle.potential_nodes.specs.potentials.model.Polynomials.{Polynomial}
use Rattle.potential_nodes.specs.Certificates.{shows}
use Rattle.potential_nodes.specs.Ground.{Ground}
use Rattle.potential_nodes.specs.Tables.{Move, PotentialTable, move_check, kept_goal, reset_goal}

-- the amount at the move's rule is all that counts
pub move_amount : (g : Ground) (tab : PotentialTable) (amounts : ℕ → Polynomial) (m : Move) (a : Polynomial)
    → a ≡ amounts m.rule → (move_check g tab (λ t. a) m).holds ≡ (move_check g tab amounts m).holds
move_amount g tab amounts m a e =
    ap (λ (p : Polynomial). shows g.is_safe (g.rows m.rule) m.certificate
    (if m.keeps then kept_goal g tab m p else reset_goal g tab m)) e
