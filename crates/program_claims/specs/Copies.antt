-- The copies of a rule in a program that simulates another, and their charges.
use Rattle.std.specs.Prelude.{ℕ, zero, suc, ◌==◌, if◌then◌else◌, List, [], ◌∷◌, map, Option, Some, None, slice_get}
use Rattle.model.specs.Terms.{Term}
use Rattle.model.specs.Programs.{Program, Rule}
use Rattle.model.specs.Polynomials.{Polynomial}
use Rattle.refinement.specs.Simulation.{Projection}
use Rattle.potentials.specs.Sums.{Charge}
use Rattle.potential_nodes.specs.Costs.{cost_form}

-- the numbers of the rules that are copies of rule n, in order, where the first rule of the list has number t
abbrev pub copies_from : Projection → ℕ → ℕ → List Rule → List ℕ
copies_from o n t [] = []
copies_from o n t (r ∷ rules) =
    if o.rule t == n then t ∷ copies_from o n (suc t) rules else copies_from o n (suc t) rules

-- the copies of rule n in a program
abbrev pub copies_of : Program → Projection → ℕ → List ℕ
copies_of q o n = copies_from o n 1 q.rules

-- the charges of a form at each of these rules
abbrev pub charge_by : Polynomial → ℕ → Charge
charge_by form t = record { rule = t; form = form }

abbrev pub charge_each : Polynomial → List ℕ → List Charge
charge_each form ts = map (charge_by form) ts

-- the charge of each rule's cost, where the first rule of the list has number t
abbrev pub cost_charges : ℕ → List Rule → List Charge
cost_charges t [] = []
cost_charges t (r ∷ rules) = charge_by (cost_form r.cost) t ∷ cost_charges (suc t) rules

-- the update of a place, numbered from 1, if there is one
abbrev pub update_at : Option Rule → ℕ → Option Term
update_at None place = None
update_at (Some r) zero = None
update_at (Some r) (suc i) = slice_get r.updates i
