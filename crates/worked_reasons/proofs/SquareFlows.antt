-- From which places values flow into which in the program that squares.
use Rattle.std.proofs.Common.{◌≡◌, ℕ, zero, suc, ◌<◌, Bool, true, false, refl, arith}
use Rattle.model.proofs.Membership.{no_is_not_yes}
use Rattle.cert_types.specs.cert_program.Setting.{setting_of}
use Rattle.local_size.specs.LocalAnswers.{HasBound, both_polynomial}
use Rattle.rvg_components.specs.Flows.{Locals, live_result_variables}
use Rattle.rvg_components.specs.Listing.{HasFlow, AreComponents}
use Rattle.worked_reasons.specs.Programs.{squares, two_components}
use Rattle.worked_reasons.proofs.TwoPlaces.{LeadOnward, both_listed, two_listed}

-- both rules are live, and their updates bound themselves
abbrev pub both_live : ℕ → Bool
both_live zero = false
both_live (suc zero) = true
both_live (suc (suc zero)) = true
both_live (suc (suc (suc t))) = false

abbrev pub square_locals : Locals
square_locals t i = HasBound both_polynomial

-- a value flows from the place at one position into that at another
abbrev Flow : ℕ → ℕ → Type 0
Flow = HasFlow (setting_of squares) square_locals (live_result_variables squares both_live)

-- no value flows from the second place
second_stays : (b : ℕ) → Flow 1 b → ⊥
second_stays zero h = no_is_not_yes false refl h.flow
second_stays (suc zero) h = no_is_not_yes false refl h.flow
second_stays (suc (suc b)) h = let low : suc (suc b) < 2 = h.to in omega (arith, low)

-- values flow into the first place from itself alone
flow_back : (a : ℕ) → Flow a 0 → a ≡ 0
flow_back zero h = refl
flow_back (suc zero) h = absurd (second_stays 0 h)
flow_back (suc (suc a)) h = let low : suc (suc a) < 2 = h.from in absurd (omega (arith, low))

lead : LeadOnward Flow
lead = record { within = λ a b h. h.from; back = flow_back; stays = λ b h. absurd (second_stays b h) }

-- each place is a component by itself
pub squares_apart : AreComponents (setting_of squares) both_live square_locals two_components
squares_apart = record { positions = both_listed; listing = two_listed Flow lead; result_variables = refl }
