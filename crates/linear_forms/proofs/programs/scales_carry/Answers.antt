use Rattle.linear_forms.proofs.ProgramLaws.{scaled-solution, scaled-point, scaled-prices, scaled-least, scaled-dual}
use Rattle.linear_forms.proofs.programs.scales_carry.Goals as goal

pub returns : goal.returns
returns c = record { solutions = scaled-solution; points = scaled-point; prices = scaled-prices; least = scaled-least; duals = scaled-dual }
