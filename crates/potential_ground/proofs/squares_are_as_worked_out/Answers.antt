use Rattle.std.proofs.Common.{refl}
use Rattle.guard_prep.specs.Tightening.{divisor_of}
use Rattle.potential_ground.proofs.squares_are_as_worked_out.Goals as goal

pub returns : goal.returns
unfolding divisor_of
returns c = record {
  rows = record {
    less = refl;
    none = refl;
    product_of_two = refl;
    two = refl;
    cube = refl;
    behind = refl;
    values = refl;
    other = refl;
    all = refl;
  };
  loops = record { accepted = refl; states = refl; flat = refl; no_row = refl };
}
