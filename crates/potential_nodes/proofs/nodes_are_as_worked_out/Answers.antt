use Rattle.std.proofs.Common.{refl}
use Rattle.potential_nodes.proofs.nodes_are_as_worked_out.Goals as goal

pub returns : goal.returns
returns c = record {
  certificates = record {
    row = refl;
    no_row = refl;
    square = refl;
    zero_row = refl;
    other_multiple = refl;
    not_opposite = refl;
    untested_row = refl;
    untested_low = refl;
    untested_variable = refl;
    untested_product = refl;
    untested_opposite = refl;
    untested_same = refl;
    last_unknown = refl;
    no_unknown = refl;
    reads = refl;
    reads_more = refl;
  };
  falls = record {
    accepted = refl;
    low = refl;
    no_move = refl;
    never = refl;
    floor = refl;
    move = refl;
    denominator = refl;
    order = refl;
    gain = refl;
  };
  peaks = record { accepted = refl; low = refl; row = refl; no_row = refl; sized = refl; sized_low = refl; no_size = refl };
  combinations = record {
    product = refl;
    product_low = refl;
    other_rule = refl;
    added = refl;
    no_sum = refl;
    least = refl;
    no_least = refl;
    among = refl;
    not_among = refl;
    no_lemma = refl;
  };
  phases = record { accepted = refl; low = refl };
}
