use Rattle.std.proofs.Common.{refl, ap, ◌∙◌, ◌++◌, ℤ, List, length, arith}
use Rattle.run_replay.proofs.walk.Walk.new.Goals as goal

pub returns-clause-begins : goal.returns-clause-begins
returns-clause-begins c = record {
  places = c.requires.start;
  at = refl;
  values = c.in_ok-extend_from_slice.ensures.items ∙ ap (λ (xs : List ℤ). xs ++ c.args.start.now) c.in_ok-values.ensures.items;
}

pub returns-clause-walks : goal.returns-clause-walks
returns-clause-walks c = record {
  places = ap length (c.in_ok-extend_from_slice.ensures.items
      ∙ ap (λ (xs : List ℤ). xs ++ c.args.start.now) c.in_ok-values.ensures.items) ∙ c.requires.start;
  room = omega (
    arith,
    c.most_places-places.ensures,
    c.in_ok-values.ensures.capacity,
    c.in_ok-extend_from_slice.ensures.capacity,
  );
  next_room = omega (arith, c.most_places-places.ensures, c.in_ok-with_capacity.ensures.capacity);
}
