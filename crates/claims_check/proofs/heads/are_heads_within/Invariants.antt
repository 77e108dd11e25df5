use Rattle.std.proofs.Common.{◌≡◌, drop, map}
use Rattle.poly_terms.specs.Views.{poly_of}
use Rattle.signed_bounds.specs.Views.{signed_of}
use Rattle.potential_types.specs.Views.{fact_view}
use Rattle.program_claims.specs.Heads.{are_heads_within}
use Rattle.claims_check.proofs.heads.are_heads_within.Given as goal

-- what is left decides
abbrev pub invariant-loop-i : goal.invariant-loop-i
invariant-loop-i l =
    are_heads_within (map fact_view l.known.facts.now) (poly_of l.head.form.now) l.head.place
    (signed_of l.head.bound.now) (drop l.i l.copies) (drop l.i l.numbers)
    ≡ are_heads_within (map fact_view l.known.facts.now) (poly_of l.head.form.now) l.head.place
    (signed_of l.head.bound.now) l.copies l.numbers
