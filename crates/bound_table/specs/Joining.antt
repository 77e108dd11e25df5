-- Which neighbours are joined, and the result of joining a run of them.
use Rattle.std.specs.Prelude.{Bool, List}
use Rattle.bound_expr.specs.model.Bounds.{Bound}
use Rattle.bound_table.specs.declared.kinds.Joining.{Joining}
use Rattle.bound_table.specs.declared.kinds.Joining.TheVariants.{AsLikes, AsPowers}
use Rattle.bound_table.specs.Likes.{is_like, joined_list}
use Rattle.bound_table.specs.Powers.{have_one_base, powers_list}

-- two neighbours belong together: they have the same factors, or are powers of one base
abbrev pub belong_together : Joining → Bound → Bound → Bool
belong_together AsLikes = is_like
belong_together AsPowers = have_one_base

-- the parts that replace those of a run
abbrev pub run_joined : Joining → List Bound → List Bound
run_joined AsLikes = joined_list
run_joined AsPowers = powers_list
