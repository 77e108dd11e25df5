use Rattle.std.proofs.Common.{Option, sym, ◌∙◌, ap, map, option_map}
use Rattle.outcome.specs.Views.{size_of}
use Rattle.outcome.specs.declared.entry.SizeEntry.{SizeEntry}
use Rattle.cert_types.specs.Views.{result_variable_of}
use Rattle.rvg_components.specs.Listing.{answer_lists, local_from}
use Rattle.time_bounds.specs.ProgramSizes.{lacks_side_bounds}
use Rattle.time_bounds.proofs.SideBoundLists.{side_bounds_as, lacks_reason, lacks_not, lone_members}
use Rattle.time_bounds.proofs.candidates.side_bounds_of.Goals as goal

pub returns-in-Some : goal.returns-in-Some
returns-in-Some c =
    lacks_reason (lacks_side_bounds (local_from (answer_lists c.args.locals.now)) (map result_variable_of c.args.result_variables.now)) c.in-Some.entry
    (ap (λ (o : Option SizeEntry). option_map size_of o) (sym c.in-Some.is) ∙ c.in_ok-entry.ensures)

pub members_of-requires-clause-armed : goal.members_of-requires-clause-armed
members_of-requires-clause-armed c =
    lacks_not (lacks_side_bounds (local_from (answer_lists c.args.locals.now)) (map result_variable_of c.args.result_variables.now))
    (ap (λ (o : Option SizeEntry). option_map size_of o) (sym c.in-None.is) ∙ c.in_ok-entry.ensures)

pub as_side_bounds-requires : goal.as_side_bounds-requires
as_side_bounds-requires c =
    lone_members (local_from (answer_lists c.args.locals.now)) (map result_variable_of c.args.result_variables.now) c.args.looping c.in_ok-members-in-None.members.items
    c.requires.lone c.in_ok-members-in-None.ensures

pub returns-in_ok-members-in-None : goal.returns-in_ok-members-in-None
returns-in_ok-members-in-None c =
    side_bounds_as (local_from (answer_lists c.args.locals.now)) (map result_variable_of c.args.result_variables.now) c.args.looping c.in_ok-members-in-None.members.items
    c.as_side_bounds.result
    (lacks_not (lacks_side_bounds (local_from (answer_lists c.args.locals.now)) (map result_variable_of c.args.result_variables.now))
    (ap (λ (o : Option SizeEntry). option_map size_of o) (sym c.in-None.is) ∙ c.in_ok-entry.ensures))
    c.in_ok-members-in-None.ensures c.as_side_bounds.ensures
