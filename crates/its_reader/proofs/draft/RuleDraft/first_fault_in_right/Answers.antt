use Rattle.std.proofs.Common.{ap, ◌∙◌}
use Rattle.text_core.specs.Reading.{first_among}
use Rattle.its_text.specs.Grammar.{programs}
use Rattle.its_reader.specs.Faults.{maybe_fault}
use Rattle.its_text.specs.Kinds.{Syntax, ManyTargets, Limit, TooManyArguments, LongName}
use Rattle.its_text.specs.StateFaults.{fault_if, is_open, long_name}
use Rattle.its_reader.specs.FaultTests.{going_if, is_within, names_one, wants_target_name, names_many, is_in_argument}
use Rattle.its_reader.specs.FaultTests.{begins_full, can_read_argument}
use Rattle.its_reader.proofs.FaultTestLaws.{four_first_fault, one_more_behind}
use Rattle.its_reader.specs.Views.{maybe_of}
use Rattle.std.specs.Prelude.{◌&&◌}
use Rattle.its_reader.proofs.draft.RuleDraft.first_fault_in_right.Goals as goal

pub returns : goal.returns
returns c = one_more_behind (maybe_fault c.args.best) _ _
    (fault_if (is_within c.args.state
    && (names_one (maybe_of c.args.lookahead.next) && is_open (maybe_of c.args.lookahead.behind))) Syntax
    c.args.lookahead.at)
    (fault_if (wants_target_name c.args.state
    && (names_many (maybe_of c.args.lookahead.next) && is_open (maybe_of c.args.lookahead.behind))) ManyTargets
    c.args.lookahead.at)
    (fault_if (is_in_argument c.args.state && begins_full c.args.self.now (maybe_of c.args.lookahead.next))
    (Limit TooManyArguments) c.args.lookahead.at)
    (fault_if (long_name (maybe_of c.args.lookahead.next)) (Limit LongName) c.args.lookahead.at)
    (going_if (can_read_argument c.args.state) c.args.self.now c.args.lookahead.at (maybe_of c.args.lookahead.next))
    (four_first_fault (maybe_fault c.args.best) _ _ _ _
    (fault_if (is_within c.args.state
    && (names_one (maybe_of c.args.lookahead.next) && is_open (maybe_of c.args.lookahead.behind))) Syntax
    c.args.lookahead.at)
    (fault_if (wants_target_name c.args.state
    && (names_many (maybe_of c.args.lookahead.next) && is_open (maybe_of c.args.lookahead.behind))) ManyTargets
    c.args.lookahead.at)
    (fault_if (is_in_argument c.args.state && begins_full c.args.self.now (maybe_of c.args.lookahead.next))
    (Limit TooManyArguments) c.args.lookahead.at)
    (fault_if (long_name (maybe_of c.args.lookahead.next)) (Limit LongName) c.args.lookahead.at)
    (c.first_where-repeated.ensures ∙ ap
    (λ v. first_among programs (maybe_fault c.args.best) (fault_if v Syntax c.args.lookahead.at))
    c.is_again-again.ensures)
    (c.first_where-targeted.ensures ∙ ap
    (λ v. first_among programs (maybe_fault c.first_where-repeated.result)
    (fault_if v ManyTargets c.args.lookahead.at)) c.has_many-many.ensures)
    (c.first_where-counted.ensures ∙ ap
    (λ v. first_among programs (maybe_fault c.first_where-targeted.result)
    (fault_if v (Limit TooManyArguments) c.args.lookahead.at)) c.begins_another-full.ensures)
    c.first_with_long_name-named.ensures)
    (c.first_fault_if_going.ensures ∙ ap
    (λ v. first_among programs (maybe_fault c.first_with_long_name-named.result)
    (going_if v c.args.self.now c.args.lookahead.at (maybe_of c.args.lookahead.next))) c.goes.ensures)
