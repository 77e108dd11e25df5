use Rattle.std.proofs.Common.{ap, ◌∙◌}
use Rattle.text_core.specs.Reading.{first_among}
use Rattle.its_text.specs.Grammar.{programs}
use Rattle.its_reader.specs.Faults.{maybe_fault}
use Rattle.its_text.specs.Kinds.{Limit, TooManyRules, LongName}
use Rattle.its_text.specs.StateFaults.{fault_if, is_word, long_name}
use Rattle.its_reader.specs.FaultTests.{wanted_faults, is_after_rule, wants_argument}
use Rattle.its_reader.proofs.FaultTestLaws.{three_first_fault}
use Rattle.its_reader.specs.Views.{maybe_of}
use Rattle.std.specs.Prelude.{nat_le, length, ◌&&◌}
use Rattle.model.specs.Limits.{rule_limit}
use Rattle.its_reader.proofs.draft.Draft.first_fault_in_left.Goals as goal

pub returns : goal.returns
returns c = three_first_fault (maybe_fault c.args.best) _ _ _
    (fault_if (is_after_rule c.args.state
    && (is_word (maybe_of c.args.lookahead.next) && nat_le rule_limit (length c.args.self.now.rules.items)))
    (Limit TooManyRules) c.args.lookahead.at)
    (wanted_faults (wants_argument c.args.state) c.args.self.now.rule c.args.lookahead.at
    (maybe_of c.args.lookahead.next) (maybe_of c.args.lookahead.behind))
    (fault_if (long_name (maybe_of c.args.lookahead.next)) (Limit LongName) c.args.lookahead.at)
    (c.first_where-ruled.ensures ∙ ap
    (λ v. first_among programs (maybe_fault c.args.best) (fault_if v (Limit TooManyRules) c.args.lookahead.at))
    c.begins_too_many-full.ensures)
    (c.first_fault_of_wanted-wanted.ensures ∙ ap
    (λ v. first_among programs (maybe_fault c.first_where-ruled.result)
    (wanted_faults v c.args.self.now.rule c.args.lookahead.at (maybe_of c.args.lookahead.next)
    (maybe_of c.args.lookahead.behind))) c.wants_argument.ensures)
    c.first_with_long_name.ensures
