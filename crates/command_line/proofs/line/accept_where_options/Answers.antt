use Rattle.std.proofs.Common.{◌≡◌, ◌++◌, true, false, codes, refl, subst}
use Rattle.command_line.specs.Lines.{is_plain, is_value}
use Rattle.command_line.specs.Steps.{IsOther}
use Rattle.command_line.specs.declared.line.Next.TheVariants as nexts
use Rattle.command_line.proofs.StepLaws.{end_taken, pivots_taken, option_with_value_taken, option_with_value_refused}
use Rattle.command_line.proofs.StepLaws.{plain_taken, other_refused}
use Rattle.command_line.proofs.line.accept_where_options.Goals as goal

pub returns-in-End : goal.returns-in-End
returns-in-End c =
    let word : c.args.word.now ≡ codes "--" = cc (c.as_bytes.ensures.value, c.in-End.ensures) in
    end_taken c.args.line.now (record c.args.line.now { next = nexts.Positional }) c.args.word.now c.requires word refl

pub returns-in-Pivots : goal.returns-in-Pivots
returns-in-Pivots c =
    let word : c.args.word.now ≡ codes "--pivots" = cc (c.as_bytes.ensures.value, c.in-Pivots.ensures) in
    pivots_taken c.args.line.now (record c.args.line.now { next = nexts.Value }) c.args.word.now c.requires word refl

pub returns-in_ok-push_value-in-PivotsOf : goal.returns-in_ok-push_value-in-PivotsOf
returns-in_ok-push_value-in-PivotsOf c =
    let word : c.args.word.now ≡ codes "--pivots=" ++ c.in-PivotsOf.value.now =
    cc (c.as_bytes.ensures.value, c.in-PivotsOf.ensures) in
    let proper : is_value c.in-PivotsOf.value.now ≡ true = cc (c.is_value.ensures, c.if-is_value.true) in
    option_with_value_taken c.args.line.now c.push_value.new.line c.args.word.now c.in-PivotsOf.value.now c.requires
    word proper c.in_ok-push_value-in-PivotsOf.ensures

pub returns-else-is_value : goal.returns-else-is_value
returns-else-is_value c =
    let word : c.args.word.now ≡ codes "--pivots=" ++ c.in-PivotsOf.value.now =
    cc (c.as_bytes.ensures.value, c.in-PivotsOf.ensures) in
    let improper : is_value c.in-PivotsOf.value.now ≡ false = cc (c.is_value.ensures, c.if-is_value.false) in
    option_with_value_refused c.args.line.now c.args.word.now c.in-PivotsOf.value.now c.requires word improper

pub returns-in_ok-push_positional-in-Plain : goal.returns-in_ok-push_positional-in-Plain
returns-in_ok-push_positional-in-Plain c =
    let plain : is_plain c.args.word.now ≡ true = cc (c.as_bytes.ensures.value, c.in-Plain.ensures) in
    plain_taken c.args.line.now c.push_positional.new.line c.args.word.now c.requires plain
    c.in_ok-push_positional-in-Plain.ensures

pub returns-in-Other : goal.returns-in-Other
returns-in-Other c =
    other_refused c.args.line.now c.args.word.now c.requires (subst IsOther c.as_bytes.ensures.value c.in-Other.ensures)
