-- The words of a call are a request if the first one names a command that takes the others.
use Rattle.std.proofs.Common.{◌≡◌, ◌∷◌, map, string_bytes, ap}
use Rattle.command_line.specs.Requests.{word_of}
use Rattle.command_line.specs.Steps.{values_in, positionals_in}
use Rattle.command_line.proofs.Commands.{none_given, request_found}
use Rattle.command_line.proofs.request.parse_request.Goals as goal

pub returns-in_default-2 : goal.returns-in_default-2
returns-in_default-2 c =
    let words = map string_bytes c.args.words.now in
    let behind = map string_bytes c.in-Some.others.now in
    let split : words ≡ string_bytes c.in-Some.first.now ∷ behind = ap (map string_bytes) c.in-Some.ensures.cases.0 in
    none_given words (string_bytes c.in-Some.first.now) behind split (rw c.in_default-2.is at c.in_ok-line.ensures)

pub returns : goal.returns
returns c =
    let words = map string_bytes c.args.words.now in
    let behind = map string_bytes c.in-Some.others.now in
    let split : words ≡ string_bytes c.in-Some.first.now ∷ behind = ap (map string_bytes) c.in-Some.ensures.cases.0 in
    let is_named : string_bytes c.in-Some.first.now ≡ word_of c.in-Some-command_named.command =
    cc (c.as_bytes.ensures.value, c.in-Some-command_named.ensures) in
    request_found words (string_bytes c.in-Some.first.now) behind (values_in c.in-Some-2.line)
    (positionals_in c.in-Some-2.line)
    c.in-Some-command_named.command c.request_of_command.result split is_named
    (rw c.in-Some-2.is at c.in_ok-line.ensures)
    c.request_of_command.ensures
