-- Words are read one by one: what was read so far, and the words left, give what all words give.
use Rattle.std.proofs.Common.{ap, sym, ◌∙◌, map, string_bytes, drop, ◌+◌}
use Rattle.command_line.specs.Steps.{state_of}
use Rattle.command_line.proofs.StepLaws.{state_after_word, state_at_start, refused_word_gives_nothing, state_at_end}
use Rattle.command_line.proofs.StepLaws.{state_at_end_after_marker}
use Rattle.command_line.proofs.StepLaws.{state_lacking_value}
use Rattle.command_line.proofs.StepLaws.{next_left, none_left, taken_here, refused_here}
use Rattle.command_line.proofs.line.read_line.Goals as goal

pub loop-word-init : goal.loop-word-init
loop-word-init c =
    state_at_start (map string_bytes c.args.words.now) (map (λ value. value.items) c.new.result.items)
    (map string_bytes c.new-2.result.items)
    (ap (map (λ value. value.items)) c.new.ensures.items) (ap (map string_bytes) c.new-2.ensures.items)

pub loop-word-preserved : goal.loop-word-preserved
loop-word-preserved c =
    state_after_word (map string_bytes c.args.words.now)
    (map string_bytes (drop (c.loop-word.word-index + 1) c.args.words.now))
    (state_of c.loop-word.line) c.as_str.result.now (state_of c.accept_word.new.line)
    (next_left (map string_bytes c.args.words.now) c.args.words.now c.loop-word.word-index c.word-item.result
    (state_of c.loop-word.line) c.as_str.result.now
    c.loop-word-test.true (ap string_bytes (sym c.word-item.is) ∙ sym c.as_str.ensures.value) c.loop-word.invariant)
    (taken_here c.in_ok-taken.taken (state_of c.loop-word.line) c.as_str.result.now (state_of c.accept_word.new.line)
    c.if-not-taken.false c.in_ok-taken.ensures)

pub returns-then-not-taken : goal.returns-then-not-taken
returns-then-not-taken c =
    refused_word_gives_nothing (map string_bytes c.args.words.now)
    (map string_bytes (drop (c.loop-word.word-index + 1) c.args.words.now))
    (state_of c.loop-word.line) c.as_str.result.now
    (next_left (map string_bytes c.args.words.now) c.args.words.now c.loop-word.word-index c.word-item.result
    (state_of c.loop-word.line) c.as_str.result.now
    c.loop-word-test.true (ap string_bytes (sym c.word-item.is) ∙ sym c.as_str.ensures.value) c.loop-word.invariant)
    (refused_here c.in_ok-taken.taken (state_of c.loop-word.line) c.as_str.result.now (state_of c.accept_word.new.line)
    c.if-not-taken.true c.in_ok-taken.ensures)

pub returns-in-Value : goal.returns-in-Value
returns-in-Value c =
    state_lacking_value (map string_bytes c.args.words.now) c.loop-word.line
    (none_left (map string_bytes c.args.words.now) c.args.words.now c.loop-word.word-index (state_of c.loop-word.line)
    c.loop-word-test.false c.loop-word.invariant)
    c.in-Value.is

pub returns-in-Word : goal.returns-in-Word
returns-in-Word c =
    state_at_end (map string_bytes c.args.words.now) c.loop-word.line
    (none_left (map string_bytes c.args.words.now) c.args.words.now c.loop-word.word-index (state_of c.loop-word.line)
    c.loop-word-test.false c.loop-word.invariant)
    c.in-Word.is

pub returns-in-Positional : goal.returns-in-Positional
returns-in-Positional c =
    state_at_end_after_marker (map string_bytes c.args.words.now) c.loop-word.line
    (none_left (map string_bytes c.args.words.now) c.args.words.now c.loop-word.word-index (state_of c.loop-word.line)
    c.loop-word-test.false c.loop-word.invariant)
    c.in-Positional.is
