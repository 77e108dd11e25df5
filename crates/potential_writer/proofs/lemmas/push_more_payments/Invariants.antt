use Rattle.std.proofs.Common.{◌≡◌, ◌++◌, map, drop, codes}
use Rattle.section_writer.specs.Lists.{each_behind}
use Rattle.potential_types.specs.Views.{payment_of}
use Rattle.potential_writer.specs.Lemmas.{payment_text}
use Rattle.potential_writer.proofs.lemmas.push_more_payments.Given as goal

-- the text so far and that of the remaining payments are the whole text
abbrev pub invariant-loop-payment : goal.invariant-loop-payment
invariant-loop-payment l =
    l.text.items ++ each_behind (codes "; ") (map payment_text (map payment_of (drop l.payment-index l.payments)))
    ≡ l.initial.text.items ++ each_behind (codes "; ") (map payment_text (map payment_of l.payments))
