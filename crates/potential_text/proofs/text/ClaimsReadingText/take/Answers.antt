use Rattle.std.proofs.Common.{◌∷◌, ap, ◌∙◌}
use Rattle.text_grammar.specs.Grammars.{Read}
use Rattle.potential_text.specs.Reading.{Progress, claims_in, read_piece}
use Rattle.potential_text.specs.SymbolNames.{names_in}
use Rattle.potential_text.specs.Views.{draft_of, progress_of}
use Rattle.potential_text.proofs.JudgedLines.{if_ok, on_ok, same_state, shown_behind}
use Rattle.potential_text.proofs.text.ClaimsReadingText.take.Goals as goal

pub returns-clause-known : goal.returns-clause-known
returns-clause-known c =
    let old = c.args.self.now.lines in
    let new = c.take.new.self in
    on_ok c.take.result (λ m. λ es k.
    same_state claims_in old.part new.part (names_in old.names) (names_in new.names) old.text.now new.text.now
    (Read c.args.token.piece ∷ es) (progress_of new) c.take.ensures.part c.take.ensures.names c.take.ensures.text
    (m ∙ ap (λ (s : Progress). read_piece old.part (names_in old.names) old.text.now c.args.token.piece s) k))
    c.take.ensures.known

pub returns-clause-shown : goal.returns-clause-shown
returns-clause-shown c =
    let old = c.args.self.now.lines in
    if_ok c.take.result (λ x m. λ es k.
    m ∙ shown_behind claims_in old.part (names_in old.names) old.text.now es (draft_of old.draft) old.broken
    c.args.token.piece c.args.token.at k) c.take.ensures.shown
