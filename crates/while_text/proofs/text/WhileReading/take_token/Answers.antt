use Rattle.std.proofs.Common.{◌≡◌, ℕ, List, ap, sym, ◌∙◌, ◌-◌, None, Option}
use Rattle.text_grammar.specs.Folds.{refusals}
use Rattle.text_grammar.specs.Following.{first_of_two}
use Rattle.text_grammar.specs.Marks.{fault_of, token_of}
use Rattle.text_grammar.specs.Texts.{first_shown}
use Rattle.text_grammar.specs.declared.token.Fault.{Fault}
use Rattle.while_text.specs.declared.kind.Kind.{Kind}
use Rattle.while_text.specs.declared.phase.Standing.{Standing}
use Rattle.while_text.specs.Faults.{fault_of_first, fault_of_last, fault_of_rules, fault_at}
use Rattle.while_text.specs.Reading.{faults_of, while_text}
use Rattle.while_text.specs.Views.{course_of, draft_of, state_of}
use Rattle.while_text.proofs.Judging.{first_of_faults, first_of_one}
use Rattle.while_text.proofs.Pops.{if_ok}
use Rattle.while_text.proofs.text.WhileReading.take_token.Goals as goal

pub returns-in-Sound-clause-shown : goal.returns-in-Sound-clause-shown
returns-in-Sound-clause-shown c =
    let s = state_of c.args.self.now in
    let bytes = c.args.self.now.text.now in
    let t = token_of c.args.token in
    let a = fault_of_first bytes t.piece s.course s.draft in
    let b = fault_of_last bytes t.piece s.course s.draft in
    let r = fault_of_rules t.piece s.course in
    if_ok
    (λ (shown : Option (Fault Kind)). (text : List ℕ) → fault_of shown ≡ first_of_two (while_text text)
    (first_of_two (while_text text) (fault_at a t.at) (fault_at b (t.upto - 1))) (fault_at r s.course.at))
    (λ (shown : Option (Fault Kind)). (text : List ℕ) → fault_of shown
    ≡ first_shown (while_text text) None (faults_of s.standing bytes s t))
    (λ shown h text.
    h text ∙ first_of_faults text a b r t.at (t.upto - 1) s.course.at
    ∙ ap (λ (v : Standing). first_shown (while_text text) None (faults_of v bytes s t)) (sym c.in-Sound.is))
    c.take_sound.result c.take_sound.ensures.shown

pub returns-in-Faulty-clause-shown : goal.returns-in-Faulty-clause-shown
returns-in-Faulty-clause-shown c =
    let s = state_of c.args.self.now in
    let bytes = c.args.self.now.text.now in
    let t = token_of c.args.token in
    λ text.
    c.take_faulty.ensures.shown ∙ first_of_one text (fault_of_rules t.piece s.course) s.course.at
    ∙ ap (λ (v : Standing). first_shown (while_text text) None (faults_of v bytes s t)) (sym c.in-Faulty.is)
