use Rattle.std.proofs.Common.{◌≡◌, [], cond, length, refl, ap, sym, subst, ◌∙◌, Bool}
use Rattle.std.specs.Prelude.{map, ◌&&◌}
use Rattle.bound_text.specs.Printing.{piece_of}
use Rattle.cert_lexer.proofs.ListLaws.{on_ok}
use Rattle.cert_lexer.specs.declared.levels.OpenPart.{OpenPart}
use Rattle.cert_lexer.specs.Levels.{first_open_part, marks_taken, open_parts_after, opens, raised_from}
use Rattle.cert_lexer.specs.Representation.{Holds, ShowsLevels, open_parts_in, capped_open_part}
use Rattle.cert_lexer.proofs.LevelsLaws.{both_hold, first_capped, taken_count, taken_open}
use Rattle.cert_lexer.proofs.levels.Levels.take_inside.Goals as goal

pub returns-then-both : goal.returns-then-both
returns-then-both c = λ marks bs h n b.
    let piece = piece_of c.args.piece in
    let next = marks_taken bs c.args.round c.args.innermost piece marks in
    let first : c.innermost-begun.result ≡ capped_open_part (first_open_part bs) =
    c.innermost-begun.ensures ∙ ap first_open_part b ∙ first_capped bs in
    let old = c.in_ok-raise_if.ensures marks (first_open_part bs).start (ap (λ (b : OpenPart). b.start) first) h in
    let raised = subst (λ (v : Bool). Holds c.raise_if.new.self (cond v (raised_from (first_open_part bs).start marks) marks))
    c.raises.ensures old in
    let held = c.in_ok-push.ensures _ _ (c.mark_of.ensures (first_open_part bs).above (ap (λ (b : OpenPart). b.above) first)) raised in
    let count = taken_count c.args.self.now.count c.saturating_add-self.result bs c.args.round c.args.innermost piece marks
    n c.saturating_add-self.ensures in
    let t = both_hold c.push.new.self.deep (opens c.args.change)
    (ap (λ (v : Bool). c.push.new.self.deep && v) (sym c.opens.ensures) ∙ sym c.both.ensures ∙ c.if-both.true) in
    taken_open (record { marked = c.push.new.self; count = c.saturating_add-self.result; begun = c.args.self.now.begun })
    c.args.round c.args.innermost c.args.change next bs t.1 t.0 held count b

pub returns : goal.returns
returns c = λ marks bs h n b.
    let piece = piece_of c.args.piece in
    let next = marks_taken bs c.args.round c.args.innermost piece marks in
    let first : c.innermost-begun.result ≡ capped_open_part (first_open_part bs) =
    c.innermost-begun.ensures ∙ ap first_open_part b ∙ first_capped bs in
    let old = c.in_ok-raise_if.ensures marks (first_open_part bs).start (ap (λ (b : OpenPart). b.start) first) h in
    let raised = subst (λ (v : Bool). Holds c.raise_if.new.self (cond v (raised_from (first_open_part bs).start marks) marks))
    c.raises.ensures old in
    let held = c.in_ok-push.ensures _ _ (c.mark_of.ensures (first_open_part bs).above (ap (λ (b : OpenPart). b.above) first)) raised in
    let count = taken_count c.args.self.now.count c.saturating_add-self.result bs c.args.round c.args.innermost piece marks
    n c.saturating_add-self.ensures in
    on_ok (open_parts_in c.change.new.self ≡ map capped_open_part (open_parts_after c.args.change (length next) c.args.round c.args.innermost bs))
    (ShowsLevels c.change.new.self next (open_parts_after c.args.change (length next) c.args.round c.args.innermost bs)) c.change.result
    (λ begun. record {
      held = subst (λ m. Holds m next) (sym c.change.ensures.marked) held;
      count = c.change.ensures.count ∙ count;
      inner = [];
      outer = open_parts_after c.args.change (length next) c.args.round c.args.innermost bs;
      all = refl;
      begun = begun;
      behind = tt;
    })
    (c.change.ensures.begun (length next) bs count b)
