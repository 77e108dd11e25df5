use Rattle.std.proofs.Common.{refl, ap}
use Rattle.std.proofs.lemmas.Result.{on_ok_weaker}
use Rattle.report_text.specs.Pieces.{rules_text}
use Rattle.report_text.proofs.Lists.{four_pushed}
use Rattle.report_text.proofs.gaps.push_gap.Goals as goal

pub returns : goal.returns
returns c =
    on_ok_weaker c.push_gap_lines.result
    (λ pushed. four_pushed c.args.text.now.items c.extend_from_slice.new.self.items c.push_rules.new.text.items
    c.extend_from_slice-2.new.self.items c.push_gap_lines.new.text.items _ _ _ _ _ _ _ _
    c.in_ok-extend_from_slice.ensures.items refl
    c.in_ok-push_rules.ensures (ap rules_text c.deref.ensures.value)
    c.in_ok-extend_from_slice-2.ensures.items refl
    pushed refl)
    c.push_gap_lines.ensures
