use Rattle.std.proofs.Common.{◌≡◌, ◌==◌, ◌∙◌, ◌&&◌, ℕ, Bool, true, false, not, ap, sym, drop, arith}
use Rattle.std.proofs.lemmas.Bool.{ne_eqb}
use Rattle.std.specs.Prelude.{codes}
use Rattle.proof_parts.specs.Head.{agreeing, begins_with_digit}
use Rattle.proof_parts.proofs.LineLaws.{all-behind}
use Rattle.proof_parts.proofs.head.is_third_form.Goals as goal

pub returns-then-agrees-eq12 : goal.returns-then-agrees-eq12
returns-then-agrees-eq12 c =
    let bytes = c.args.bytes.now in
    let agrees : agreeing bytes (codes "koat-proof 3") == 12 ≡ true =
    ap (λ (n : ℕ). n == 12) (sym c.agreeing_len-agrees.ensures.value ∙ c.if-agrees-eq12.true) in
    ap not (c.begins_with_digit.ensures ∙ ap begins_with_digit (all-behind 12 bytes
    (omega (arith, c.agreeing_len-agrees.ensures.within, c.if-agrees-eq12.true))))
    ∙ sym (ap (λ (v : Bool). v && not (begins_with_digit (drop 12 bytes))) agrees)

pub returns-else-agrees-eq12 : goal.returns-else-agrees-eq12
returns-else-agrees-eq12 c =
    let bytes = c.args.bytes.now in
    let differs : agreeing bytes (codes "koat-proof 3") == 12 ≡ false =
    ap (λ (n : ℕ). n == 12) (sym c.agreeing_len-agrees.ensures.value)
    ∙ ne_eqb c.agreeing_len-agrees.result 12 c.if-agrees-eq12.false in
    ne_eqb c.agreeing_len-agrees.result 12 c.if-agrees-eq12.false
    ∙ sym (ap (λ (v : Bool). v && not (begins_with_digit (drop 12 bytes))) differs)
