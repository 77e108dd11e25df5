use Rattle.std.proofs.Common.{◌++◌, List, [], ◌∷◌, map, ap, sym, ◌∙◌}
use Rattle.std.specs.Prelude.{ℤ, pos}
use Rattle.std.specs.Int.{w128, cast_signed, cast_unsigned}
use Rattle.std.proofs.lemmas.Int.{to_z-of_z}
use Rattle.std.proofs.lemmas.List.{map-append}
use Rattle.poly_terms.specs.linear_forms.Forms.{Form}
use Rattle.poly_terms.specs.Views.{form_of}
use Rattle.guard_prep.specs.Tightening.{divisor_of}
use Rattle.guard_prep.proofs.TighteningLaws.{divided-is}
use Rattle.guard_prep.proofs.tighten.push_tightened.Goals as goal

pub returns-in_ok-push : goal.returns-in_ok-push
returns-in_ok-push c =
    let rows = c.args.rows.now.items in
    let divisor = c.common_divisor-divisor.result in
    let cast = to_z-of_z w128 divisor (record { sfits = c.common_divisor-divisor.type_inv }) in
    ap (map form_of) c.in_ok-push.ensures.items
    ∙ (map-append form_of rows (c.divided.result ∷ [])
    ∙ ap (λ (fs : List Form). map form_of rows ++ fs)
    (divided-is (form_of c.args.row) (form_of c.divided.result) (cast_signed w128 (cast_unsigned w128 divisor))
    (cast ∙ (c.common_divisor-divisor.ensures ∙ ap (λ (xs : List ℤ). pos (divisor_of xs)) c.deref.ensures.value))
    (λ e. c.if-divisor-eq0.false (ap (cast_unsigned w128) (sym cast ∙ e))) c.divided.ensures.coefs c.divided.ensures.constant))
