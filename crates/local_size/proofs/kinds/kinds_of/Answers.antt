use Rattle.std.proofs.Common.{◌≡◌, refl, sym, subst, ap, ◌∙◌, ◌++◌, ◌∷◌, [], List, Bool, map}
use Rattle.cert_types.specs.rule_forms.Kinds.{kinds_for}
use Rattle.local_size.specs.declared.kinds.Kind.{Kind}
use Rattle.local_size.specs.Asking.{kind_of}
use Rattle.local_size.proofs.KindLists.{kinds-together}
use Rattle.local_size.proofs.kinds.kinds_of.Goals as goal

pub returns : goal.returns
returns c =
    subst (λ (b : Bool). map kind_of c.push-3.new.self.items ≡ kinds_for b c.args.left c.args.place)
    (sym c.if-is_nonlinear.false)
    (kinds-together c.args.left c.args.place c.push-2.new.self.items c.push_own.new.kinds.items
    c.push_others.new.kinds.items c.push-3.new.self.items _ _
    (c.in_ok-push-2.ensures.items ∙ ap (λ (ks : List Kind). ks ++ _ ∷ []) c.new-kinds.ensures.items) refl
    c.in_ok-push_own.ensures c.in_ok-push_others.ensures c.in_ok-push-3.ensures.items refl)
