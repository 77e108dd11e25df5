use Rattle.std.proofs.Common.{◌∙◌, ap, sym, subst, arith, length, List}
use Rattle.std.specs.List.{All}
use Rattle.std.proofs.lemmas.List.Elements.{All-tail}
use Rattle.cert_types.specs.rule_forms.Questions.{IsKindOf}
use Rattle.local_size.specs.declared.kinds.Kind.{Kind}
use Rattle.local_size.specs.Asking.{kind_of}
use Rattle.local_size.proofs.KindLists.{some-left}
use Rattle.local_size.proofs.search.+search_kinds.Goals as goal

pub search_kinds-requires : goal.search_kinds-requires
search_kinds-requires t c =
    let e = c.in-Some.ensures.cases.0 in
    let l = ap (λ (ks : List Kind). length ks) e in (
      omega (arith, l),
      (
        c.requires.prepared,
        (
          c.requires.value,
          (
            some-left c.in-Some.others.now (sym c.is_empty.ensures ∙ c.if-is_empty.false),
            All-tail (λ (k : Kind). IsKindOf c.args.prepared_rule.now.left (kind_of k)) c.in-Some.kind.now c.in-Some.others.now
                (subst (All (λ (k : Kind). IsKindOf c.args.prepared_rule.now.left (kind_of k))) e c.requires.kinds),
          ),
        ),
      ),
    )
