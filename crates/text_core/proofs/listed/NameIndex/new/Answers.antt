use Rattle.std.proofs.Common.{◌≡◌, ◌+◌, ◌∷◌, ◌++◌, List, map, drop, refl, sym, ap, ◌∙◌, append-nil}
use Rattle.std.proofs.lemmas.List.{drop_more, drop_all}
use Rattle.model.specs.Programs as plain
use Rattle.text_core.specs.Names.{name_of, is_same}
use Rattle.text_core.specs.declared.name.Name.{Name}
use Rattle.text_core.proofs.KeyLaws.{one_more_name}
use Rattle.text_core.proofs.listed.NameIndex.new.Goals as goal

pub loop-name-preserved : goal.loop-name-preserved
loop-name-preserved c =
    let left : drop c.loop-name.name-index c.args.names.now ≡ c.name-item.result ∷ drop (c.loop-name.name-index + 1) c.args.names.now =
    drop_more c.args.names.now c.loop-name.name-index c.name-item.result c.loop-name-test.true ∙ ap (λ (n : Name). n ∷ drop (c.loop-name.name-index + 1) c.args.names.now) (sym c.name-item.is) in
    one_more_name (λ k. k.now) (λ a b. is_same a.now b.now) c.loop-name.set.keys c.insert.new.self.keys c.as_slice.result (map name_of (drop (c.loop-name.name-index + 1) c.args.names.now))
    (map name_of c.args.names.now) (λ j. refl) c.in_ok-insert.ensures.keys
    (ap (λ (n : plain.Name). map (λ k. k.now) c.loop-name.set.keys ++ n ∷ map name_of (drop (c.loop-name.name-index + 1) c.args.names.now)) c.as_slice.ensures.value
    ∙ sym (ap (λ (ns : List Name). map (λ k. k.now) c.loop-name.set.keys ++ map name_of ns) left) ∙ c.loop-name.invariant) c.requires

pub returns : goal.returns
returns c =
    sym (append-nil _) ∙ ap (λ (ns : List plain.Name). map (λ k. k.now) c.loop-name.set.keys ++ ns) (sym (ap (map name_of) (drop_all c.loop-name.name-index c.args.names.now c.loop-name-test.false))) ∙ c.loop-name.invariant
