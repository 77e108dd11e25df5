use Rattle.std.proofs.Common.{◌≡◌, ℕ, ◌<◌, ◌⊎◌, List, [], All, Contains, length, get_or, arith, refl, sym, ◌∙◌, subst}
use Rattle.std.proofs.Common.{ap}
use Rattle.std.proofs.lemmas.Result.{on_ok_weaker}
use Rattle.model.specs.Paths.{Here}
use Rattle.its_graph.specs.declared.flood.TheConstants.{UNKNOWN, CANDIDATE, KNOWN}
use Rattle.its_graph.specs.Groups.{Joins}
use Rattle.its_graph.specs.Floods.{Painting, Fills, all_painted}
use Rattle.its_graph.specs.Classes.{Takes}
use Rattle.its_graph.specs.Naming.{named}
use Rattle.its_graph.proofs.PaintedNodes.{Paints, paints_all}
use Rattle.its_graph.proofs.Naming.{named-each, named-others}
use Rattle.its_graph.proofs.TakingClasses.{takes}
use Rattle.its_graph.proofs.Filling.{found-within}
use Rattle.its_graph.proofs.classes.take_class.Goals as goal

-- The root is a candidate.
pub fill-requires-2-clause-start_old : goal.fill-requires-2-clause-start_old
fill-requires-2-clause-start_old c =
    let f : Fills (Joins c.args.previous.now) c.args.colors.now c.fill.new.colors c.args.root UNKNOWN CANDIDATE c.in_ok-candidates.candidates.items = c.in_ok-candidates.ensures in
    f.are c.args.root ((f.reached c.args.root).1 (Here refl))

-- The nodes of the component are below the number of nodes.
pub name_all-requires : goal.name_all-requires
name_all-requires c =
    let first : Fills (Joins c.args.previous.now) c.args.colors.now c.fill.new.colors c.args.root UNKNOWN CANDIDATE c.in_ok-candidates.candidates.items = c.in_ok-candidates.ensures in
    let second : Fills (Joins c.args.next.now) c.fill.new.colors c.fill-2.new.colors c.args.root CANDIDATE KNOWN c.in_ok-class.class.items = c.in_ok-class.ensures in
    let size : length c.fill.new.colors ≡ length c.args.names.now = first.size ∙ sym c.requires.names_size in
    subst (λ (xs : List ℕ). All (λ b. b < length c.args.names.now) xs) (sym c.deref.ensures.value) (subst (λ (n : ℕ). All (λ b. b < n) c.in_ok-class.class.items) size (found-within second))

-- The candidates are below the number of nodes.
pub paint_all-requires : goal.paint_all-requires
paint_all-requires c =
    let first : Fills (Joins c.args.previous.now) c.args.colors.now c.fill.new.colors c.args.root UNKNOWN CANDIDATE c.in_ok-candidates.candidates.items = c.in_ok-candidates.ensures in
    let second : Fills (Joins c.args.next.now) c.fill.new.colors c.fill-2.new.colors c.args.root CANDIDATE KNOWN c.in_ok-class.class.items = c.in_ok-class.ensures in
    let size : length c.args.colors.now ≡ length c.fill-2.new.colors = sym (second.size ∙ first.size) in
    subst (λ (xs : List ℕ). All (λ b. b < length c.fill-2.new.colors) xs) (sym c.deref-2.ensures.value) (subst (λ (n : ℕ). All (λ b. b < n) c.in_ok-candidates.candidates.items) size (found-within first))

-- The floods and the naming together take the component.
pub returns : goal.returns
returns c =
    on_ok_weaker c.paint_all.result whole c.paint_all.ensures
  where
    whole : ◌≡◌ {A = Painting} (record { colors = c.paint_all.new.colors; found = c.paint_all.new.found.items }) (all_painted CANDIDATE UNKNOWN c.deref-2.result.now (record { colors = c.fill-2.new.colors; found = c.new-unknown_again.result.items }))
        → Takes (Joins c.args.next.now) c.args.colors.now c.paint_all.new.colors c.name_all.new.names c.args.root
    whole painted =
        let first : Fills (Joins c.args.previous.now) c.args.colors.now c.fill.new.colors c.args.root UNKNOWN CANDIDATE c.in_ok-candidates.candidates.items = c.in_ok-candidates.ensures in
        let second : Fills (Joins c.args.next.now) c.fill.new.colors c.fill-2.new.colors c.args.root CANDIDATE KNOWN c.in_ok-class.class.items = c.in_ok-class.ensures in
        let class = c.in_ok-class.class.items in
        let candidates = c.in_ok-candidates.candidates.items in
        let names = c.args.names.now in
        let within : All (λ b. b < length names) class = subst (λ (n : ℕ). All (λ b. b < n) class) (first.size ∙ sym c.requires.names_size) (found-within second) in
        let in_colors : All (λ b. b < length c.fill-2.new.colors) candidates = subst (λ (n : ℕ). All (λ b. b < n) candidates) (sym (second.size ∙ first.size)) (found-within first) in
        let m : Painting = record { colors = c.fill-2.new.colors; found = [] } in
        let same : ◌≡◌ {A = Painting} (record { colors = c.paint_all.new.colors; found = c.paint_all.new.found.items }) (all_painted CANDIDATE UNKNOWN candidates m) =
        painted ∙ (ap (λ (xs : List ℕ). all_painted CANDIDATE UNKNOWN xs (record { colors = c.fill-2.new.colors; found = c.new-unknown_again.result.items })) c.deref-2.ensures.value
        ∙ ap (λ (xs : List ℕ). all_painted CANDIDATE UNKNOWN candidates (record { colors = c.fill-2.new.colors; found = xs })) c.new-unknown_again.ensures.items) in
        let again : Paints CANDIDATE UNKNOWN candidates m (record { colors = c.paint_all.new.colors; found = c.paint_all.new.found.items }) =
        subst (λ (n : Painting). Paints CANDIDATE UNKNOWN candidates m n) (sym same) (paints_all CANDIDATE UNKNOWN candidates m (λ e. omega (arith, e)) in_colors) in
        let named_so : c.name_all.new.names ≡ named c.args.root class names = c.name_all.ensures ∙ ap (λ (xs : List ℕ). named c.args.root xs names) c.deref.ensures.value in
        takes (length c.args.colors.now) c.args.next.now c.args.previous.now c.args.colors.now c.fill.new.colors c.fill-2.new.colors c.paint_all.new.colors names c.args.root candidates class c.paint_all.new.found.items
        (record { tables = c.requires.tables; root_unknown = c.requires.root_unknown; classes = c.requires.classes; leading = first; among = second; rest = again })
        c.name_all.new.names
        (λ b h. ap (λ (xs : List ℕ). get_or xs b 0) named_so ∙ named-each c.args.root class names b within h)
        (λ b. subst (λ (xs : List ℕ). (get_or xs b 0 ≡ get_or names b 0) ⊎ Contains class b) (sym named_so) (named-others c.args.root class names b))
