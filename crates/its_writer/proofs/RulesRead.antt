-- The canonical text of a rule is read as the rule's written form.
use Rattle.std.proofs.Common.{◌≡◌, ℕ, List, [], ◌∷◌, ◌++◌, Option, Some, None, refl, ap, ◌∙◌}
use Rattle.std.specs.Prelude.{codes, ⊤}
use Rattle.std.specs.List.{AllByRecursion}
use Rattle.its_text.specs.expr_text.model.Programs as plain
use Rattle.its_text.specs.expr_text.model.Programs.{Name, Relation, AtLeast, MoreThan, AtMost, LessThan, EqualTo}
use Rattle.its_text.specs.expr_text.model.Terms.{Term}
use Rattle.its_text.specs.expr_text.text_core.Names.{IsName, continues_name}
use Rattle.its_text.specs.expr_text.text_core.Readers.{onto}
use Rattle.its_text.proofs.expr_text.text_core.PrefixLaws.{Stops}
use Rattle.its_text.specs.expr_text.Pieces as inner
use Rattle.its_text.specs.expr_text.Trees.{Sum, sum_behind}
use Rattle.its_text.specs.expr_text.Guards.{Atoms, First, Joined, atom_behind, atoms_behind}
use Rattle.its_text.specs.Pieces.{Piece, In, Comma, Arrow, CostOpen, CostClose, GuardMark, word, open_bracket, close_bracket}
use Rattle.its_text.specs.Lexing.{Within}
use Rattle.its_text.specs.Written.{names_behind, sums_behind, arrow_behind, guard_behind, rule_behind, rules_behind}
use Rattle.its_text.specs.Written.{WrittenRule}
use Rattle.its_writer.specs.Layout.{each_then, arrow_by, joined_then}
use Rattle.its_writer.specs.Expressions.{name_at, name_then, expression_then, sign_of, atom_then, guard_then}
use Rattle.its_writer.specs.Texts.{left_names, arrow_then, rule_then}
use Rattle.its_writer.proofs.CanonicalSections.{expression_written, arguments_written, sign_written, atom_written, atoms_written}
use Rattle.its_writer.proofs.CanonicalSections.{guard_written, cost_written, rule_written, rules_written}
use Rattle.its_writer.proofs.Lexed.{lexed, moved, word_lexed}
use Rattle.its_writer.proofs.ExpressionsRead.{IsWritable, IsRead, expression_read}

-- a list with commas before its elements begins with no byte that continues a name
commas_stop : {X : Type 0} (text : X → List ℕ → List ℕ) (xs : List X) (rest : List ℕ) → Stops continues_name rest → Stops continues_name (each_then (arrow_by (codes ",") text) xs rest)
commas_stop text [] rest stop = stop
commas_stop text (x ∷ xs) rest stop = refl

-- more names, each after a comma, are read
more_names : (d : ℕ) (a : Name) (done names : List Name) (before : List Piece) (rest : List ℕ) → AllByRecursion IsName names → Stops continues_name rest
    → onto (names_behind (a ∷ done) before) (lexed (Within d) (each_then (arrow_by (codes ",") name_then) names rest)) ≡ onto (names_behind (onto names (a ∷ done)) before) (lexed (Within d) rest)
more_names d a done [] before rest is stop = refl
more_names d a done (b ∷ names) before rest is stop =
    ap (λ ps. onto (names_behind (a ∷ done) before) (Comma ∷ ps))
    (moved (Within d) 1 (b ++ each_then (arrow_by (codes ",") name_then) names rest) ∙ word_lexed d b (each_then (arrow_by (codes ",") name_then) names rest) is.0 (commas_stop name_then names rest stop))
    ∙ more_names d b (a ∷ done) names before rest is.1 stop

pub names_read : (d : ℕ) (names : List Name) → AllByRecursion IsName names → IsRead d (joined_then (codes ",") name_then names) (names_behind (onto names []))
names_read d [] is = record { each = λ before rest stop. refl }
names_read d (a ∷ names) is = record {
  each = λ before rest stop.
      ap (onto before) (word_lexed d a (each_then (arrow_by (codes ",") name_then) names rest) is.0 (commas_stop name_then names rest stop))
      ∙ more_names d a [] names before rest is.1 stop;
}

-- more arguments, each after a comma, are read
more_arguments : (d : ℕ) (variables : List Name) (s : Sum) (done : List Sum) (es : List Term) (before : List Piece) (rest : List ℕ) → AllByRecursion (IsWritable variables) es → Stops continues_name rest
    → onto (sums_behind (s ∷ done) before) (lexed (Within d) (each_then (arrow_by (codes ",") (expression_then variables)) es rest)) ≡ onto (sums_behind (arguments_written variables (s ∷ done) es) before) (lexed (Within d) rest)
more_arguments d variables s done [] before rest w stop = refl
more_arguments d variables s done (e ∷ es) before rest w stop =
    let behind : List ℕ = each_then (arrow_by (codes ",") (expression_then variables)) es rest in
    ap (λ ps. onto (sums_behind (s ∷ done) before) (Comma ∷ ps)) (moved (Within d) 1 (expression_then variables e behind))
    ∙ (expression_read variables e w.0 d).each (Comma ∷ sums_behind (s ∷ done) before) behind (commas_stop (expression_then variables) es rest stop)
    ∙ more_arguments d variables (expression_written variables e) (s ∷ done) es before rest w.1 stop

pub arguments_read : (d : ℕ) (variables : List Name) (es : List Term) → AllByRecursion (IsWritable variables) es
    → IsRead d (joined_then (codes ",") (expression_then variables) es) (sums_behind (arguments_written variables [] es))
arguments_read d variables [] w = record { each = λ before rest stop. refl }
arguments_read d variables (e ∷ es) w = record {
  each = λ before rest stop.
      (expression_read variables e w.0 d).each before (each_then (arrow_by (codes ",") (expression_then variables)) es rest) (commas_stop (expression_then variables) es rest stop)
      ∙ more_arguments d variables (expression_written variables e) [] es before rest w.1 stop;
}

-- the text of a relation is read as its sign
sign_lexed : (d : ℕ) (relation : Relation) (rest : List ℕ) → lexed (Within d) (sign_of relation ++ rest) ≡ In (inner.Related (sign_written relation)) ∷ lexed (Within d) rest
sign_lexed d AtLeast rest = ap (λ ps. In (inner.Related inner.AtLeastSign) ∷ ps) (moved (Within d) 4 rest)
sign_lexed d MoreThan rest = ap (λ ps. In (inner.Related inner.MoreThanSign) ∷ ps) (moved (Within d) 3 rest)
sign_lexed d AtMost rest = ap (λ ps. In (inner.Related inner.AtMostSign) ∷ ps) (moved (Within d) 4 rest)
sign_lexed d LessThan rest = ap (λ ps. In (inner.Related inner.LessThanSign) ∷ ps) (moved (Within d) 3 rest)
sign_lexed d EqualTo rest = ap (λ ps. In (inner.Related inner.EqualSign) ∷ ps) (moved (Within d) 3 rest)

sign_stops : (relation : Relation) (rest : List ℕ) → Stops continues_name (sign_of relation ++ rest)
sign_stops AtLeast rest = refl
sign_stops MoreThan rest = refl
sign_stops AtMost rest = refl
sign_stops LessThan rest = refl
sign_stops EqualTo rest = refl

-- an atom whose expressions are writable
abbrev pub IsWritableAtom : List Name → plain.Atom → Type 0
IsWritableAtom names plain.Always = ⊤
IsWritableAtom names (plain.Compare l relation r) = IsWritable names l × IsWritable names r

truth_is : IsName (codes "TRUE")
truth_is = (refl, refl)

-- the text of an atom is read as its written form
atom_read : (d : ℕ) (names : List Name) (a : plain.Atom) → IsWritableAtom names a → IsRead d (atom_then names a) (atom_behind In (atom_written names a))
atom_read d names plain.Always w = record { each = λ before rest stop. ap (onto before) (word_lexed d (codes "TRUE") rest truth_is stop) }
atom_read d names (plain.Compare l relation r) w = record {
  each = λ before rest stop.
      (expression_read names l w.0 d).each before (sign_of relation ++ expression_then names r rest) (sign_stops relation (expression_then names r rest))
      ∙ ap (onto (sum_behind In (expression_written names l) before)) (sign_lexed d relation (expression_then names r rest))
      ∙ (expression_read names r w.1 d).each (In (inner.Related (sign_written relation)) ∷ sum_behind In (expression_written names l) before) rest stop;
}

-- atoms, each after `&&`, begin with no byte that continues a name
joints_stop : {X : Type 0} (text : X → List ℕ → List ℕ) (xs : List X) (rest : List ℕ) → Stops continues_name rest → Stops continues_name (each_then (arrow_by (codes " && ") text) xs rest)
joints_stop text [] rest stop = stop
joints_stop text (x ∷ xs) rest stop = refl

-- more atoms after others, each after `&&`, are read
more_atoms : (d : ℕ) (names : List Name) (done : Atoms) (atoms : List plain.Atom) (before : List Piece) (rest : List ℕ) → AllByRecursion (IsWritableAtom names) atoms → Stops continues_name rest
    → onto (atoms_behind In done before) (lexed (Within d) (each_then (arrow_by (codes " && ") (atom_then names)) atoms rest)) ≡ onto (atoms_behind In (atoms_written names done atoms) before) (lexed (Within d) rest)
more_atoms d names done [] before rest w stop = refl
more_atoms d names done (a ∷ atoms) before rest w stop =
    let behind : List ℕ = each_then (arrow_by (codes " && ") (atom_then names)) atoms rest in
    ap (λ ps. onto (atoms_behind In done before) (In (inner.Joining inner.Ampersands) ∷ ps)) (moved (Within d) 4 (atom_then names a behind))
    ∙ (atom_read d names a w.0).each (In (inner.Joining inner.Ampersands) ∷ atoms_behind In done before) behind (joints_stop (atom_then names) atoms rest stop)
    ∙ more_atoms d names (Joined done inner.Ampersands (atom_written names a)) atoms before rest w.1 stop

-- the text of a guard is read as its written form
pub guard_read : (d : ℕ) (names : List Name) (atoms : List plain.Atom) → AllByRecursion (IsWritableAtom names) atoms → IsRead d (guard_then names atoms) (guard_behind (guard_written names atoms))
guard_read d names [] w = record { each = λ before rest stop. refl }
guard_read d names (a ∷ atoms) w = record {
  each = λ before rest stop.
      let behind : List ℕ = each_then (arrow_by (codes " && ") (atom_then names)) atoms rest in
      ap (λ ps. onto before (GuardMark ∷ ps)) (moved (Within d) 5 (atom_then names a behind))
      ∙ (atom_read d names a w.0).each (GuardMark ∷ before) behind (joints_stop (atom_then names) atoms rest stop)
      ∙ more_atoms d names (First (atom_written names a)) atoms (GuardMark ∷ before) rest w.1 stop;
}

-- a writable cost, or none
abbrev pub IsWritableCost : List Name → Option Term → Type 0
IsWritableCost names None = ⊤
IsWritableCost names (Some c) = IsWritable names c

-- the text of an arrow is read as its written form
arrow_read : (d : ℕ) (names : List Name) (cost : Option Term) → IsWritableCost names cost → IsRead d (arrow_then names cost) (arrow_behind (cost_written names cost))
arrow_read d names None w = record { each = λ before rest stop. ap (λ ps. onto before (Arrow ∷ ps)) (moved (Within d) 2 rest) }
arrow_read d names (Some c) w = record {
  each = λ before rest stop.
      ap (λ ps. onto before (CostOpen ∷ ps)) (moved (Within d) 2 (expression_then names c (125 ∷ 62 ∷ rest)))
      ∙ (expression_read names c w d).each (CostOpen ∷ before) (125 ∷ 62 ∷ rest) refl
      ∙ ap (λ ps. onto (sum_behind In (expression_written names c) (CostOpen ∷ before)) (CostClose ∷ ps)) (moved (Within d) 2 rest);
}

-- a writable rule: its symbols and left variables have names, and its expressions are writable
pub record IsWritableRule (symbols : List Name) (r : plain.Rule) : Type 0 where
  pub source : IsName (name_at symbols r.source)
  pub target : IsName (name_at symbols r.target)
  pub left : AllByRecursion IsName (left_names r)
  pub cost : IsWritableCost r.names r.cost
  pub updates : AllByRecursion (IsWritable r.names) r.updates
  pub guard : AllByRecursion (IsWritableAtom r.names) r.guard

-- the text of a rule is read as its written form
rule_read : (symbols : List Name) (r : plain.Rule) → IsWritableRule symbols r → (before : List Piece) (rest : List ℕ)
    → onto before (lexed (Within 0) (rule_then symbols r rest)) ≡ onto (rule_behind (rule_written symbols r) before) (lexed (Within 0) rest)
rule_read symbols r w before rest =
    let source : Name = name_at symbols r.source in
    let target : Name = name_at symbols r.target in
    let guard : List ℕ = guard_then r.names r.guard (10 ∷ rest) in
    let updates : List ℕ = joined_then (codes ",") (expression_then r.names) r.updates (41 ∷ 41 ∷ guard) in
    let arrow : List ℕ = arrow_then r.names r.cost (codes " Com_1(" ++ (target ++ (40 ∷ updates))) in
    let left : List ℕ = joined_then (codes ",") name_then (left_names r) (41 ∷ 32 ∷ arrow) in
    let before1 : List Piece = open_bracket ∷ word source ∷ before in
    let before2 : List Piece = close_bracket ∷ names_behind (onto (left_names r) []) before1 in
    let before3 : List Piece = arrow_behind (cost_written r.names r.cost) before2 in
    let before4 : List Piece = open_bracket ∷ word target ∷ open_bracket ∷ word (codes "Com_1") ∷ before3 in
    let before5 : List Piece = close_bracket ∷ close_bracket ∷ sums_behind (arguments_written r.names [] r.updates) before4 in
    ap (onto before) (moved (Within 0) 2 (source ++ (40 ∷ left)) ∙ word_lexed 0 source (40 ∷ left) w.source refl)
    ∙ ap (λ ps. onto before1 ps) (moved (Within 1) 1 left)
    ∙ (names_read 1 (left_names r) w.left).each before1 (41 ∷ 32 ∷ arrow) refl
    ∙ ap (λ ps. onto before2 ps) (moved (Within 0) 2 arrow)
    ∙ (arrow_read 0 r.names r.cost w.cost).each before2 (codes " Com_1(" ++ (target ++ (40 ∷ updates))) refl
    ∙ ap (λ ps. onto before3 (word (codes "Com_1") ∷ open_bracket ∷ ps)) (moved (Within 1) 7 (target ++ (40 ∷ updates)) ∙ word_lexed 1 target (40 ∷ updates) w.target refl)
    ∙ ap (λ ps. onto before4 ps) (moved (Within 2) 1 updates)
    ∙ (arguments_read 2 r.names r.updates w.updates).each before4 (41 ∷ 41 ∷ guard) refl
    ∙ ap (λ ps. onto before5 ps) (moved (Within 0) 2 guard)
    ∙ (guard_read 0 r.names r.guard w.guard).each before5 (10 ∷ rest) refl
    ∙ ap (λ ps. onto (guard_behind (guard_written r.names r.guard) before5) ps) (moved (Within 0) 1 rest)

-- the texts of rules, each on a line, are read as their written forms
pub rules_read : (symbols : List Name) (done : List WrittenRule) (rules : List plain.Rule) (before : List Piece) (rest : List ℕ) → AllByRecursion (IsWritableRule symbols) rules
    → onto (rules_behind done before) (lexed (Within 0) (each_then (rule_then symbols) rules rest)) ≡ onto (rules_behind (rules_written symbols done rules) before) (lexed (Within 0) rest)
rules_read symbols done [] before rest w = refl
rules_read symbols done (r ∷ rules) before rest w =
    rule_read symbols r w.0 (rules_behind done before) (each_then (rule_then symbols) rules rest)
    ∙ rules_read symbols (rule_written symbols r ∷ done) rules before rest w.1
