-- Texts that are appended part by part.
use Rattle.std.proofs.Common.{◌≡◌, ℕ, zero, suc, ◌+◌, ◌<◌, ◌≤◌, min, List, [], ◌∷◌, ◌++◌, length, map, drop, take, get_or}
use Rattle.std.proofs.Common.{Some, None, refl, ap, sym, ◌∙◌, arith, append-nil}
use Rattle.std.specs.Prelude.{codes, Result, Ok, Err, OnOk, slice_get}
use Rattle.std.specs.declared.alloc.AllocError.{AllocError}
use Rattle.std.proofs.lemmas.List.{drop_more, drop_all}
use Rattle.its_text.specs.expr_text.model.Programs.{Name, Program}
use Rattle.its_model.specs.Views.{symbol_of}
use Rattle.its_model.specs.declared.program.Symbol.{Symbol}
use Rattle.its_text.specs.expr_text.text_core.Names.{name_of}
use Rattle.its_writer.specs.Layout.{each_then, arrow_by}
use Rattle.its_writer.specs.Expressions.{name_at, name_then}
use Rattle.its_writer.specs.Texts.{symbol_names, variables_of, rule_then, program_then}
use Rattle.its_writer.specs.Printing.{Writes, WritesAll}

module _ {X Y : Type 0} (view : X → Y) (text : Y → List ℕ → List ℕ) where
  -- one more part is written, after its separator
  pub written_more : (led : List ℕ) (xs : List X) (i : ℕ) (x : X) (old mid next new : List ℕ) (all : List ℕ → List ℕ) → i < length xs → x ≡ get_or xs i x
      → Writes old mid all (each_then (arrow_by led text) (map view (drop i xs))) → WritesAll mid next (λ rest. led ++ rest) → WritesAll next new (text (view x))
      → Writes old new all (each_then (arrow_by led text) (map view (drop (i + 1) xs)))
  written_more led xs i x old mid next new all h is a b c = record {
    each = λ rest.
        let left : List ℕ = each_then (arrow_by led text) (map view (drop (i + 1) xs)) rest in
        let more : drop i xs ≡ x ∷ drop (i + 1) xs = drop_more xs i x h ∙ ap (λ (y : X). y ∷ drop (i + 1) xs) (sym is) in
        c.each left ∙ b.each (text (view x) left) ∙ ap (λ (ys : List X). mid ++ each_then (arrow_by led text) (map view ys) rest) (sym more) ∙ a.each rest;
  }

  -- when no part is left, the whole text has been written
  pub written_whole : (led : List ℕ) (xs : List X) (i : ℕ) (old new : List ℕ) (all : List ℕ → List ℕ) → length xs ≤ i
      → Writes old new all (each_then (arrow_by led text) (map view (drop i xs))) → WritesAll old new all
  written_whole led xs i old new all h a = record {
    each = λ rest. ap (λ (ys : List X). new ++ each_then (arrow_by led text) (map view ys) rest) (sym (drop_all i xs h)) ∙ a.each rest;
  }

  -- one more part is written, without a separator
  pub written_next : (xs : List X) (i : ℕ) (x : X) (old mid new : List ℕ) (all : List ℕ → List ℕ) → i < length xs → x ≡ get_or xs i x
      → Writes old mid all (each_then text (map view (drop i xs))) → WritesAll mid new (text (view x)) → Writes old new all (each_then text (map view (drop (i + 1) xs)))
  written_next xs i x old mid new all h is a c = record {
    each = λ rest.
        let left : List ℕ = each_then text (map view (drop (i + 1) xs)) rest in
        let more : drop i xs ≡ x ∷ drop (i + 1) xs = drop_more xs i x h ∙ ap (λ (y : X). y ∷ drop (i + 1) xs) (sym is) in
        c.each left ∙ ap (λ (ys : List X). mid ++ each_then text (map view ys) rest) (sym more) ∙ a.each rest;
  }

  pub written_end : (xs : List X) (i : ℕ) (old new : List ℕ) (all : List ℕ → List ℕ) → length xs ≤ i → Writes old new all (each_then text (map view (drop i xs))) → WritesAll old new all
  written_end xs i old new all h a = record { each = λ rest. ap (λ (ys : List X). new ++ each_then text (map view ys) rest) (sym (drop_all i xs h)) ∙ a.each rest }

-- taking at most n elements gives as many as there are, seen as plain data
pub taken : {X Y : Type 0} (view : X → Y) (xs : List X) (n : ℕ) → map view (take (min (length xs) n) xs) ≡ take n (map view xs)
taken view [] zero = refl
taken view [] (suc n) = ap (λ k. map view (take k [])) (let e : min (length {A = ℕ} []) (suc n) ≡ 0 = omega arith in e)
taken view (x ∷ xs) zero = ap (λ k. map view (take k (x ∷ xs))) (let e : min (length (x ∷ xs)) 0 ≡ 0 = omega arith in e)
taken view (x ∷ xs) (suc n) =
    ap (λ k. map view (take k (x ∷ xs))) (let e : min (length (x ∷ xs)) (suc n) ≡ suc (min (length xs) n) = omega arith in e)
    ∙ ap (λ ys. view x ∷ ys) (taken view xs n)

-- the name of a symbol that is in the list
pub symbol_named : (symbols : List Symbol) (i : ℕ) (d : Symbol) → i < length symbols → name_at (map (λ s. s.name) (map symbol_of symbols)) i ≡ name_of (get_or symbols i d).name
symbol_named [] i d h = absurd (omega (arith, h))
symbol_named (s ∷ symbols) zero d h = refl
symbol_named (s ∷ symbols) (suc i) d h = symbol_named symbols i d (omega (arith, h))

-- past the end of the list there is no name
pub symbol_missing : (symbols : List Symbol) (i : ℕ) → length symbols ≤ i → name_at (map (λ s. s.name) (map symbol_of symbols)) i ≡ []
symbol_missing [] i h = refl
symbol_missing (s ∷ symbols) zero h = absurd (omega (arith, h))
symbol_missing (s ∷ symbols) (suc i) h = symbol_missing symbols i (omega (arith, h))

-- the text of each of some names is that of the first, and of the others
pub one_then : (text : Name → List ℕ → List ℕ) (names : List Name) (i : ℕ) (rest : List ℕ) → each_then text (take 1 (drop i names)) (each_then text (drop (i + 1) names) rest) ≡ each_then text (drop i names) rest
one_then text [] zero rest = refl
one_then text [] (suc i) rest = ap (λ k. each_then text (drop k []) rest) (let e : suc i + 1 ≡ suc (i + 1) = omega arith in e)
one_then text (n ∷ names) zero rest = refl
one_then text (n ∷ names) (suc i) rest =
    ap (λ k. each_then text (take 1 (drop i names)) (each_then text (drop k (n ∷ names)) rest)) (let e : suc i + 1 ≡ suc (i + 1) = omega arith in e)
    ∙ one_then text names i rest

-- the list of the one element at a position
pub one_there : {X : Type 0} (view : X → Name) (keys : List X) (i : ℕ) (k : X) → slice_get keys i ≡ Some k → take 1 (drop i (map view keys)) ≡ view k ∷ []
one_there view [] i k e = cc
one_there view (x ∷ keys) zero k e = let same : x ≡ k = cc in ap (λ y. view y ∷ []) same
one_there view (x ∷ keys) (suc i) k e = one_there view keys i k e

pub none_there : {X : Type 0} (view : X → Name) (keys : List X) (i : ℕ) → slice_get keys i ≡ None → take 1 (drop i (map view keys)) ≡ []
none_there view [] zero e = refl
none_there view [] (suc i) e = refl
none_there view (x ∷ keys) zero e = cc
none_there view (x ∷ keys) (suc i) e = none_there view keys i e

-- one more name is written
pub name_more : (names : List Name) (i : ℕ) (old mid new : List ℕ) (all : List ℕ → List ℕ) → Writes old mid all (each_then (arrow_by (codes " ") name_then) (drop i names))
    → WritesAll mid new (each_then (arrow_by (codes " ") name_then) (take 1 (drop i names))) → Writes old new all (each_then (arrow_by (codes " ") name_then) (drop (i + 1) names))
name_more names i old mid new all a b = record {
  each = λ rest.
      b.each (each_then (arrow_by (codes " ") name_then) (drop (i + 1) names) rest)
      ∙ ap (λ (bs : List ℕ). mid ++ bs) (one_then (arrow_by (codes " ") name_then) names i rest)
      ∙ a.each rest;
}

-- when no name is left, all names have been written
pub names_whole : (names : List Name) (i : ℕ) (old new : List ℕ) (all : List ℕ → List ℕ) → length names ≤ i → Writes old new all (each_then (arrow_by (codes " ") name_then) (drop i names)) → WritesAll old new all
names_whole names i old new all h a = record {
  each = λ rest. ap (λ (ns : List Name). new ++ each_then (arrow_by (codes " ") name_then) ns rest) (sym (drop_all i names h)) ∙ a.each rest;
}

-- the sections of a program, one after the other
pub program_written : (p : Program) (known : List Name) (t0 t1 t2 t3 t4 t5 t6 t7 : List ℕ) (r : Result (Unit {0}) AllocError) → known ≡ variables_of p
    → WritesAll t0 t1 (λ rest. codes "(GOAL COMPLEXITY)\n(STARTTERM (FUNCTIONSYMBOLS " ++ rest) → WritesAll t1 t2 (λ rest. name_at (symbol_names p) p.start ++ rest) → WritesAll t2 t3 (λ rest. codes "))\n(VAR" ++ rest)
    → WritesAll t3 t4 (each_then (arrow_by (codes " ") name_then) known) → WritesAll t4 t5 (λ rest. codes ")\n(RULES\n" ++ rest) → WritesAll t5 t6 (each_then (rule_then (symbol_names p)) p.rules)
    → OnOk r (WritesAll t6 t7 (λ rest. codes ")\n" ++ rest)) → OnOk r (WritesAll t0 t7 (program_then p))
program_written p known t0 t1 t2 t3 t4 t5 t6 t7 (Err e) same a b c d f g h = tt
program_written p known t0 t1 t2 t3 t4 t5 t6 t7 (Ok u) same a b c d f g h = record {
  each = λ rest.
      let rules : List ℕ = each_then (rule_then (symbol_names p)) p.rules (codes ")\n" ++ rest) in
      let variables : List ℕ = each_then (arrow_by (codes " ") name_then) known (codes ")\n(RULES\n" ++ rules) in
      h.each rest ∙ g.each (codes ")\n" ++ rest) ∙ f.each rules ∙ d.each (codes ")\n(RULES\n" ++ rules) ∙ c.each variables
      ∙ b.each (codes "))\n(VAR" ++ variables) ∙ a.each (name_at (symbol_names p) p.start ++ (codes "))\n(VAR" ++ variables))
      ∙ ap (λ (ns : List Name). t0 ++ (codes "(GOAL COMPLEXITY)\n(STARTTERM (FUNCTIONSYMBOLS " ++ (name_at (symbol_names p) p.start ++ (codes "))\n(VAR"
      ++ each_then (arrow_by (codes " ") name_then) ns (codes ")\n(RULES\n" ++ rules))))) same;
}

-- the whole text has been written if the buffer was empty before
pub whole_text : (old new : List ℕ) (text : List ℕ → List ℕ) → old ≡ [] → WritesAll old new text → new ≡ text []
whole_text old new text empty a = sym (append-nil new) ∙ a.each [] ∙ ap (λ (bs : List ℕ). bs ++ text []) empty

-- a name is written after a blank, if there is a name
pub name_led : (one : List Name) (name : Name) (old mid new : List ℕ) (r : Result (Unit {0}) AllocError) → one ≡ name ∷ [] → WritesAll old mid (λ rest. codes " " ++ rest)
    → OnOk r (WritesAll mid new (λ rest. name ++ rest)) → OnOk r (WritesAll old new (each_then (arrow_by (codes " ") name_then) one))
name_led one name old mid new (Err e) same a b = tt
name_led one name old mid new (Ok u) same a b = record {
  each = λ rest. b.each rest ∙ a.each (name ++ rest) ∙ ap (λ (ns : List Name). old ++ each_then (arrow_by (codes " ") name_then) ns rest) (sym same);
}

pub name_missing : (one : List Name) (old : List ℕ) → one ≡ [] → WritesAll old old (each_then (arrow_by (codes " ") name_then) one)
name_missing one old same = record { each = λ rest. ap (λ (ns : List Name). old ++ each_then (arrow_by (codes " ") name_then) ns rest) (sym same) }
