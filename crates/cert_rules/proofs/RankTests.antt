-- The tests of ranking nodes decide acceptance.
use Rattle.std.proofs.Common.{◌≡◌, ℕ, ◌==◌, ◌&&◌, List, [], ◌∷◌, length, map, Option, Some, None, refl, is_some}
use Rattle.std.specs.Bool.{Decides}
use Rattle.std.proofs.lemmas.Bool.Decides.{Decides-eqb, Decides-and, Decides-like}
use Rattle.run_counting.specs.model.Programs.{Program, arity_of}
use Rattle.run_counting.specs.model.Bounds.{Bound}
use Rattle.run_counting.specs.model.Entries.{entries}
use Rattle.bound_expr.specs.Measure.{is_large}
use Rattle.cert_rules.specs.Nodes.{ResultVariable, SymbolForm, RankNode}
use Rattle.cert_rules.specs.Graph.{symbols_of}
use Rattle.cert_rules.specs.Known.{IsKnown, Table}
use Rattle.cert_rules.specs.Limits.{IsSmallComposed}
use Rattle.cert_rules.specs.AcceptsPlain.{IsRule, AreMultipliers}
use Rattle.cert_rules.specs.AcceptsRank.{HasFormShape, moves_of, HasRankShape, rank_time}
use Rattle.cert_rules.specs.Checks.{check_time, check_size, check_small, needed_after_each, rank_checks}
use Rattle.cert_rules.specs.Reasons.{Check, for_each}
use Rattle.cert_rules.specs.Setting.{Setting}
use Rattle.cert_rules.specs.Tests.{Test}
use Rattle.cert_rules.specs.NumberTests.{are_multipliers}
use Rattle.cert_rules.specs.PlainTests.{is_rule}
use Rattle.cert_rules.specs.RankTests.{test_time, test_size, test_small, is_small, are_same, has_form_shape}
use Rattle.cert_rules.specs.RankTests.{has_set_shape, has_function_shape, has_certificate_shape, rank_tests}
use Rattle.cert_rules.proofs.TestLists.{AllDecide, each-decides}
use Rattle.cert_rules.proofs.NumberTests.{decides-yes, decides-no, decides-le, decides-not, decides-all}
use Rattle.cert_rules.proofs.NumberTests.{decides-each, decides-limit, decides-form, decides-multipliers}
use Rattle.cert_rules.proofs.NumberTests.{decides-ascending, decides-implies}
use Rattle.cert_rules.proofs.PlainTests.{decides-rule}

-- whether a bound is known is decided
pub decides-known : (o : Option Bound) → Decides (is_some o) (IsKnown o)
decides-known (Some b) = decides-yes (b, refl)
decides-known None = decides-no (λ h. no h.0 h.1)
  where
    no : (b : Bound) → None ≡ Some b → ⊥
    no b e = cc

decides-small : (rewrite : Bound → Bound) (b : Bound) → Decides (is_small rewrite b) (IsSmallComposed rewrite b)
decides-small rewrite b =
    Decides-like (is_small rewrite b) (λ h. record { before = h.0; after = h.1 }) (λ h. (h.before, h.after))
    (Decides-and _ _ (decides-not (is_large b)) (decides-not (is_large (rewrite b))))

-- laws for the last tests of a node: of its times and sizes, and that its bound is small
module _ (s : Setting) (table : Table) where
  -- the last test decides whether the composed bound is small
  pub small-last : (b : Bound) → AllDecide (check_small s b ∷ []) (test_small s b ∷ [])
  small-last b = (refl, (decides-small s.rewrite b, tt))

  -- tests that rules have times decide the checks for them, before further ones that decide
  pub times-decide : (ts : List ℕ) (cs : List Check) (rest : List Test) → AllDecide cs rest
      → AllDecide (for_each (check_time table) ts cs) (for_each (test_time table) ts rest)
  times-decide ts cs rest h =
      each-decides (check_time table) (test_time table) cs rest (λ t. refl) (λ t. decides-known (table.time t)) h ts

  -- tests that places have sizes decide the checks for them, before further ones that decide
  pub sizes-decide : (result_variables : List ResultVariable) (cs : List Check) (rest : List Test) → AllDecide cs rest
      → AllDecide (for_each (check_size table) result_variables cs) (for_each (test_size table) result_variables rest)
  sizes-decide result_variables cs rest h =
      each-decides (check_size table) (test_size table) cs rest (λ result_variable. refl)
      (λ result_variable. decides-known (table.size result_variable.rule result_variable.place)) h result_variables

-- the test whether two lists of numbers are equal is right
decides-same : (xs ys : List ℕ) → Decides (are_same xs ys) (xs ≡ ys)
decides-same [] [] = decides-yes refl
decides-same [] (y ∷ ys) = decides-no no
  where
    no : [] ≡ y ∷ ys → ⊥
    no e = cc
decides-same (x ∷ xs) [] = decides-no no
  where
    no : x ∷ xs ≡ [] → ⊥
    no e = cc
decides-same (x ∷ xs) (y ∷ ys) =
    Decides-like ((x == y) && are_same xs ys) (λ h. both h.0 h.1) (λ e. (first e, rest e))
    (Decides-and (x == y) (are_same xs ys) (Decides-eqb x y) (decides-same xs ys))
  where
    first : x ∷ xs ≡ y ∷ ys → x ≡ y
    first e = cc

    rest : x ∷ xs ≡ y ∷ ys → xs ≡ ys
    rest e = cc

    both : x ≡ y → xs ≡ ys → x ∷ xs ≡ y ∷ ys
    both e f = cc

decides-form_shape : (p : Program) (f : SymbolForm) → Decides (has_form_shape p f) (HasFormShape p f)
decides-form_shape p f =
    Decides-like (has_form_shape p f) (λ h. record { long = h.0; limit = h.1 }) (λ h. (h.long, h.limit))
    (Decides-and _ _ (Decides-eqb (length f.form.coefs) (arity_of p f.symbol)) (decides-form f.form))

-- laws for the shape of a ranking node: that of the set, of the function and of the multipliers
module _ (s : Setting) (node : RankNode) where
  decides-rank_shape :
      Decides (has_set_shape s.program node && has_function_shape s.program node && has_certificate_shape s node)
      (HasRankShape s node)
  decides-rank_shape =
      Decides-like _
      (λ h. record {
        ascending = h.0.0.0.0;
        rules = h.0.0.0.1;
        inside = h.0.0.1;
        symbols = h.0.1.0.0.0;
        forms = h.0.1.0.0.1;
        den = h.0.1.0.1;
        den_limit = h.0.1.1;
        one_each = h.1.0.0;
        moves = h.1.0.1;
        floor = h.1.1;
      })
      (λ h. (
        (
          ((h.ascending, h.rules), h.inside),
          (((h.symbols, h.forms), h.den), h.den_limit),
        ),
        ((h.one_each, h.moves), h.floor),
      ))
      (Decides-and _ _
      (Decides-and _ _
      (Decides-and _ _
      (Decides-and _ _ (decides-ascending node.set)
      (decides-each (is_rule s.program) (IsRule s.program) (decides-rule s.program) node.set))
      ((λ e. e), (λ e. e)))
      (Decides-and _ _
      (Decides-and _ _
      (Decides-and _ _ (decides-same (map (λ f. f.symbol) node.forms) (symbols_of s.program node.set))
      (decides-all (has_form_shape s.program) (HasFormShape s.program) (decides-form_shape s.program) node.forms))
      (decides-le 1 node.den))
      (decides-limit node.den)))
      (Decides-and _ _
      (Decides-and _ _ (Decides-eqb (length node.moves) (length node.set))
      (decides-each (λ t. are_multipliers s t (moves_of node.set node.moves t))
      (λ t. AreMultipliers s t (moves_of node.set node.moves t))
      (λ t. decides-multipliers s t (moves_of node.set node.moves t)) node.set))
      (decides-multipliers s node.rule node.floor)))

  -- a ranking node's tests decide its checks
  pub rank-decides : (table : Table) → AllDecide (rank_checks s table node) (rank_tests s table node)
  rank-decides table = (
    refl,
    (
      decides-rank_shape,
      each-decides _ _ _ _ (λ t. refl) (λ t. decides-implies _ _ _) (
        refl,
        (
          decides-implies _ _ _,
          times-decide s table (entries s.program node.set) _ _
              (sizes-decide s table (needed_after_each s node (entries s.program node.set)) _ _
              (small-last s table (rank_time s node table))),
        ),
      )
          node.set,
    ),
  )
