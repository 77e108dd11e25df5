-- Lists of the rules whose time is 0, and the symbols that are reached by the other rules.
use Rattle.std.proofs.Common.{◌≡◌, ◌↔◌, ℕ, ◌==◌, ◌&&◌, ◌||◌, not, eqb, Bool, true, false, cond, List, [], ◌∷◌, ◌++◌, refl}
use Rattle.std.proofs.Common.{sym, ap, ◌∙◌, subst, Some}
use Rattle.std.specs.Prelude.{slice_index_or}
use Rattle.std.specs.List.{list_any}
use Rattle.std.proofs.Math.Bool.{or_assoc}
use Rattle.std.proofs.lemmas.Bool.{ne_eqb}
use Rattle.its_graph.specs.Graphs.{none_of}
use Rattle.its_graph.proofs.KeptLinks.{same-edges}
use Rattle.its_graph.proofs.Reaching.{same-paths}
use Rattle.model.specs.Bounds.{Bound}
use Rattle.model.specs.Facts.{Fact, Time, Size, Cost}
use Rattle.model.specs.Paths.{HasEdge, IsReached}
use Rattle.model.specs.Programs.{Program, Rule, rule_at}
use Rattle.model.proofs.Cases.{some_same as some-same}
use Rattle.model.proofs.Membership.{same_number, same_number-sound, no_is_not_yes}
use Rattle.cert_types.specs.cert_rules.AcceptsPlain.{may_run, IsUnreached}
use Rattle.cert_types.specs.cert_rules.Known.{is_zero_bound, has_zero_time}
use Rattle.check_file.specs.Zeros.{AddsZeros, AreZeros}

-- the test whether two numbers are equal doesn't depend on their order
swapped : (t u : ℕ) → eqb t u ≡ (u == t)
swapped t u = go (u == t) refl
  where
    go : (v : Bool) → (u == t) ≡ v → eqb t u ≡ v
    go true e = subst (λ (n : ℕ). eqb n u ≡ true) (same_number-sound u t e) (same_number u)
    go false e =
        ne_eqb t u (λ k. no_is_not_yes (u == t) e (subst (λ (n : ℕ). (u == n) ≡ true) (sym k) (same_number u)))

or-none : (b : Bool) → (b || false) ≡ b
or-none true = refl
or-none false = refl

-- a number is in a list with one more if it is in the list or is that one
any-push : (t r : ℕ) (xs : List ℕ) → list_any (eqb t) (xs ++ r ∷ []) ≡ (list_any (eqb t) xs || eqb t r)
any-push t r [] = or-none (eqb t r)
any-push t r (x ∷ xs) =
    ap (λ (b : Bool). eqb t x || b) (any-push t r xs) ∙ sym (or_assoc (eqb t x) (list_any (eqb t) xs) (eqb t r))

-- a fact that is no time of 0 adds no rule
pub adds-none : (old : List ℕ) (f : Fact) → ((t : ℕ) → has_zero_time (f ∷ []) t ≡ false) → AddsZeros old (f ∷ []) old
adds-none old f h = record {
  each = λ t. sym (ap (λ (b : Bool). list_any (eqb t) old || b) (h t) ∙ or-none (list_any (eqb t) old));
}

-- a time that isn't 0 is no time of 0
pub no-zero : (u : ℕ) (b : Bound) → is_zero_bound b ≡ false → (t : ℕ) → has_zero_time (Time u b ∷ []) t ≡ false
no-zero u b e t = ap (λ (v : Bool). cond ((u == t) && v) true false) e ∙ go (u == t)
  where
    go : (v : Bool) → cond (v && false) true false ≡ false
    go true = refl
    go false = refl

-- a time that is 0 adds its rule
pub adds-zero : (old new : List ℕ) (u : ℕ) (b : Bound) → is_zero_bound b ≡ true → new ≡ old ++ u ∷ []
    → AddsZeros old (Time u b ∷ []) new
adds-zero old new u b z e = record {
  each = λ t.
      ap (list_any (eqb t)) e
      ∙ (any-push t u old
      ∙ ap (λ (v : Bool). list_any (eqb t) old || v) (swapped t u ∙ (sym (go (u == t))
      ∙ ap (λ (v : Bool). cond ((u == t) && v) true false) (sym z))));
}
  where
    go : (v : Bool) → cond (v && true) true false ≡ v
    go true = refl
    go false = refl

-- a time of a rule is 0 by one of two lists joined if it is by one of the two
zero-append : (fs gs : List Fact) (t : ℕ) → has_zero_time (fs ++ gs) t ≡ (has_zero_time fs t || has_zero_time gs t)
zero-append [] gs t = refl
zero-append (Time u b ∷ fs) gs t = go ((u == t) && is_zero_bound b) (zero-append fs gs t)
  where
    go : (v : Bool) → has_zero_time (fs ++ gs) t ≡ (has_zero_time fs t || has_zero_time gs t)
        → cond v true (has_zero_time (fs ++ gs) t) ≡ (cond v true (has_zero_time fs t) || has_zero_time gs t)
    go true h = refl
    go false h = h
zero-append (Size u i b ∷ fs) gs t = zero-append fs gs t
zero-append (Cost u b ∷ fs) gs t = zero-append fs gs t

-- the rules added by two lists, one after the other, are those of the lists joined
pub adds-both : (a b c : List ℕ) (fs gs : List Fact) → AddsZeros a fs b → AddsZeros b gs c → AddsZeros a (fs ++ gs) c
adds-both a b c fs gs h k = record {
  each = λ t.
      k.each t
      ∙ (ap (λ (v : Bool). v || has_zero_time gs t) (h.each t)
      ∙ (or_assoc (list_any (eqb t) a) (has_zero_time fs t) (has_zero_time gs t)
      ∙ ap (λ (v : Bool). list_any (eqb t) a || v) (sym (zero-append fs gs t))));
}

-- no facts add no rule
pub adds-nothing : (a : List ℕ) → AddsZeros a [] a
adds-nothing a = record { each = λ t. sym (or-none (list_any (eqb t) a)) }

-- the rules added to the empty list are all of them
pub zeros-from : (cut : List ℕ) (fs : List Fact) → AddsZeros [] fs cut → AreZeros fs cut
zeros-from cut fs h = record { each = λ t. h.each t }

-- the symbols reached by rules that aren't in the list are those reached by the rules that may run
pub reached-same : (p : Program) (facts : List Fact) (cut : List ℕ) → AreZeros facts cut → (b : ℕ)
    → IsReached p (none_of cut) b ↔ IsReached p (may_run facts) b
reached-same p facts cut h b =
    same-paths (HasEdge p (none_of cut)) (HasEdge p (may_run facts))
    (same-edges p (none_of cut) (may_run facts) (λ t r e. ap not (h.each t))) p.start b

module _ (p : Program) (facts : List Fact) (cut : List ℕ) (zeros : AreZeros facts cut) (seen : List Bool)
    (reached : (b : ℕ) → (slice_index_or seen b false ≡ true) ↔ IsReached p (none_of cut) b) (t : ℕ) (r : Rule)
    (numbered : rule_at p t ≡ Some r) where
  -- if the source of a rule is seen, it is reached
  pub seen-reached : slice_index_or seen r.source false ≡ true → ¬ (IsUnreached p (may_run facts) t)
  seen-reached h k = k r numbered ((reached-same p facts cut zeros r.source).0 ((reached r.source).0 h))

  -- if the source of a rule isn't seen, it isn't reached
  pub unseen-unreached : slice_index_or seen r.source false ≡ false → IsUnreached p (may_run facts) t
  unseen-unreached h q e k =
      no_is_not_yes (slice_index_or seen r.source false) h
      ((reached r.source).1 ((reached-same p facts cut zeros r.source).1
      (subst (λ (x : Rule). IsReached p (may_run facts) x.source) (some-same q r (sym e ∙ numbered)) k)))
