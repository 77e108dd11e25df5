-- What copies have in common follows from the facts of each.
use Rattle.std.proofs.Common.{◌≡◌, ◌⊎◌, inl, inr, ℕ, zero, suc, Bool, true, false, List, [], ◌∷◌, ◌++◌, map, refl, sym, ◌∙◌}
use Rattle.std.proofs.Common.{ap, subst, arith, Option, Some, None, cond}
use Rattle.std.proofs.lemmas.Bool.Decides.{eqb_tells}
use Rattle.std.proofs.lemmas.Int.{ints, int_max_is}
use Rattle.std.proofs.lemmas.List.Elements.{All-head, All-tail}
use Rattle.std.specs.Cmp.Rules.{signed_items}
use Rattle.std.specs.Int.{int_min, int_max}
use Rattle.std.specs.List.{AllByRecursion}
use Rattle.std.specs.Prelude.{ℤ, pos, ◌+ℤ◌, ◌≤ℤ◌, fold, int_lt, nat_eq}
use Rattle.model.specs.Polynomials.{polynomial_value}
use Rattle.model.specs.Terms.{value}
use Rattle.refinement.specs.Laws.{FollowsFrom}
use Rattle.refinement.specs.Sections.{AreAtLeastZero}
use Rattle.refined_programs.specs.its_model.linear_forms.Forms.{Form}
use Rattle.refined_programs.specs.Annotated.{Copy, form_term}
use Rattle.symbol_facts.specs.Common.{are_same, with_fact, strongest, constant_of, weaker, join_facts, join_at_copies, common}
use Rattle.symbol_facts.specs.Common.{copies_of, summands}
use Rattle.symbol_facts.proofs.FormValues.{form-value}

-- a form, and each of some forms, follow from facts
abbrev pub Follows : List Form → Form → Type 0
Follows facts g = FollowsFrom (map form_term facts) (form_term g)

abbrev pub AllFollow : List Form → List Form → Type 0
AllFollow facts gs = AllByRecursion (Follows facts) gs

-- a form with a constant that is no less follows, too
greater_sum : (j k w : ℤ) → j ≤ℤ k → pos 0 ≤ℤ (j +ℤ w) → pos 0 ≤ℤ (k +ℤ w)
greater_sum j k w le h = omega (arith, ints, le, h)

weakened : (facts : List Form) (coefs : List ℤ) (j k : ℤ) → j ≤ℤ k
    → Follows facts (record { coefs = coefs; constant = j }) → Follows facts (record { coefs = coefs; constant = k })
weakened facts coefs j k le h = record {
  each = λ values meets.
      subst (λ (z : ℤ). pos 0 ≤ℤ z) (sym (form-value (record { coefs = coefs; constant = k }) values))
      (greater_sum j k (polynomial_value (summands 0 coefs) values) le
      (subst (λ (z : ℤ). pos 0 ≤ℤ z) (form-value (record { coefs = coefs; constant = j }) values) (h.each values meets)));
}

-- facts follow from themselves
follow-themselves : (facts gs : List Form)
    → ((values : List ℤ) → AreAtLeastZero (map form_term facts) values → AreAtLeastZero (map form_term gs) values)
    → AllFollow facts gs
follow-themselves facts [] h = tt
follow-themselves facts (g ∷ gs) h = (
  record { each = λ values meets. All-head (λ f. pos 0 ≤ℤ value f values) (form_term g) (map form_term gs) (h values meets) },
  follow-themselves facts gs (λ values meets.
      All-tail (λ f. pos 0 ≤ℤ value f values) (form_term g) (map form_term gs) (h values meets)),
)

-- the lesser of two constants is one of them
lesser_follows : (facts : List Form) (coefs : List ℤ) (j k : ℤ) → Follows facts (record { coefs = coefs; constant = j })
    → Follows facts (record { coefs = coefs; constant = k })
    → Follows facts (record { coefs = coefs; constant = int_min j k })
lesser_follows facts coefs j k first second = go (int_lt k j)
  where
    go : (v : Bool) → Follows facts (record { coefs = coefs; constant = cond v k j })
    go true = second
    go false = first

-- the strongest facts follow
with-follows : (facts known : List Form) (f : Form) → AllFollow facts known → Follows facts f
    → AllFollow facts (with_fact known f)
with-follows facts [] f all one = (one, tt)
with-follows facts (g ∷ known) f all one = go (are_same f.coefs g.coefs) refl (with-follows facts known f all.1 one)
  where
    go : (v : Bool) → are_same f.coefs g.coefs ≡ v → AllFollow facts (with_fact known f)
        → AllFollow facts (with_fact (g ∷ known) f)
    go true test rest =
        let same : f.coefs ≡ g.coefs = (signed_items f.coefs g.coefs).0 test in
        rw test (
          lesser_follows facts g.coefs f.constant g.constant
              (subst (λ (coefs : List ℤ). Follows facts (record { coefs = coefs; constant = f.constant })) same one) all.0,
          all.1,
        )
    go false test rest = rw test (all.0, rest)

fold-follows : (facts known rest : List Form) → AllFollow facts known → AllFollow facts rest
    → AllFollow facts (fold with_fact known rest)
fold-follows facts known [] all more = all
fold-follows facts known (f ∷ rest) all more =
    fold-follows facts (with_fact known f) rest (with-follows facts known f all more.0) more.1

pub strongest-follow : (facts : List Form) → AllFollow facts (strongest facts)
strongest-follow facts = fold-follows facts [] facts tt (follow-themselves facts facts (λ values meets. meets))

-- the constant of a fact that follows
found-follows : (facts others : List Form) (coefs : List ℤ) (k : ℤ) → constant_of coefs others ≡ Some k
    → AllFollow facts others → Follows facts (record { coefs = coefs; constant = k })
found-follows facts [] coefs k e all = absurd (let never : ⊥ = cc in never)
found-follows facts (g ∷ others) coefs k e all =
    go (are_same coefs g.coefs) refl (λ there. found-follows facts others coefs k there all.1)
  where
    go : (v : Bool) → are_same coefs g.coefs ≡ v
        → (constant_of coefs others ≡ Some k → Follows facts (record { coefs = coefs; constant = k }))
        → Follows facts (record { coefs = coefs; constant = k })
    go true test rest =
        let same : coefs ≡ g.coefs = (signed_items coefs g.coefs).0 test in
        let here : Some g.constant ≡ Some k = rw test at e in
        let one : g.constant ≡ k = cc in
        subst (λ (c : List ℤ). Follows facts (record { coefs = c; constant = k })) (sym same)
        (subst (λ (z : ℤ). Follows facts (record { coefs = g.coefs; constant = z })) one all.0)
    go false test rest = rest (rw test at e)

-- a greater constant
max_left : (j k : ℤ) → j ≤ℤ int_max j k
max_left j k = omega (arith, ints, int_max_is j k)

max_right : (j k : ℤ) → k ≤ℤ int_max j k
max_right j k = omega (arith, ints, int_max_is j k)

-- what two lists have in common follows from the facts from which either does
join-follows_from_left : (facts fs others : List Form) → AllFollow facts fs → AllFollow facts (join_facts fs others)
join-follows_from_left facts [] others all = tt
join-follows_from_left facts (f ∷ fs) others all = go (constant_of f.coefs others) (join-follows_from_left facts fs others all.1)
  where
    go : (o : Option ℤ) → AllFollow facts (join_facts fs others) → AllFollow facts (weaker f o ++ join_facts fs others)
    go None rest = rest
    go (Some k) rest =
        (weakened facts f.coefs f.constant (int_max f.constant k) (max_left f.constant k) all.0, rest)

join-follows_from_right : (facts fs others : List Form) → AllFollow facts others → AllFollow facts (join_facts fs others)
join-follows_from_right facts [] others all = tt
join-follows_from_right facts (f ∷ fs) others all = go (constant_of f.coefs others) refl (join-follows_from_right facts fs others all)
  where
    go : (o : Option ℤ) → constant_of f.coefs others ≡ o → AllFollow facts (join_facts fs others)
        → AllFollow facts (weaker f o ++ join_facts fs others)
    go None e rest = rest
    go (Some k) e rest = (
      weakened facts f.coefs k (int_max f.constant k) (max_right f.constant k)
          (found-follows facts others f.coefs k e all),
      rest,
    )

-- what is left at copies follows from that with which it began, and from the facts of each copy
kept-follow : (facts gs : List Form) (copies : List Copy) → AllFollow facts gs → AllFollow facts (join_at_copies gs copies)
kept-follow facts gs [] all = all
kept-follow facts gs (c ∷ copies) all =
    kept-follow facts (join_facts gs (strongest c.facts)) copies (join-follows_from_left facts gs (strongest c.facts) all)

join_at_copies-follow : (gs : List Form) (copies : List Copy)
    → AllByRecursion (λ c. AllFollow c.facts (join_at_copies gs copies)) copies
join_at_copies-follow gs [] = tt
join_at_copies-follow gs (c ∷ copies) = (
  kept-follow c.facts (join_facts gs (strongest c.facts)) copies
      (join-follows_from_right c.facts gs (strongest c.facts) (strongest-follow c.facts)),
  join_at_copies-follow (join_facts gs (strongest c.facts)) copies,
)

common-follow : (copies : List Copy) → AllByRecursion (λ c. AllFollow c.facts (common copies)) copies
common-follow [] = tt
common-follow (c ∷ copies) =
    (kept-follow c.facts (strongest c.facts) copies (strongest-follow c.facts), join_at_copies-follow (strongest c.facts) copies)

-- a property of the copies of a symbol is one of each copy that is of it
of-each : (s : ℕ) (P : Copy → Type 0) (copies : List Copy) → AllByRecursion P (copies_of s copies)
    → AllByRecursion (λ c. c.over ≡ s → P c) copies
of-each s P [] h = tt
of-each s P (c ∷ copies) h = go (eqb_tells c.over s) (λ rest. of-each s P copies rest)
  where
    go : (nat_eq c.over s ≡ true) × (c.over ≡ s) ⊎ (nat_eq c.over s ≡ false) × (c.over ≡ s → ⊥)
        → (AllByRecursion P (copies_of s copies) → AllByRecursion (λ d. d.over ≡ s → P d) copies)
        → AllByRecursion (λ d. d.over ≡ s → P d) (c ∷ copies)
    go (inl (test, same)) each =
        let both : AllByRecursion P (c ∷ copies_of s copies) = rw test at h in (λ over. both.0, each both.1)
    go (inr (test, other)) each =
        let rest : AllByRecursion P (copies_of s copies) = rw test at h in (λ over. absurd (other over), each rest)

-- at each copy of a symbol all that its copies have in common follows
pub common-of-symbol : (s : ℕ) (copies : List Copy)
    → AllByRecursion (λ c. c.over ≡ s → AllFollow c.facts (common (copies_of s copies))) copies
common-of-symbol s copies =
    of-each s (λ c. AllFollow c.facts (common (copies_of s copies))) copies (common-follow (copies_of s copies))
