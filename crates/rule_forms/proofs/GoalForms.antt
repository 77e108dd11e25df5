-- At parameters, the goal of a kind's question is the form that they represent, less the new value.
use Rattle.std.proofs.Common.{◌≡◌, ℕ, zero, suc, ◌<◌, ◌≤◌, ap, arith, refl, sym, ◌∙◌, [], ◌∷◌, map, Bool}
use Rattle.std.proofs.Common.{true, false, if◌then◌else◌, nat_eq, ◌⊎◌, inl, inr}
use Rattle.std.specs.Prelude.{ℤ, pos, negsuc, ◌+ℤ◌, ◌*ℤ◌, neg_ℤ}
use Rattle.std.proofs.lemmas.Int.{ints}
use Rattle.std.proofs.lemmas.Bool.{cases_lt, eqb-true, eqb-false}
use Rattle.linear_forms.specs.int_laws.Polynomial.{variable, constant, ◌⊕◌, ◌⊗◌, negated}
use Rattle.linear_forms.proofs.int_laws.Identities.{identity}
use Rattle.linear_forms.proofs.int_laws.RingLaws.{mul-zero_ℤ}
use Rattle.linear_forms.specs.Forms.{Form, at, list_dot}
use Rattle.linear_forms.specs.Combinations.{form_sum, form_times, combination}
use Rattle.linear_forms.specs.Questions.{Group, goal_at, listed}
use Rattle.linear_forms.specs.RuleQuestions.{RuleForms, before_rule, unknown_form, opposite}
use Rattle.linear_forms.proofs.CombinationLaws.{at-sum, at-times}
use Rattle.rule_forms.specs.Kinds.{AreSame, Kind, Number, Argument, Affine, unit_of}
use Rattle.rule_forms.specs.SoughtParts.{sought_places, fixed_part}
use Rattle.rule_forms.specs.Questions.{form_of, excess, IsKindOf}
use Rattle.rule_forms.proofs.Forms.{at-zeros, at-listed, at-past, at-itself, at-other}
use Rattle.rule_forms.proofs.Combined.{at-combination, constant-combination, arguments_and_one, no_coef, own_coef}
use Rattle.rule_forms.proofs.Combined.{own_constant}

-- the form to be found, with its fixed part
abbrev pub sought : ℕ → Kind → (ℕ → ℤ) → ℤ → Form
sought left kind v d =
    form_sum (combination (map before_rule (sought_places left kind)) v) (form_times d (fixed_part kind))

-- c is c times a number that is 1; 0 is c times a number that is 0
times_one : (c x : ℤ) → x ≡ pos 1 → c ≡ c *ℤ x
times_one c x e = one c ∙ ap (λ (k : ℤ). c *ℤ k) (sym e)
  where
    one : (c : ℤ) → c ≡ c *ℤ pos 1
    one c = omega (arith, ints)

times_none : (c x : ℤ) → x ≡ pos 0 → pos 0 ≡ c *ℤ x
times_none c x e = none c ∙ ap (λ (k : ℤ). c *ℤ k) (sym e)
  where
    none : (c : ℤ) → pos 0 ≡ c *ℤ pos 0
    none c = omega (arith, ints)

-- a coefficient of the form of an unknown, times c
unknown_times : (i u : ℕ) (c : ℤ) → (if nat_eq (suc u) (suc i) then c else pos 0) ≡ c *ℤ at (unknown_form i).coefs u
unknown_times i u c = go (nat_eq (suc u) (suc i)) refl
  where
    go : (b : Bool) → nat_eq (suc u) (suc i) ≡ b → (if b then c else pos 0) ≡ c *ℤ at (unknown_form i).coefs u
    go true e =
        times_one c _ (ap (λ (w : ℕ). at (unknown_form i).coefs w)
        (omega (arith, eqb-true (suc u) (suc i) e)) ∙ at-itself i)
    go false e = times_none c _ (at-other i u (λ f. eqb-false (suc u) (suc i) e (ap (λ (n : ℕ). suc n) (sym f))))

-- a coefficient of the form of an argument, times c
pub argument_coef : (left place : ℕ) (c : ℤ) (u : ℕ) → 1 ≤ place → place ≤ left
    → at (listed left (λ j. if nat_eq (suc j) place then c else pos 0)) u ≡ c *ℤ at (before_rule place).coefs u
argument_coef left zero c u l m = absurd (omega (arith, l))
argument_coef left (suc i) c u l m = go (cases_lt u left)
  where
    own : ℕ → ℤ
    own j = if nat_eq (suc j) (suc i) then c else pos 0

    go : (u < left) ⊎ (left ≤ u) → at (listed left own) u ≡ c *ℤ at (unknown_form i).coefs u
    go (inl k) = at-listed left own u k ∙ unknown_times i u c
    go (inr k) = at-past left own u k ∙ times_none c _ (at-other i u (λ e. omega (arith, e, k, m)))

-- the form of an argument has the constant 0
pub argument_constant : (place : ℕ) → 1 ≤ place → (before_rule place).constant ≡ pos 0
argument_constant zero l = absurd (omega (arith, l))
argument_constant (suc i) l = refl

-- the form of a kind is the form to be found, with its fixed part
pub form-sought : (left : ℕ) (kind : Kind) (v : ℕ → ℤ) (d : ℤ) → IsKindOf left kind
    → AreSame (form_of left kind v d) (sought left kind v d)
form-sought left Number v d k = record {
  coefs = λ u. at-zeros left u;
  constant = whole (v 0) d;
}
  where
    whole : (a d : ℤ) → a ≡ (a *ℤ pos 1 +ℤ pos 0) +ℤ d *ℤ pos 0
    whole a d = omega (arith, ints)
form-sought left (Argument place sign) v d k = record {
  coefs = λ u. argument_coef left place (d *ℤ unit_of sign) u k.0 k.1 ∙ (grouped _ ∙ (times u ∙ sym (at-sum [] _ u)));
  constant = none (ap (λ (c : ℤ). unit_of sign *ℤ c) (argument_constant place k.0));
}
  where
    grouped : (x : ℤ) → (d *ℤ unit_of sign) *ℤ x ≡ pos 0 +ℤ d *ℤ (unit_of sign *ℤ x)
    grouped x =
        identity (d ∷ unit_of sign ∷ x ∷ []) ((variable 0 ⊗ variable 1) ⊗ variable 2)
        (variable 0 ⊗ (variable 1 ⊗ variable 2)) refl
        ∙ plus _
      where
        plus : (y : ℤ) → y ≡ pos 0 +ℤ y
        plus y = omega (arith, ints)

    times : (u : ℕ) → pos 0 +ℤ d *ℤ (unit_of sign *ℤ at (before_rule place).coefs u)
        ≡ pos 0 +ℤ at (map (λ a. d *ℤ a) (map (λ a. unit_of sign *ℤ a) (before_rule place).coefs)) u
    times u = ap (λ (y : ℤ). pos 0 +ℤ y) (sym (at-times d _ u ∙ ap (λ (y : ℤ). d *ℤ y) (at-times (unit_of sign) _ u)))

    none : unit_of sign *ℤ (before_rule place).constant ≡ unit_of sign *ℤ pos 0
        → pos 0 ≡ pos 0 +ℤ d *ℤ (unit_of sign *ℤ (before_rule place).constant)
    none e = zero_part d (unit_of sign) ∙ ap (λ (y : ℤ). pos 0 +ℤ d *ℤ y) (sym e)
      where
        zero_part : (d s : ℤ) → pos 0 ≡ pos 0 +ℤ d *ℤ (s *ℤ pos 0)
        zero_part d s = plus _ (mul-zero_ℤ d _ (mul-zero_ℤ s (pos 0) refl))
          where
            plus : (y : ℤ) → y ≡ pos 0 → pos 0 ≡ pos 0 +ℤ y
            plus y e = omega (arith, ints, e)
form-sought left Affine v d k = record {
  coefs = λ u. go u (cases_lt u left);
  constant = sym (with_none (v left) _ (constant-combination _ v ∙ own_constant 1 0 left v refl));
}
  where
    with_none : (w c : ℤ) → c ≡ w → c +ℤ d *ℤ pos 0 ≡ w
    with_none w c e = omega (arith, ints, e, zero_times d)
      where
        zero_times : (d : ℤ) → d *ℤ pos 0 ≡ pos 0
        zero_times d = omega (arith, ints)

    split : (u : ℕ) → at (sought left Affine v d).coefs u
        ≡ list_dot (map (λ f. at f.coefs u) (arguments_and_one 1 left)) v
    split u = at-sum _ [] u ∙ (plus _ ∙ at-combination _ v u)
      where
        plus : (y : ℤ) → y +ℤ pos 0 ≡ y
        plus y = omega (arith, ints)

    go : (u : ℕ) → (u < left) ⊎ (left ≤ u) → at (listed left v) u ≡ at (sought left Affine v d).coefs u
    go u (inl l) = at-listed left v u l ∙ sym (split u ∙ own_coef 1 0 left u u v refl l (omega arith))
    go u (inr l) = at-past left v u l ∙ sym (split u ∙ no_coef 1 0 left u v refl (λ k m e. omega (arith, m, e, l)))

-- the group of a kind's question: its goal forms are those of the places to be found, and its fixed form is the fixed
-- part less w
abbrev pub group_of : RuleForms → Form → Kind → Group
group_of r w kind = record {
  unknowns = r.unknowns;
  rows = r.rows;
  goals = map before_rule (sought_places r.left kind);
  fixed = form_sum (fixed_part kind) (opposite w);
}

-- at parameters, the goal is the form that they represent, less d times w
pub goal-excess : (r : RuleForms) (w : Form) (kind : Kind) (v : ℕ → ℤ) (d : ℤ) → IsKindOf r.left kind
    → AreSame (goal_at (group_of r w kind) v d) (excess (form_of r.left kind v d) d w)
goal-excess r w kind v d k = record {
  coefs =
      λ u. at-sum c.coefs _ u ∙ (ap (λ (y : ℤ). at c.coefs u +ℤ y)
      (at-times d _ u ∙ ap (λ (y : ℤ). d *ℤ y) (at-sum f.coefs _ u ∙ ap (λ (y : ℤ). at f.coefs u +ℤ y)
      (at-times (negsuc 0) w.coefs u)))
      ∙ (regroup _ _ _ ∙ (ap (λ (y : ℤ). y +ℤ neg_ℤ d *ℤ at w.coefs u)
      (sym (same.coefs u ∙ (at-sum c.coefs _ u ∙ ap (λ (y : ℤ). at c.coefs u +ℤ y) (at-times d _ u))))
      ∙ sym (at-sum (form_of r.left kind v d).coefs _ u ∙ ap (λ (y : ℤ). at (form_of r.left kind v d).coefs u +ℤ y)
      (at-times (neg_ℤ d) w.coefs u)))));
  constant = regroup _ _ _ ∙ ap (λ (y : ℤ). y +ℤ neg_ℤ d *ℤ w.constant) (sym same.constant);
}
  where
    c : Form
    c = combination (map before_rule (sought_places r.left kind)) v

    f : Form
    f = fixed_part kind

    same : AreSame (form_of r.left kind v d) (sought r.left kind v d)
    same = form-sought r.left kind v d k

    regroup : (a b x : ℤ) → a +ℤ d *ℤ (b +ℤ negsuc 0 *ℤ x) ≡ (a +ℤ d *ℤ b) +ℤ neg_ℤ d *ℤ x
    regroup a b x = identity (d ∷ a ∷ b ∷ x ∷ [])
        (variable 1 ⊕ variable 0 ⊗ (variable 2 ⊕ constant (negsuc 0) ⊗ variable 3))
        ((variable 1 ⊕ variable 0 ⊗ variable 2) ⊕ negated (variable 0) ⊗ variable 3) refl
