-- Lists of initial derivations, with one rule more at a time.
use Rattle.std.proofs.Common.{◌≡◌, ℕ, ◌+◌, ◌<◌, List, [], ◌∷◌, ◌++◌, length, map, drop, get_or, sym, ◌∙◌, ap}
use Rattle.std.proofs.Common.{append_assoc, arith}
use Rattle.std.specs.List.{range_with_len}
use Rattle.std.proofs.lemmas.List.{map-append, drop_more}
use Rattle.model.specs.Programs as plain
use Rattle.model.specs.Programs.{arity_of}
use Rattle.its_model.specs.declared.program.Rule.{Rule}
use Rattle.its_model.specs.Views.{rule_of}
use Rattle.cert_types.specs.cert_rules.Nodes.{ResultVariable}
use Rattle.cert_types.specs.declared.answer.GuardFeasibility.{GuardFeasibility}
use Rattle.bound_fixpoint.specs.Keys.{key}
use Rattle.time_bounds.specs.declared.rule_statuses.RuleStatus.{RuleStatus}
use Rattle.time_bounds.specs.Beginning.{empty_here, empty_derivations, empty_key, empty_keys, unreached_here, unreached_derivations}
use Rattle.time_bounds.specs.Beginning.{never_here, never_derivations}
use Rattle.cert_types.proofs.Numbers.{numbers-more}

-- the finished part of a list with one element more, and the rest after it, are the whole list
pub more : {A : Type 0} (done next here rest all : List A) → next ≡ done ++ here → done ++ (here ++ rest) ≡ all
    → next ++ rest ≡ all
more done next here rest all e h =
    ap (λ (xs : List _). xs ++ rest) e ∙ (append_assoc done here rest ∙ h)

-- the rest begins with the rule at this position
pub empties-left : (t : ℕ) (empties : List GuardFeasibility) (i : ℕ) (a : GuardFeasibility) → i < length empties
    → a ≡ get_or empties i a → empty_derivations t (drop i empties) ≡ empty_here t a ++ empty_derivations (t + 1) (drop (i + 1) empties)
empties-left t empties i a low e =
    ap (empty_derivations t) (drop_more empties i a low)
    ∙ ap (λ (x : GuardFeasibility). empty_here t x ++ empty_derivations (t + 1) (drop (i + 1) empties)) (sym e)

pub keys-left : (t : ℕ) (rule_statuses : List RuleStatus) (i : ℕ) (d : RuleStatus) → i < length rule_statuses
    → empty_keys t (drop i rule_statuses) ≡ empty_key t (get_or rule_statuses i d) ++ empty_keys (t + 1) (drop (i + 1) rule_statuses)
keys-left t rule_statuses i d low = ap (empty_keys t) (drop_more rule_statuses i d low)

pub unreached-left : (dead : List ResultVariable) (t : ℕ) (rule_statuses : List RuleStatus) (i : ℕ) (d : RuleStatus) → i < length rule_statuses
    → unreached_derivations dead t (drop i rule_statuses)
    ≡ unreached_here dead t (get_or rule_statuses i d) ++ unreached_derivations dead (t + 1) (drop (i + 1) rule_statuses)
unreached-left dead t rule_statuses i d low = ap (unreached_derivations dead t) (drop_more rule_statuses i d low)

pub never-left : (p : plain.Program) (t : ℕ) (rule_statuses : List RuleStatus) (rules : List Rule) (i : ℕ) (d : RuleStatus) (r : Rule)
    → length rule_statuses ≡ length rules → i < length rules → r ≡ get_or rules i r
    → never_derivations p t (drop i rule_statuses) (map rule_of (drop i rules))
    ≡ never_here t (get_or rule_statuses i d) (arity_of p r.target)
    ++ never_derivations p (t + 1) (drop (i + 1) rule_statuses) (map rule_of (drop (i + 1) rules))
never-left p t rule_statuses rules i d r same low e =
    ap (λ (fs : List RuleStatus). never_derivations p t fs (map rule_of (drop i rules)))
    (drop_more rule_statuses i d (let z : i < length rule_statuses = omega (arith, same, low) in z))
    ∙ (ap (λ (rs : List Rule). never_derivations p t (get_or rule_statuses i d ∷ drop (i + 1) rule_statuses) (map rule_of rs)) (drop_more rules i r low)
    ∙ ap (λ (x : Rule). never_here t (get_or rule_statuses i d) (arity_of p x.target)
    ++ never_derivations p (t + 1) (drop (i + 1) rule_statuses) (map rule_of (drop (i + 1) rules))) (sym e))

-- the keys of places with one place more
pub places-more : (t n : ℕ) → map (λ i. key t i) (range_with_len 1 (n + 1)) ≡ map (λ i. key t i) (range_with_len 1 n) ++ key t (n + 1) ∷ []
places-more t n =
    ap (map (λ i. key t i)) (numbers-more 1 n)
    ∙ (map-append (λ (i : ℕ). key t i) (range_with_len 1 n) ((1 + n) ∷ [])
    ∙ ap (λ (m : ℕ). map (λ i. key t i) (range_with_len 1 n) ++ key t m ∷ []) (let z : 1 + n ≡ n + 1 = omega arith in z))
