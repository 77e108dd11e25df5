-- Single facts, which the checks of a rule that never runs and of a weaker bound need.
use Rattle.std.proofs.Common.{◌≡◌, ℕ, zero, suc, ◌≤◌, Bool, true, false, List, [], ◌∷◌, refl, sym, ap, ◌∙◌, subst, arith}
use Rattle.model.specs.Bounds.{Bound}
use Rattle.model.specs.Facts.{Fact, Time, Size, Cost}
use Rattle.cert_types.specs.cert_rules.AcceptsPlain.{IsOneTime, IsZeroTime, IsWeaker}
use Rattle.cert_types.specs.cert_rules.Known.{is_zero_bound}
use Rattle.cert_types.specs.cert_rules.Laws.{bound_in}
use Rattle.cert_types.specs.cert_rules.Setting.{Setting}
use Rattle.check_file.specs.Singles.{IsNoSingle}
use Rattle.check_file.specs.Writables.{IsWritable}
use Rattle.model.specs.Programs.{Program, arity_of}
use Rattle.model.proofs.Membership.{no_is_not_yes}
use Rattle.cert_types.specs.cert_rules.AcceptsPlain.{HasWeakenShape}

-- a list that isn't a single fact is no single time
pub no-time : (fs : List Fact) → IsNoSingle fs → ¬ (IsOneTime fs)
no-time [] h k = k
no-time (Time zero b ∷ []) h k = k
no-time (Time (suc t) b ∷ []) h k = h.none (Time (suc t) b) refl
no-time (Time zero b ∷ f ∷ fs) h k = k
no-time (Time (suc t) b ∷ f ∷ fs) h k = k
no-time (Size t i b ∷ fs) h k = k
no-time (Cost t b ∷ fs) h k = k

-- a list that isn't a single fact isn't weaker than any bound
pub no-weaker : (s : Setting) (fs : List Fact) (b : Bound) → IsNoSingle fs → ¬ (IsWeaker s fs b)
no-weaker s [] b h k = k
no-weaker s (Time t a ∷ []) b h k = h.none (Time t a) refl
no-weaker s (Size t i a ∷ []) b h k = h.none (Size t i a) refl
no-weaker s (Cost t a ∷ []) b h k = h.none (Cost t a) refl
no-weaker s (Time t a ∷ f ∷ fs) b h k = k
no-weaker s (Size t i a ∷ f ∷ fs) b h k = k
no-weaker s (Cost t a ∷ f ∷ fs) b h k = k

-- a single fact whose bound is below another is weaker
pub weaker-complete : (s : Setting) (f : Fact) (b : Bound) → s.below (bound_in f) b ≡ true → IsWeaker s (f ∷ []) b
weaker-complete s (Time t a) b h = h
weaker-complete s (Size t i a) b h = h
weaker-complete s (Cost t a) b h = h

pub weaker-sound : (s : Setting) (f : Fact) (b : Bound) → IsWeaker s (f ∷ []) b → s.below (bound_in f) b ≡ true
weaker-sound s (Time t a) b h = h
weaker-sound s (Size t i a) b h = h
weaker-sound s (Cost t a) b h = h

-- a single fact that is a time of a rule above 0 is a single time
pub one-time : (fs : List Fact) (t : ℕ) (b : Bound) → fs ≡ Time t b ∷ [] → 1 ≤ t → IsOneTime fs
one-time fs zero b e l = absurd (omega (arith, l))
one-time fs (suc t) b e l = subst IsOneTime (sym e) tt

-- a single time whose bound is 0 is a time of 0
pub zero-time : (fs : List Fact) (t : ℕ) (b : Bound) → fs ≡ Time t b ∷ [] → is_zero_bound b ≡ true → IsZeroTime fs
zero-time fs t b e h = subst IsZeroTime (sym e) h

pub time-zero : (fs : List Fact) (t : ℕ) (b : Bound) → fs ≡ Time t b ∷ [] → IsZeroTime fs → is_zero_bound b ≡ true
time-zero fs t b e h = subst IsZeroTime e h

-- a single fact whose bound isn't below another isn't weaker
pub not-weaker : (s : Setting) (fs : List Fact) (f : Fact) (a b : Bound) (v : Bool) → fs ≡ f ∷ [] → a ≡ bound_in f
    → v ≡ s.below a b → v ≡ false → ¬ (IsWeaker s fs b)
not-weaker s fs f a b v e k h n w =
    no_is_not_yes (s.below a b) (sym h ∙ n)
    (ap (λ (d : Bound). s.below d b) k ∙ weaker-sound s f b (subst (λ (gs : List Fact). IsWeaker s gs b) e w))

-- a bound that may be written over as many inputs as there are start arguments has the shape of a weaker bound
pub shape-written : (p : Program) (n : ℕ) (b : Bound) → n ≡ arity_of p p.start → IsWritable n b → HasWeakenShape p b
shape-written p n b e h =
    let k = subst (λ (m : ℕ). IsWritable m b) e h in
    record { inputs = k.inputs; numbers = k.numbers }
