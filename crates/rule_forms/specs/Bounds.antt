-- Forms that bound a new value from above, the least form of a kind, and rays along which no form does.
use Rattle.std.specs.Prelude.{◌≡◌, ℕ, ◌*◌, ◌<◌, ◌≤◌, List, ◌∷◌, ◌++◌, ℤ, pos, negsuc, ◌*ℤ◌, ◌≤ℤ◌, ◌<ℤ◌}
use Rattle.std.specs.List.{All}
use Rattle.linear_forms.specs.Forms.{Form, form_value}
use Rattle.linear_forms.specs.Sizes.{total_size}
use Rattle.linear_forms.specs.Points.{IsPoint, IsRay}
use Rattle.rule_forms.specs.Kinds.{Kind, IsOfKind}

-- the form g over q is at least w on every rational point of the rows
pub record IsAbove (rows : List Form) (w g : Form) (q : ℕ) : Type 0 where
  pub each : (z : ℕ → ℤ) (d : ℤ) → IsPoint rows z d → (pos q *ℤ form_value w z d) ≤ℤ form_value g z d

-- no form of this kind is at least w
pub record HasNone (rows : List Form) (left : ℕ) (w : Form) (kind : Kind) : Type 0 where
  pub each : (g : Form) (q : ℕ) → 1 ≤ q → IsOfKind left kind g q → ¬ (IsAbove rows w g q)

-- the positive part of an integer, for the constant of a form
abbrev pub height : ℤ → ℕ
height (pos n) = n
height (negsuc n) = 0

-- g over q weighs at most h over e, by cross products: by the absolute coefficients and, if these are equal, by the
-- positive part of the constant
pub record WeighsAtMost (g : Form) (q : ℕ) (h : Form) (e : ℕ) : Type 0 where
  pub sizes : total_size g.coefs * e ≤ total_size h.coefs * q
  pub heights : total_size g.coefs * e ≡ total_size h.coefs * q → height g.constant * e ≤ height h.constant * q

-- g over q is a least form of the kind: none of the kind that is at least w weighs less
pub record IsLeastOf (rows : List Form) (left : ℕ) (w : Form) (kind : Kind) (g : Form) (q : ℕ) : Type 0 where
  pub each : (h : Form) (e : ℕ) → 1 ≤ e → IsOfKind left kind h e → IsAbove rows w h e → WeighsAtMost g q h e

-- g over q is the first form that is at least w: no earlier kind has such a form, and it is a least one of its kind
pub record IsFirstOf (rows : List Form) (left : ℕ) (w : Form) (kinds : List Kind) (g : Form) (q : ℕ) : Type 0 where
  pub kind : Kind
  pub before : List Kind
  pub behind : List Kind
  pub order : kinds ≡ before ++ kind ∷ behind
  pub none : All (HasNone rows left w) before
  pub positive : 1 ≤ q
  pub of_kind : IsOfKind left kind g q
  pub above : IsAbove rows w g q
  pub least : IsLeastOf rows left w kind g q

-- a ray of the rows along which w increases and no left argument changes
pub record IsUnboundedRay (rows : List Form) (left : ℕ) (w : Form) (z : ℕ → ℤ) : Type 0 where
  pub ray : IsRay rows z
  pub still : (j : ℕ) → j < left → z j ≡ pos 0
  pub rises : pos 0 <ℤ form_value w z (pos 0)
