-- Choices by a test, and contradictions.
use Rattle.std.proofs.Common.{◌≡◌, Bool, true, false, refl, Option, Some, None}
use Rattle.std.specs.Prelude.{if◌then◌else◌, option_map}

-- what holds of both branches holds of the choice
pub chosen : {A : Type 0} (P : A → Type 0) (test : Bool) (a b : A) → (test ≡ true → P a) → (test ≡ false → P b)
    → P (if test then a else b)
chosen P true a b passes fails = passes refl
chosen P false a b passes fails = fails refl

-- false isn't true
pub contradiction : {A : Type 0} → false ≡ true → A
contradiction e = cc

-- `None` isn't `Some` of a value
pub none_is_no_value : {A B : Type 0} {a : A} → None ≡ Some a → B
none_is_no_value e = cc

-- if an option is mapped to a value, it has one
pub option_map-Some : {A B : Type 0} (f : A → B) (o : Option A) (b : B) → option_map f o ≡ Some b
    → (a : A) × (o ≡ Some a) × (f a ≡ b)
option_map-Some f None b e = none_is_no_value e
option_map-Some f (Some a) b e = (a, refl, (cc))
