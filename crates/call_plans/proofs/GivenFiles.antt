-- What was seen of a shelf that discloses its contents, for a fetched file.
use Rattle.std.proofs.Common.{◌≡◌, ℕ, List, Option, Some, None, IfSome, subst}
use Rattle.std.specs.FinMap.{get}
use Rattle.outside_io.specs.Files.{Files, HasBytesIfDisclosed, HoldsMore, Lacks}
use Rattle.outside_io.specs.Fetching.{IsTooLong}

-- a file that a shelf gave is one of its disclosed contents
pub given : (held : Option Files) (files : Files) (f bytes : List ℕ) → held ≡ Some files → HasBytesIfDisclosed held f bytes
    → get files f ≡ Some bytes
given held files f bytes e h = let result_is : HasBytesIfDisclosed (Some files) f bytes =
    subst (λ (o : Option Files). HasBytesIfDisclosed o f bytes) e h in result_is

-- a file that is too long is one of the disclosed contents
pub given_more : (held : Option Files) (files : Files) (f : List ℕ) (limit taken : ℕ) → held ≡ Some files
    → IsTooLong held f limit taken → HoldsMore files f limit
given_more held files f limit taken e h = let result_is : IfSome (Some files) (λ fs. HoldsMore fs f limit) =
    subst (λ (o : Option Files). IfSome o (λ fs. HoldsMore fs f limit)) e h.disclosed in result_is

-- a file that a shelf lacks isn't one of its disclosed contents
pub given_none : (held : Option Files) (files : Files) (f : List ℕ) → held ≡ Some files → Lacks held f
    → get files f ≡ None
given_none held files f e h = let result_is : Lacks (Some files) f = subst (λ (o : Option Files). Lacks o f) e h in
    result_is
