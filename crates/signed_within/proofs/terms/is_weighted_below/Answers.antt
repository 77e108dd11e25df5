use Rattle.std.proofs.Common.{sym, arith}
use Rattle.poly_terms.specs.Views.{poly_of}
use Rattle.signed_within.proofs.Faulty.{upper_too_large, lower_too_large}
use Rattle.signed_within.proofs.terms.is_weighted_below.Goals as goal

pub returns-then-n-gt-CONSTANT_LIMIT : goal.returns-then-n-gt-CONSTANT_LIMIT
returns-then-n-gt-CONSTANT_LIMIT c =
    sym (lower_too_large c.args.n (poly_of c.args.f.now) c.args.m (poly_of c.args.h.now) (omega arith))

pub returns-then-m-gt-CONSTANT_LIMIT : goal.returns-then-m-gt-CONSTANT_LIMIT
returns-then-m-gt-CONSTANT_LIMIT c =
    sym (upper_too_large c.args.n (poly_of c.args.f.now) c.args.m (poly_of c.args.h.now) (omega arith))
