use Rattle.std.proofs.Common.{map, ap}
use Rattle.cert_types.specs.Views.{result_variable_of}
use Rattle.bound_derivations.proofs.IndexStays.{taken}
use Rattle.bound_derivations.proofs.derived.DerivedBounds.take.Goals as goal

pub returns-clause-derived : goal.returns-clause-derived
returns-clause-derived c = λ p derived keys.
    taken p c.args.self.now.table c.put_each.new.table c.args.self.now.derivations.items c.push.new.self.items c.args.derivation _ _
    c.in_ok-push.ensures.items (ap (map result_variable_of) c.deref.ensures.value) c.next_number-number.ensures
    c.in_ok-put_each.ensures derived keys
