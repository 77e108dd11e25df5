-- The packed pieces of the code as plain data.
use Rattle.std.specs.Prelude.{List}
use Rattle.cert_lexer.specs.declared.inner.Inner.{Inner}
use Rattle.cert_lexer.specs.declared.packed.Packed as code
use Rattle.cert_lexer.specs.declared.packed.PackedRest as code_rest
use Rattle.cert_lexer.specs.Packing.{unpacked}

-- all packed pieces, and those that are left
abbrev pub inners_of : code.Packed → List Inner
inners_of p = unpacked p.marks.items p.shorts.items p.longs.items

abbrev pub inners_in : code_rest.PackedRest → List Inner
inners_in r = unpacked r.marks.now r.shorts.now r.longs.now
