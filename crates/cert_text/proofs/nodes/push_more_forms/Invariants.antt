use Rattle.std.proofs.Common.{◌≡◌, ◌++◌, map, drop, codes}
use Rattle.its_model.specs.Views.{program_of}
use Rattle.cert_types.specs.Views.{form_of}
use Rattle.cert_text.specs.Lists.{each_behind}
use Rattle.cert_text.specs.Texts.{form_text}
use Rattle.cert_text.proofs.nodes.push_more_forms.Given as goal

-- the text so far and that of the remaining forms are the whole text
abbrev pub invariant-loop-form : goal.invariant-loop-form
invariant-loop-form l =
    l.text.items ++ each_behind (codes "; ") (map (form_text (program_of l.p)) (map form_of (drop l.form-index l.forms)))
    ≡ l.initial.text.items ++ each_behind (codes "; ") (map (form_text (program_of l.p)) (map form_of l.forms))
