-- The facts of the code as plain data.
use Rattle.std.specs.Prelude.{List, map}
use Rattle.refined_programs.specs.its_model.linear_forms.Forms.{Form}
use Rattle.refined_programs.specs.poly_terms.Views.{poly_of}
use Rattle.symbol_facts.specs.declared.fact.SymbolFact as declared
use Rattle.symbol_facts.specs.declared.common.CommonFact as declared_common
use Rattle.symbol_facts.specs.Facts.{SymbolFact}

-- a fact at a symbol
abbrev pub fact_of : declared.SymbolFact → SymbolFact
fact_of f = record { symbol = f.symbol; form = poly_of f.form; least = f.least }

-- a fact of copies as a form
abbrev pub form_of : declared_common.CommonFact → Form
form_of f = record { coefs = f.coefs.now; constant = f.constant }

abbrev pub forms_of : List declared_common.CommonFact → List Form
forms_of facts = map form_of facts
