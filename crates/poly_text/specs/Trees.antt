-- What the syntax tree of the program stands for.
--
--   variable_of v, factor_of f, term_of t   the variable, the factor, the term
--   factors_of fs, terms_of ts              those of a list
use Rattle.std.specs.Prelude.{List, map}
use Rattle.poly_text.specs.declared.syntax.FactorText.{FactorText}
use Rattle.poly_text.specs.declared.syntax.TermText.{TermText}
use Rattle.poly_text.specs.declared.syntax.VariableText.{VariableText}
use Rattle.poly_text.specs.declared.syntax.VariableText.TheVariants as variables
use Rattle.poly_text.specs.Syntax.{Variable, Named, Marked, Factor, Term}

abbrev pub variable_of : VariableText → Variable
variable_of (variables.Named w) = Named w.now
variable_of (variables.Marked m j) = Marked m j

abbrev pub factor_of : FactorText → Factor
factor_of f = record { variable = variable_of f.variable; exponent = f.exponent }

abbrev pub factors_of : List FactorText → List Factor
factors_of fs = map factor_of fs

abbrev pub term_of : TermText → Term
term_of t = record { is_negative = t.is_negative; coefficient = t.coefficient; factors = factors_of t.factors.items }

abbrev pub terms_of : List TermText → List Term
terms_of ts = map term_of ts
