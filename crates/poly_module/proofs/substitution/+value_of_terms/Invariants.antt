use Rattle.std.proofs.Common.{length}
use Rattle.poly_module.proofs.substitution.+value_of_terms.Given as goal

abbrev pub decreases-value_of_terms : goal.decreases-value_of_terms
decreases-value_of_terms g l = length l.terms.now
