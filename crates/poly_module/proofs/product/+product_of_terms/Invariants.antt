use Rattle.std.proofs.Common.{length}
use Rattle.poly_module.proofs.product.+product_of_terms.Given as goal

abbrev pub decreases-product_of_terms : goal.decreases-product_of_terms
decreases-product_of_terms g l = length l.factors.now
