use Rattle.alg_core.specs.Spaces.{entries}
use Rattle.test_inputs.proofs.SmallEntries.{products}
use Rattle.library_tests.proofs.arithmetic.product_of.Goals as goal

pub mul-requires-clause-room : goal.mul-requires-clause-room
mul-requires-clause-room g c = products (entries (λ m. m) c.args.f.now) (entries (λ m. m) c.args.g.now) c.requires.small c.requires.small_too
