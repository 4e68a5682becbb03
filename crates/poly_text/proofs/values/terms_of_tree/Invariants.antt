use Rattle.alg_core.specs.Spaces.{over, entries}
use Rattle.poly_text.proofs.EntrySteps.{field_of}
use Rattle.poly_text.proofs.TermSteps.{Reads}
use Rattle.poly_text.proofs.values.terms_of_tree.Given as goal

abbrev pub invariant-loop-text : goal.invariant-loop-text
invariant-loop-text g l = Reads l.secondaries (over field_of g.O.TermOrder.order l.space) l.names l.terms l.text-index (entries (λ m. m) l.made.items)
