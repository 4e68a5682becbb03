use Rattle.std.proofs.Common.{sym, subst}
use Rattle.certificate_io.specs.ReadParts.{HasSmallTerms}
use Rattle.certificate_io.proofs.DegreeSteps.{small_at}
use Rattle.certificate_io.proofs.values.degree.Goals as goal

pub total-requires : goal.total-requires
total-requires c = record {
  small = small_at c.terms-terms.result.now c.loop-i.i c.index-terms-i.result c.loop-i-test.true (subst HasSmallTerms (sym c.terms-terms.ensures.is) c.requires.small);
}
