use Rattle.std.proofs.Common.{sym, subst}
use Rattle.certificate_io.specs.ReadParts.{HasSmallTerms}
use Rattle.certificate_io.proofs.values.degrees.Goals as goal

pub degree-requires : goal.degree-requires
degree-requires c = record { small = subst HasSmallTerms (sym c.index-ps-i.is) (c.requires.small c.loop-i.i c.index-ps-i.result c.loop-i-test.true) }
