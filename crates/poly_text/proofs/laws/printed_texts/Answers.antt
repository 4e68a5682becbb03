use Rattle.std.proofs.Common.{refl}
use Rattle.alg_core.specs.Spaces.{over}
use Rattle.prime_field.specs.PrimeFields.{gfp}
use Rattle.prime_field.specs.declared.gfp.PrimeField.{PrimeField}
use Rattle.poly_text.proofs.ReadLaws.{printed_same}
use Rattle.poly_text.proofs.laws.printed_texts.Goals as goal

pub returns : goal.returns
returns g c =
    let S = over (λ (f : PrimeField). gfp f.p f.listed) g.O.TermOrder.order c.args.space.now in
    record { one = printed_same S c.args.names.now c.args.space.now.field.p c.requires.places (c.args.space.now.field.listed, refl) c.requires.distinct c.tell.ensures.names }
