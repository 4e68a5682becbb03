use Rattle.std.proofs.Common.{rules, ◌/◌, length, arith}
use Rattle.alg_core.specs.Fields.{Has}
use Rattle.alg_core.specs.Spaces.{over, IsPlace}
use Rattle.poly_module.proofs.Halves.{front_given, back_given, halves}
use Rattle.poly_module.proofs.EntryLists.{given_at, one_placed}
use Rattle.poly_module.proofs.SpaceVectorLaws.{vector_given}
use Rattle.poly_module.proofs.whole.+make.Goals as goal

pub single-requires : goal.single-requires
single-requires g t c =
    let S = over g.F.Field.field g.O.TermOrder.order c.args.space.now in
    let placed = given_at S g.M.Monomial.exps (λ e. Has S.field e.1 × IsPlace S e.0) c.args.terms.now 0 c.index-terms-0.result (omega arith) c.index-terms-0.is c.requires.given in
    record { given = one_placed S g.M.Monomial.exps c.index-terms-0.result placed.0 placed.1 }

pub make-requires : goal.make-requires
make-requires g t c κs within =
    let S = over g.F.Field.field g.O.TermOrder.order c.args.space.now in
    (omega arith, (search rules, (search rules, (search rules, (search rules, front_given S g.M.Monomial.exps (length c.args.terms.now / 2) c.args.terms.now _ c.split_at.ensures.front c.requires.given)))))

pub make-requires-2 : goal.make-requires-2
make-requires-2 g t c κs within =
    let S = over g.F.Field.field g.O.TermOrder.order c.args.space.now in
    (omega arith, (search rules, (search rules, (search rules, (search rules, back_given S g.M.Monomial.exps (length c.args.terms.now / 2) c.args.terms.now _ c.split_at.ensures.back c.requires.given)))))

pub returns : goal.returns
returns g t c =
    let S = over g.F.Field.field g.O.TermOrder.order c.args.space.now in
    record {
      sum = vector_given S g.M.Monomial.exps _ _ c.in_ok-sum.ensures.sum.fits
          (halves S g.M.Monomial.exps (length c.args.terms.now / 2) c.args.terms.now _ _ _ _ _ c.split_at.ensures.front c.split_at.ensures.back c.in_ok-left.ensures.sum.is c.in_ok-right.ensures.sum.is c.in_ok-sum.ensures.sum.is);
    }
