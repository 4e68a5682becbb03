use Rattle.std.proofs.Common.{rules, ◌∙◌, ◌/◌, length, sym, subst, arith}
use Rattle.poly_module.specs.SpaceVectors.{IsVector}
use Rattle.poly_module.proofs.EntryLists.{given_at}
use Rattle.poly_module.proofs.Factors.{all_front, all_back}
use Rattle.poly_module.proofs.SpaceVectorLaws.{vector_given}
use Rattle.finite_certificate.specs.MarkSpaces.{mark_space}
use Rattle.finite_certificate.specs.Finiteness.{IsLowTerm}
use Rattle.finite_certificate.proofs.RoundSteps.{no_round, one_round, round_halves, given}
use Rattle.finite_certificate.proofs.spreading.+round.Goals as goal

pub returns-then-terms-eq0 : goal.returns-then-terms-eq0
returns-then-terms-eq0 g t c =
    let S = mark_space g.F.Field.field c.args.space.now in
    let none = c.of.ensures.is ∙ c.new.ensures.items in
    record { round = vector_given S (λ m. m) _ _ (subst (IsVector S (λ m. m)) (sym none) tt) (no_round S c.args.powers.now _ c.args.terms.now none (omega arith)) }

pub replaced-requires-clause-term : goal.replaced-requires-clause-term
replaced-requires-clause-term g t c =
    let S = mark_space g.F.Field.field c.args.space.now in
    given_at S (λ m. m) (IsLowTerm S) c.args.terms.now 0 c.index-terms-0.result (omega arith) c.index-terms-0.is c.requires.terms

pub returns-then-terms-eq1 : goal.returns-then-terms-eq1
returns-then-terms-eq1 g t c =
    let S = mark_space g.F.Field.field c.args.space.now in
    record { round = given S c.args.powers.now _ _ c.in_ok-replaced.replaced c.in_ok-replaced.ensures.replaced (one_round S c.args.powers.now c.args.terms.now c.index-terms-0.result (omega arith) c.index-terms-0.is) }

pub round-requires : goal.round-requires
round-requires g t c κs within =
    let S = mark_space g.F.Field.field c.args.space.now in
    let terms = all_front (λ m. m) (IsLowTerm S) (length c.args.terms.now / 2) c.args.terms.now _ c.split_at.ensures.front c.requires.terms in
    (omega arith, (search rules, (search rules, (search rules, (search rules, (c.requires.count, terms))))))

pub round-requires-2 : goal.round-requires-2
round-requires-2 g t c κs within =
    let S = mark_space g.F.Field.field c.args.space.now in
    let terms = all_back (λ m. m) (IsLowTerm S) (length c.args.terms.now / 2) c.args.terms.now _ c.split_at.ensures.back c.requires.terms in
    (omega arith, (search rules, (search rules, (search rules, (search rules, (c.requires.count, terms))))))

pub returns : goal.returns
returns g t c =
    let S = mark_space g.F.Field.field c.args.space.now in
    record {
      round = vector_given S (λ m. m) _ _ c.in_ok-sum.ensures.sum.fits
          (round_halves S c.args.powers.now (length c.args.terms.now / 2) c.args.terms.now _ _ _ _ _ c.split_at.ensures.front c.split_at.ensures.back c.in_ok-left.ensures.round.is c.in_ok-right.ensures.round.is c.in_ok-sum.ensures.sum.is);
    }
