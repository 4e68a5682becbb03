use Rattle.std.proofs.Common.{◌≡◌, Bool, true, false, IsTrue, sym, subst, arith}
use Rattle.std.specs.Prelude.{All}
use Rattle.alg_core.specs.Spaces.{entries}
use Rattle.poly_module.specs.SpaceVectors.{IsVectorOf, vector_of, vectors_of}
use Rattle.finite_certificate.specs.MarkSpaces.{mark_space}
use Rattle.finite_certificate.specs.Finiteness.{IsLowTerm, powers_of}
use Rattle.finite_certificate.specs.Spreading.{spread_once}
use Rattle.finite_certificate.proofs.SpreadSteps.{no_rounds, one_round_more, fewer_rounds, all_spread, wide_terms, low_terms, few_powers}
use Rattle.finite_certificate.proofs.spreading.spread.Goals as goal

true_test : (b : Bool) → b ≡ true → IsTrue b
true_test b h = grind arith

false_test : (b : Bool) → b ≡ false → ¬ IsTrue b
false_test b h t = grind arith

pub rounds-init : goal.rounds-init
rounds-init g c =
    let S = mark_space g.F.Field.field c.args.space.now in
    no_rounds S _ _ c.requires.space (vectors_of S (λ m. m) c.args.theta.now) c.requires.theta c.args.powers.now c.requires.forms c.requires.finite c.args.f.now c.in_ok-form.form c.in_ok-form.ensures.same c.requires.f

pub is_spread-requires : goal.is_spread-requires
is_spread-requires g c =
    let S = mark_space g.F.Field.field c.args.space.now in
    record { within = wide_terms S _ _ c.requires.space (vectors_of S (λ m. m) c.args.theta.now) c.requires.theta c.args.powers.now c.requires.forms c.requires.finite c.rounds.form c.rounds.invariant.poly }

pub round-requires-clause-count : goal.round-requires-clause-count
round-requires-clause-count g c =
    let S = mark_space g.F.Field.field c.args.space.now in
    few_powers S _ _ c.requires.space (vectors_of S (λ m. m) c.args.theta.now) c.requires.theta c.args.powers.now c.requires.forms c.requires.finite

pub round-requires-clause-terms : goal.round-requires-clause-terms
round-requires-clause-terms g c =
    let S = mark_space g.F.Field.field c.args.space.now in
    subst (λ ts. All (IsLowTerm S) (entries (λ m. m) ts)) (sym c.terms.ensures.is)
    (low_terms S _ _ c.requires.space (vectors_of S (λ m. m) c.args.theta.now) c.requires.theta c.args.powers.now c.requires.forms c.requires.finite c.args.f.now c.rounds.form c.rounds.invariant c.requires.low)

pub rounds-smaller : goal.rounds-smaller
rounds-smaller g c =
    let S = mark_space g.F.Field.field c.args.space.now in
    let is = subst (λ ts. IsVectorOf S (λ m. m) (spread_once S.field (powers_of S c.args.powers.now) (vector_of S (λ m. m) ts)) c.in_ok-form-2.form) c.terms.ensures.is c.in_ok-form-2.ensures.round in
    fewer_rounds S _ _ c.requires.space (vectors_of S (λ m. m) c.args.theta.now) c.requires.theta c.args.powers.now c.requires.forms c.requires.finite c.rounds.form c.in_ok-form-2.form c.rounds.invariant.poly is
    (λ h. false_test c.is_spread.result c.rounds-test.true (c.is_spread.ensures.exact.1 h))

pub rounds-preserved : goal.rounds-preserved
rounds-preserved g c =
    let S = mark_space g.F.Field.field c.args.space.now in
    let is = subst (λ ts. IsVectorOf S (λ m. m) (spread_once S.field (powers_of S c.args.powers.now) (vector_of S (λ m. m) ts)) c.in_ok-form-2.form) c.terms.ensures.is c.in_ok-form-2.ensures.round in
    one_round_more S _ _ c.requires.space (vectors_of S (λ m. m) c.args.theta.now) c.requires.theta c.args.powers.now c.requires.forms c.requires.finite c.args.f.now c.rounds.form c.in_ok-form-2.form c.rounds.invariant is

pub returns-clause-poly : goal.returns-clause-poly
returns-clause-poly g c = c.rounds.invariant.poly

pub returns-clause-value : goal.returns-clause-value
returns-clause-value g c = c.rounds.invariant.same

pub returns-clause-below : goal.returns-clause-below
returns-clause-below g c =
    let S = mark_space g.F.Field.field c.args.space.now in
    all_spread S _ _ c.requires.space (vectors_of S (λ m. m) c.args.theta.now) c.requires.theta c.args.powers.now c.requires.forms c.requires.finite c.rounds.form
    (c.is_spread.ensures.exact.0 (true_test c.is_spread.result c.rounds-test.false))

pub returns-clause-degrees : goal.returns-clause-degrees
returns-clause-degrees g c = c.rounds.invariant.degrees

pub returns-clause-homogeneous : goal.returns-clause-homogeneous
returns-clause-homogeneous g c = c.rounds.invariant.homogeneous
