use Rattle.std.proofs.Common.{ℕ, List, sym, subst}
use Rattle.alg_core.specs.declared.term.Term.{Term}
use Rattle.poly_module.specs.SpaceVectors.{vector_of}
use Rattle.cert_check.specs.FormTests.{IsInvariantFrom}
use Rattle.cert_check.specs.SmallPolynomials.{IsSmallPoly}
use Rattle.cert_check.proofs.CheckSpaces.{plain_of}
use Rattle.cert_check.proofs.WordItems.{none_yet, one_more, all_items, failing_item}
use Rattle.cert_check.proofs.forms.first_other.Goals as goal

pub is_invariant_from-requires-clause-f : goal.is_invariant_from-requires-clause-f
is_invariant_from-requires-clause-f c =
    subst (IsSmallPoly (plain_of c.args.space.now)) (sym c.index-fs-i.is) (c.requires.fs c.loop-i.i c.index-fs-i.result c.loop-i-test.true)

pub loop-i-init : goal.loop-i-init
loop-i-init c =
    let S = plain_of c.args.space.now in
    none_yet (λ (f : List (Term ℕ (List ℕ))). IsInvariantFrom S c.args.gens.now c.args.least (vector_of S (λ m. m) f)) c.args.fs.now

pub loop-i-preserved : goal.loop-i-preserved
loop-i-preserved c =
    let S = plain_of c.args.space.now in
    one_more (λ (f : List (Term ℕ (List ℕ))). IsInvariantFrom S c.args.gens.now c.args.least (vector_of S (λ m. m) f)) c.args.fs.now c.loop-i.i c.index-fs-i.result c.loop-i-test.true c.index-fs-i.is
    (c.in_ok-is_invariant_from.ensures.exact.0 c.if-not-branch.false) c.loop-i.invariant

pub returns : goal.returns
returns c =
    let S = plain_of c.args.space.now in
    record { first = all_items (λ (f : List (Term ℕ (List ℕ))). IsInvariantFrom S c.args.gens.now c.args.least (vector_of S (λ m. m) f)) c.args.fs.now c.loop-i.i c.loop-i-test.false c.loop-i.invariant }

pub returns-then-not-branch : goal.returns-then-not-branch
returns-then-not-branch c =
    let S = plain_of c.args.space.now in
    record {
      first = failing_item (λ (f : List (Term ℕ (List ℕ))). IsInvariantFrom S c.args.gens.now c.args.least (vector_of S (λ m. m) f)) c.args.fs.now c.loop-i.i c.index-fs-i.result c.loop-i-test.true c.index-fs-i.is
          (λ h. let yes = c.in_ok-is_invariant_from.ensures.exact.1 h in let no = c.if-not-branch.true in absurd {A = ⊥} cc) c.loop-i.invariant;
    }
