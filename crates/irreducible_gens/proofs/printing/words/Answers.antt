use Rattle.std.proofs.Common.{◌≡◌, ◌++◌, ◌∷◌, [], ◌∙◌, sym, ap, subst}
use Rattle.std.specs.Prelude.{All}
use Rattle.alg_core.specs.Spaces.{over}
use Rattle.poly_module.specs.SpaceVectors.{vectors_of}
use Rattle.secondary_gens.specs.Combined.{IsCombined}
use Rattle.secondary_gens.specs.Forms.{degrees_of, IsSmallForm}
use Rattle.secondary_gens.specs.Lists.{Each}
use Rattle.irreducible_gens.specs.Words.{IsVectorOf, IsWordOf}
use Rattle.irreducible_gens.proofs.UnitSteps.{pushed_one, one_small, one_vectors, one_degrees, joined_vectors, joined_degrees}
use Rattle.irreducible_gens.proofs.WordLists.{each_after, word_made}
use Rattle.irreducible_gens.proofs.printing.words.Goals as goal

pub combine_all-requires-clause-secondaries : goal.combine_all-requires-clause-secondaries
combine_all-requires-clause-secondaries g c =
    let S = over g.F.Field.field g.O.TermOrder.order c.args.space.now in
    let p = c.in_ok-one.field-0 in
    let units : c.as_slice-2.result.now ≡ p ∷ [] = pushed_one c.as_slice-2.result.now c.push.new.self.items c.new-unit.result.items p c.as_slice-2.ensures.value c.in_ok-push.ensures.items c.new-unit.ensures.items in
    subst (All (IsSmallForm S)) (sym units) (one_small S p c.in_ok-one.ensures.one)

pub returns : goal.returns
returns g c =
    let S = over g.F.Field.field g.O.TermOrder.order c.args.space.now in
    let xs = vectors_of S (λ m. m) in
    let p = c.in_ok-one.field-0 in
    let theta = c.args.theta.now in
    let irr = c.args.irr.now in
    let all = c.as_slice.result.now in
    let one = c.as_slice-2.result.now in
    let units : one ≡ p ∷ [] = pushed_one one c.push.new.self.items c.new-unit.result.items p c.as_slice-2.ensures.value c.in_ok-push.ensures.items c.new-unit.ensures.items in
    let vectors : xs all ≡ xs theta ++ xs irr =
    ap xs c.as_slice.ensures.value ∙ joined_vectors S theta irr c.in_ok-marked.marked.items c.in_ok-marked.ensures.copies in
    let degrees : degrees_of all ≡ degrees_of theta ++ degrees_of irr =
    ap degrees_of c.as_slice.ensures.value ∙ joined_degrees S theta irr c.in_ok-marked.marked.items c.in_ok-marked.ensures.copies in
    record {
      each = each_after (IsCombined S all one) IsVectorOf (IsWordOf S theta irr)
          (word_made S theta irr all one vectors (ap xs units ∙ one_vectors S p c.in_ok-one.ensures.one) degrees (ap degrees_of units ∙ one_degrees S p c.in_ok-one.ensures.one))
          c.args.fs.now c.in_ok-combinations.combinations.items c.in_ok-words.words.items c.in_ok-combinations.ensures.each
          (subst (λ l. Each IsVectorOf l c.in_ok-words.words.items) c.as_slice-3.ensures.value c.in_ok-words.ensures.copies);
    }
