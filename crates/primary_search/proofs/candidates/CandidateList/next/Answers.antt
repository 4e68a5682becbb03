use Rattle.std.proofs.Common.{◌≡◌, ◌∙◌, ◌<◌, ◌∷◌, length, map, sym, subst, arith}
use Rattle.std.specs.Prelude.{All}
use Rattle.std.specs.Vec.{with_items}
use Rattle.std.proofs.lemmas.List.{length-map, with_items_is}
use Rattle.alg_core.specs.Spaces.{over}
use Rattle.poly_module.specs.SpaceVectors.{vector_of, vectors_of}
use Rattle.primary_search.specs.Candidates.{digits, number_of, combined}
use Rattle.primary_search.specs.CandidateLists.{numbers_above}
use Rattle.primary_search.proofs.ComingSteps.{member_comes, combination_comes, same_comes}
use Rattle.primary_search.proofs.candidates.CandidateList.next.Goals as goal

pub returns-then-self-basis-clause-some : goal.returns-then-self-basis-clause-some
returns-then-self-basis-clause-some g c =
    let S = over g.F.Field.field g.O.TermOrder.order c.args.space.now in
    let bs = vectors_of S (λ m. m) c.args.basis.now in
    let rest = map (λ N. combined S.field bs (digits (length bs) S.field.size N)) (numbers_above S.field.size (length bs) (number_of S.field.size c.args.self.now.digits.items)) in
    member_comes S c.args.basis.now c.args.self.now.members c.index-basis-self.result c.in_ok-member.member rest c.if-self-basis.true c.index-basis-self.is c.in_ok-member.ensures.same

pub returns-in_ok-next-in-Some-clause-some : goal.returns-in_ok-next-in-Some-clause-some
returns-in_ok-next-in-Some-clause-some g c =
    let S = over g.F.Field.field g.O.TermOrder.order c.args.space.now in
    let bs = vectors_of S (λ m. m) c.args.basis.now in
    let q = S.field.size in
    let old = c.args.self.now.digits.items in
    let new = c.advance.new.digits in
    let value = c.as_mut_slice.ensures.value in
    let size : c.size.result ≡ q = c.size.ensures.is in
    let count : length bs ≡ length c.args.basis.now = length-map c.args.basis.now (vector_of S (λ m. m)) in
    let stands : length old ≡ length c.args.basis.now = c.requires.stands.count in
    let same : length new ≡ length old = subst (λ l. length new ≡ length l) value c.in-Some.ensures.length in
    let whole = c.args.self.now.digits.ok.0 in
    let written : (with_items c.args.self.now.digits new).items ≡ new = with_items_is c.args.self.now.digits new (omega (arith, whole)) in
    let low : All (λ d. d < q) new = subst (λ n. All (λ d. d < n) new) size c.in-Some.ensures.digits.digits in
    let next : numbers_above q (length old) (number_of q old) ≡ number_of q new ∷ numbers_above q (length old) (number_of q new) =
    subst (λ l. numbers_above q (length l) (number_of q l) ≡ number_of q new ∷ numbers_above q (length l) (number_of q new)) value
    (subst (λ n. numbers_above n (length c.as_mut_slice.result.now) (number_of n c.as_mut_slice.result.now) ≡ number_of n new ∷ numbers_above n (length c.as_mut_slice.result.now) (number_of n new)) size c.in-Some.ensures.some) in
    let is : vector_of S (λ m. m) c.in_ok-next-in-Some.next ≡ combined S.field bs new = subst (λ l. vector_of S (λ m. m) c.in_ok-next-in-Some.next ≡ combined S.field bs l) (c.as_slice.ensures.value ∙ written) c.in_ok-next-in-Some.ensures.is in
    same_comes S.field bs c.args.self.now.members old new (with_items c.args.self.now.digits new).items (vector_of S (λ m. m) c.in_ok-next-in-Some.next) written
    (combination_comes S.field bs c.args.self.now.members old new (vector_of S (λ m. m) c.in_ok-next-in-Some.next) (let p = c.if-self-basis.false in omega arith) (stands ∙ sym count) same low next is)
