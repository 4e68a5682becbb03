use Rattle.invariant_space.proofs.Common.{◌++◌, ◌∷◌, ◌∙◌, [], List, length, ap, arith, Key, key_order, over, Matrix, IsMonomialList, AreImages, keys_of}
use Rattle.invariant_space.proofs.ImageLaws.{first_images, first_keys}
use Rattle.invariant_space.proofs.MonomialSums.{monomial_list}
use Rattle.invariant_space.proofs.Places.{at_more, length_more}
use Rattle.invariant_space.proofs.images.first_level.Goals as goal

pub loop-generator-preserved : goal.loop-generator-preserved
loop-generator-preserved g c =
    let S = over g.F.Field.field g.O.TermOrder.order c.args.space.now in
    let n = c.loop-generator.invariant.count in
    let made = c.in_ok-push-3.ensures.items in
    record {
      count = length_more c.loop-generator.images.items c.push-in-loop-generator-2.new.self.items c.loop-generator._generator-index c.push-in-loop-generator.new.self made n;
      is = at_more (λ i rows. (m : Matrix g.row.F-Elem.Denot) (ts : List Key) → IsMonomialList (key_order S) (length S.weights) 0 ts → AreImages S.field m ts rows.items) c.loop-generator.images.items c.push-in-loop-generator-2.new.self.items c.loop-generator._generator-index c.push-in-loop-generator.new.self made n c.loop-generator.invariant.is
          (λ m ts monomials. first_images S.field m ts c.push-in-loop-generator.new.self.items c.push.new.self (first_keys S.field (key_order S) (length S.weights) ts monomials)
          (c.in_ok-push-2.ensures.items ∙ ap (λ l. l ++ c.push.new.self ∷ []) c.new-rows.ensures.items) (c.in_ok-push.ensures.items ∙ ap (λ l. l ++ c.one.result ∷ []) c.new-row.ensures.items ∙ ap (λ x. x ∷ []) c.one.ensures.is));
    }

pub returns : goal.returns
returns g c =
    let S = over g.F.Field.field g.O.TermOrder.order c.args.space.now in
    let n = c.loop-generator.invariant.count in
    let sums = c.in_ok-sums.ensures.sums in
    let many = sums.count in
    record {
      level = record {
        sums = sums;
        images = λ p read. record {
          count = omega (arith, c.loop-generator-test.false, c.loop-generator.auto._generator-index-end);
          each = λ i rows h e m is. c.loop-generator.invariant.is i rows h e m (keys_of p) (monomial_list S 0 p (sums.each (length S.weights) p (omega arith) read));
        };
      };
    }
