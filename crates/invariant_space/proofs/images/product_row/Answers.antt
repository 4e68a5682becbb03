use Rattle.invariant_space.proofs.Common.{◌≡◌, ◌<◌, length, get_or, subst, sym, arith, All, All-push, Has, scalar, Key, coef_at, product, vector, linear_form}
use Rattle.invariant_space.proofs.Places.{at_more, length_more}
use Rattle.invariant_space.proofs.QuotientLaws.{coordinates_made}
use Rattle.invariant_space.proofs.images.product_row.Goals as goal

pub loop-s-preserved : goal.loop-s-preserved
loop-s-preserved g c =
    let k = g.F.Field.field c.args.field.now in
    let made = c.in_ok-push.ensures.items in
    let n = c.loop-s.invariant.count in
    record {
      count = length_more c.loop-s.coordinates.items c.push.new.self.items c.loop-s.s c.product_coefficient.result made n;
      has = subst (All (Has k)) (sym made) (All-push (Has k) c.loop-s.coordinates.items c.product_coefficient.result c.loop-s.invariant.has c.product_coefficient.ensures.has);
      is = λ ts below f table many keys is.
          let low : c.loop-s.s < length ts = omega (arith, c.loop-s-test.true) in
          at_more (λ s x. (t : Key) → get_or ts s t ≡ t → scalar k x ≡ coef_at k (product k (linear_form k (length c.args.form.now) (vector k c.args.form.now)) f) t) c.loop-s.coordinates.items c.push.new.self.items c.loop-s.s c.product_coefficient.result made n
          (c.loop-s.invariant.is ts below f table many keys is) (λ t at. c.product_coefficient.ensures.coefficient ts below f t table low at keys is);
    }

pub returns : goal.returns
returns g c =
    let k = g.F.Field.field c.args.field.now in
    let n = c.loop-s.invariant.count in
    record {
      product = λ ts below f table many keys is.
          coordinates_made k ts (product k (linear_form k (length c.args.form.now) (vector k c.args.form.now)) f) c.loop-s.coordinates.items (omega (arith, c.loop-s-test.false, c.loop-s.auto.s-end)) c.loop-s.invariant.has (c.loop-s.invariant.is ts below f table many keys is);
    }
