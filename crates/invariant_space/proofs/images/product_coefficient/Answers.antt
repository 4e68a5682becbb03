use Rattle.invariant_space.proofs.Common.{◌≡◌, ◌<◌, ◌+◌, ℕ, suc, length, sym, subst, arith, IfSome, Has, scalar, coef_at, product, vector, linear_form}
use Rattle.invariant_space.proofs.Places.{element_at}
use Rattle.invariant_space.proofs.QuotientLaws.{form_none, form_more, form_skip, quotient_within, table_at, table_within}
use Rattle.invariant_space.proofs.images.product_coefficient.Goals as goal

pub loop-j-init : goal.loop-j-init
loop-j-init g c =
    let k = g.F.Field.field c.args.field.now in
    record { has = c.zero-sum.ensures.has; is = λ ts below f t table low at keys is. form_none k (vector k c.args.form.now) f t c.zero-sum.result c.zero-sum.ensures.is }

pub coordinate-value-requires-clause-within : goal.coordinate-value-requires-clause-within
coordinate-value-requires-clause-within g c =
    let r = c.requires.table in
    let t = element_at r.0 c.args.s r.3 in
    let low = table_within r.0 r.1 c.args.table.now c.loop-j.j c.args.s c.index-table-j.result r.2 c.loop-j-test.true c.index-table-j.is r.3 in
    subst (λ (n : ℕ). IfSome c.index.result.now (λ u. u < n)) r.4
    (quotient_within r.1 c.loop-j.j t.0 c.index.result.now (table_at r.0 r.1 c.args.table.now c.loop-j.j c.args.s c.index-table-j.result c.index.result.now t.0 r.2 c.loop-j-test.true c.index-table-j.is low c.index.ensures t.1))

pub loop-j-preserved : goal.loop-j-preserved
loop-j-preserved g c =
    let k = g.F.Field.field c.args.field.now in
    let n = c.requires.form.count in
    let inside : c.loop-j.j < length c.args.form.now = omega (arith, c.loop-j-test.true) in
    let next : suc c.loop-j.j ≡ c.loop-j.j + 1 = omega arith in
    let has : Has k c.index-form-j.result = subst (Has k) (sym c.index-form-j.is) (c.requires.form.has c.loop-j.j c.index-form-j.result inside) in
    record {
      has = c.add-sum.ensures.has;
      is = λ ts below f t table low at keys is.
          let within = table_within ts below c.args.table.now c.loop-j.j c.args.s c.index-table-j.result table c.loop-j-test.true c.index-table-j.is low in
          let q = table_at ts below c.args.table.now c.loop-j.j c.args.s c.index-table-j.result c.index.result.now t table c.loop-j-test.true c.index-table-j.is within c.index.ensures at in
          subst (λ (j : ℕ). scalar k c.add-sum.result ≡ coef_at k (product k (linear_form k j (vector k c.args.form.now)) f) t) next
          (form_more k c.args.form.now c.loop-j.j f t c.index-form-j.result c.coordinate-value.result c.loop-j.sum c.mul.result c.add-sum.result c.loop-j.invariant.has has c.coordinate-value.ensures.has inside c.index-form-j.is c.mul.ensures.is c.add-sum.ensures.is
          (c.coordinate-value.ensures.multiple below c.loop-j.j t f q keys is) (c.loop-j.invariant.is ts below f t table low at keys is));
    }

pub loop-j-preserved-then-is_zero : goal.loop-j-preserved-then-is_zero
loop-j-preserved-then-is_zero g c =
    let k = g.F.Field.field c.args.field.now in
    let n = c.requires.form.count in
    let inside : c.loop-j.j < length c.args.form.now = omega (arith, c.loop-j-test.true) in
    let next : suc c.loop-j.j ≡ c.loop-j.j + 1 = omega arith in
    record {
      has = c.loop-j.invariant.has;
      is = λ ts below f t table low at keys is.
          subst (λ (j : ℕ). scalar k c.loop-j.sum ≡ coef_at k (product k (linear_form k j (vector k c.args.form.now)) f) t) next
          (form_skip k c.args.form.now c.loop-j.j f t c.index-form-j.result c.loop-j.sum inside c.index-form-j.is (c.is_zero.ensures.yes c.if-is_zero.true) (c.loop-j.invariant.is ts below f t table low at keys is));
    }

pub returns-clause-coefficient : goal.returns-clause-coefficient
returns-clause-coefficient g c = λ ts below f t table low at keys is.
    let k = g.F.Field.field c.args.field.now in
    let n = c.requires.form.count in
    let all : c.loop-j.j ≡ length c.args.form.now = omega (arith, c.loop-j-test.false, c.loop-j.auto.j-end) in
    subst (λ (j : ℕ). scalar k c.loop-j.sum ≡ coef_at k (product k (linear_form k j (vector k c.args.form.now)) f) t) all (c.loop-j.invariant.is ts below f t table low at keys is)
