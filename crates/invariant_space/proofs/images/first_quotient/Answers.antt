use Rattle.invariant_space.proofs.Common.{◌≡◌, subst, times_key, variable, IsQuotient, below_more, In, Key}
use Rattle.invariant_space.proofs.QuotientLaws.{table_at, table_within}
use Rattle.invariant_space.proofs.images.first_quotient.Goals as goal

pub returns-in-Some-clause-some : goal.returns-in-Some-clause-some
returns-in-Some-clause-some c = λ ts below t table at.
    let r = c.requires.table in
    let low = table_within r.0 r.1 c.args.table.now c.loop-j.j c.args.l c.index-table-j.result r.2 c.loop-j-test.true c.index-table-j.is r.3 in
    subst (IsQuotient below c.loop-j.j t) c.in-Some.is (table_at ts below c.args.table.now c.loop-j.j c.args.l c.index-table-j.result c.index.result.now t table c.loop-j-test.true c.index-table-j.is low c.index.ensures at)

pub loop-j-preserved : goal.loop-j-preserved
loop-j-preserved c = λ ts below t table at j v h i e.
    let r = c.requires.table in
    let low = table_within r.0 r.1 c.args.table.now c.loop-j.j c.args.l c.index-table-j.result r.2 c.loop-j-test.true c.index-table-j.is r.3 in
    let q = subst (IsQuotient below c.loop-j.j t) c.in-None.is (table_at ts below c.args.table.now c.loop-j.j c.args.l c.index-table-j.result c.index.result.now t table c.loop-j-test.true c.index-table-j.is low c.index.ensures at) in
    below_more (λ j. (v : Key) → In v below → ¬ (times_key (variable j) v ≡ t)) c.loop-j.j (λ j l v i e. c.loop-j.invariant ts below t table at j v l i e) q j h v i e
