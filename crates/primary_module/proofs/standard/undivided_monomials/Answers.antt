use Rattle.std.proofs.Common.{◌∙◌, ◌≡◌, ◌<◌, ◌+◌, length, vec_len, sym, ap, arith}
use Rattle.primary_module.specs.UndividedMonomials.{multiples_below}
use Rattle.primary_module.proofs.MonomialSteps.{empty_length, some_length, joined_within}
use Rattle.primary_module.proofs.UndividedSearch.{search_first, search_more, search_over, search_ends}
use Rattle.primary_module.proofs.standard.undivided_monomials.Goals as goal

pub degrees-init : goal.degrees-init
degrees-init c = record {
  search = search_first c.args.leads.now c.args.n c.new-monomials.result.items c.in_ok-found.found.items c.requires.one c.new-monomials.ensures.items c.in_ok-found.ensures.is;
  within = let e = ap length c.new-monomials.ensures.items in omega arith;
}

pub returns-then-len-max_rank-clause-bound : goal.returns-then-len-max_rank-clause-bound
returns-then-len-max_rank-clause-bound c = λ counted e.
    let same : c.args.max_rank + 1 ≡ counted = cc in (
      sym same,
      search_over c.args.leads.now c.args.n c.degrees.monomials.items c.degrees.found.items counted c.degrees.invariant.search (omega arith),
    )

pub degrees-preserved : goal.degrees-preserved
degrees-preserved c =
    let some = some_length c.is_empty.result (vec_len c.degrees.found) c.is_empty.ensures c.degrees-test.true in
    let more : 0 < length c.degrees.found.items = omega arith in record {
      search =
          search_more c.args.leads.now c.args.n c.degrees.monomials.items c.degrees.found.items c.join.new.list.items c.in_ok-next.next.items c.degrees.invariant.search more c.in_ok-join.ensures.joined
          (c.in_ok-next.ensures.are ∙ ap (multiples_below c.args.leads.now c.args.n c.args.n) c.as_slice.ensures.value);
      within = joined_within c.degrees.monomials.items c.degrees.found.items c.join.new.list.items c.args.max_rank c.in_ok-join.ensures.joined c.degrees.invariant.within (omega arith);
    }

pub returns-clause-are : goal.returns-clause-are
returns-clause-are c =
    let none = empty_length c.is_empty.result (vec_len c.degrees.found) c.is_empty.ensures c.degrees-test.false in
    (search_ends c.args.leads.now c.args.n c.degrees.monomials.items c.degrees.found.items c.degrees.invariant.search (omega arith)).0
