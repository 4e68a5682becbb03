use Rattle.std.proofs.Common.{map, ap, subst, arith, rules}
use Rattle.std.specs.List.Sorted.{IsPermutation}
use Rattle.std.proofs.lemmas.List.Sorted.{IsPermutation-refl}
use Rattle.alg_core.specs.Spaces.{over, entries}
use Rattle.module_groebner.specs.Progress.{Progress}
use Rattle.module_groebner.proofs.NewSteps.{copied_more, copied_all, new_stands, new_same}
use Rattle.module_groebner.proofs.completion.Completion.new.Goals as goal

pub loop-i-preserved : goal.loop-i-preserved
loop-i-preserved g c =
    copied_more (entries (λ m. m)) c.args.gens.now c.loop-i.generators.items _ c.loop-i.i c.index-gens-i.result _ c.loop-i.invariant (omega arith) c.index-gens-i.is c.in_ok-copy.ensures.same c.in_ok-push.ensures.items

pub returns-clause-stands : goal.returns-clause-stands
returns-clause-stands g c =
    let S = over g.F.Field.field g.O.TermOrder.order c.args.space.now in
    let e = copied_all (entries (λ m. m)) c.args.gens.now c.loop-i.generators.items c.loop-i.i c.loop-i.invariant (omega arith) in
    let q : Progress g.row.E.Denot = record {
      weights = c.extend_from_slice.new.self.items;
      shifts = c.extend_from_slice-2.new.self.items;
      cap = c.args.cap;
      members = map (entries (λ m. m)) c.new.result.items;
      generators = map (entries (λ m. m)) c.loop-i.generators.items;
      pairs = c.new-2.result.items;
    } in
    let none = ap (map (entries (λ m. m))) c.new.ensures.items in
    new_stands S (λ m. m) q c.args.gens.now none e (search rules) (search rules) c.requires.cap c.new-2.ensures.items c.requires.generators c.requires.homogeneous

pub returns-clause-same : goal.returns-clause-same
returns-clause-same g c =
    let S = over g.F.Field.field g.O.TermOrder.order c.args.space.now in
    let e = copied_all (entries (λ m. m)) c.args.gens.now c.loop-i.generators.items c.loop-i.i c.loop-i.invariant (omega arith) in
    let q : Progress g.row.E.Denot = record {
      weights = c.extend_from_slice.new.self.items;
      shifts = c.extend_from_slice-2.new.self.items;
      cap = c.args.cap;
      members = map (entries (λ m. m)) c.new.result.items;
      generators = map (entries (λ m. m)) c.loop-i.generators.items;
      pairs = c.new-2.result.items;
    } in
    let none = ap (map (entries (λ m. m))) c.new.ensures.items in
    new_same S (λ m. m) q c.args.gens.now none e

pub returns-clause-generators : goal.returns-clause-generators
returns-clause-generators g c =
    let e = copied_all (entries (λ m. m)) c.args.gens.now c.loop-i.generators.items c.loop-i.i c.loop-i.invariant (omega arith) in
    subst (IsPermutation (map (entries (λ m. m)) c.args.gens.now)) e (IsPermutation-refl (map (entries (λ m. m)) c.args.gens.now))
