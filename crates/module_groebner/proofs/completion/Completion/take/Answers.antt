use Rattle.std.proofs.Common.{[], sym, ap, subst}
use Rattle.alg_core.specs.Spaces.{entries}
use Rattle.module_groebner.specs.Items.{IsWithin, IsTaken}
use Rattle.module_groebner.proofs.TakeSteps.{taken_mapped, taken_plain}
use Rattle.module_groebner.proofs.completion.Completion.take.Goals as goal

pub returns-in-Generator : goal.returns-in-Generator
returns-in-Generator g c =
    let q = c.args.self.now in
    record {
      taken = subst (IsTaken q _) (sym c.in-Generator.is) (record {
        weights = ap (λ x. x.weights) c.self.view_is;
        shifts = ap (λ x. x.shifts) c.self.view_is;
        cap = ap (λ x. x.cap) c.self.view_is;
        members = ap (λ x. x.members) c.self.view_is;
        rest = (
          taken_mapped (entries (λ m. m)) c.self.inside.generators.items q.generators c.swap_remove.new.self.items c.in-Generator.i c.swap_remove.result []
              (ap (λ x. x.generators) c.self.view_is) (subst (IsWithin q) c.in-Generator.is c.requires.within) c.swap_remove.ensures.value c.swap_remove.ensures.items,
          ap (λ x. x.pairs) c.self.view_is,
        );
      });
    }

pub returns-in-Pair : goal.returns-in-Pair
returns-in-Pair g c =
    let q = c.args.self.now in
    record {
      taken = subst (IsTaken q _) (sym c.in-Pair.is) (record {
        weights = ap (λ x. x.weights) c.self.view_is;
        shifts = ap (λ x. x.shifts) c.self.view_is;
        cap = ap (λ x. x.cap) c.self.view_is;
        members = ap (λ x. x.members) c.self.view_is;
        rest = (
          taken_plain c.self.inside.pairs.items q.pairs c.swap_remove-in-Pair.new.self.items c.in-Pair.i c.swap_remove-in-Pair.result (0, 0)
              (ap (λ x. x.pairs) c.self.view_is) (subst (IsWithin q) c.in-Pair.is c.requires.within) c.swap_remove-in-Pair.ensures.value c.swap_remove-in-Pair.ensures.items,
          ap (λ x. x.generators) c.self.view_is,
        );
      });
    }
