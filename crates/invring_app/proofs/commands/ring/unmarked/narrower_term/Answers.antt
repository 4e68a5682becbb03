use Rattle.std.proofs.Common.{◌∙◌, length, refl, ap, arith}
use Rattle.alg_core.specs.Monomials.{mono}
use Rattle.invring_app.proofs.NarrowLaws.{mono_front, front_length, take_count}
use Rattle.invring_app.proofs.commands.ring.unmarked.narrower_term.Goals as goal

pub returns : goal.returns
returns g c =
    let past = c.loop-i-test.false in
    let a = c.args.t.now.at.mono in
    let made = c.in_ok-narrower.ensures.is ∙ c.as_slice.ensures.value ∙ front_length c.loop-i.i c.args.variables a c.loop-i.exponents.items (omega arith) c.loop-i.invariant in
    record {
      is = record {
        coefficient = refl;
        position = refl;
        wide = ap length made ∙ take_count c.args.variables a c.requires.long;
        same = ap mono made ∙ mono_front c.args.variables a c.requires.unmarked;
      };
    }
