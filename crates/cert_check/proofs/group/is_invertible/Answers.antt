use Rattle.std.proofs.Common.{sym, subst}
use Rattle.std.specs.Prelude.{◌↔◌, IsTrue}
use Rattle.matrix_group.specs.Groups.{IsNonsingular}
use Rattle.cert_check.proofs.CheckedGroup.{invertible_exact}
use Rattle.cert_check.proofs.group.is_invertible.Goals as goal

pub returns : goal.returns
returns g c =
    let k = g.F.Field.field c.args.field.now in
    record {
      exact = subst (λ b. IsTrue b ↔ IsNonsingular k c.args.m.now) (sym c.is_some.ensures)
          (invertible_exact k c.args.m.now c.in_ok-found.found c.in_ok-found.ensures.singular c.in_ok-found.ensures.inverse);
    }
