use Rattle.std.proofs.Common.{◌∙◌, sym, arith}
use Rattle.syzygy_kernel.proofs.ListedParts.{place_found}
use Rattle.syzygy_kernel.proofs.places.place_near.Goals as goal

pub returns-then-is_part : goal.returns-then-is_part
returns-then-is_part c =
    let low = c.loop-i.invariant in
    record {
      is = sym (place_found c.args.n c.args.mono.now c.requires.long c.args.monomials.now c.requires.different c.requires.wide _ c.index-monomials-i.result (omega arith) c.index-monomials-i.is
          (sym c.is_part.ensures.exact ∙ c.if-is_part.true));
    }
