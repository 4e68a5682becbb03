use Rattle.finvar_text.proofs.DemoSteps.{ring_is}
use Rattle.finvar_text.proofs.demo.ring_line.Goals as goal

pub returns : goal.returns
returns c = record {
  is = ring_is c.args.n _ _ _ _ _ _ c.from.ensures c.in_ok-names.ensures.is c.deref.ensures.value c.in_ok-line.ensures.items c.in_ok-extend_from_slice.ensures.items c.in_ok-extend_from_slice-2.ensures.items;
}
