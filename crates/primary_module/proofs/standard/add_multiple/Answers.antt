use Rattle.std.proofs.Common.{◌∙◌, length, sym}
use Rattle.primary_module.proofs.MonomialSteps.{product_fits, product_long, added_none}
use Rattle.primary_module.proofs.standard.add_multiple.Goals as goal

pub product-requires-clause-fits : goal.product-requires-clause-fits
product-requires-clause-fits c = product_fits c.args.variable.now c.args.mono.now c.args.j c.requires.variable c.requires.within c.requires.low

pub is_undivided-requires : goal.is_undivided-requires
is_undivided-requires c = record {
  wide = product_long c.args.leads.now c.args.variable.now c.args.mono.now c.in_ok-multiple.multiple c.args.j c.requires.variable c.in_ok-multiple.ensures.ok c.requires.wide;
}

pub returns-then-not-is_up_to : goal.returns-then-not-is_up_to
returns-then-not-is_up_to c = record {
  added = added_none c.args.leads.now (length c.args.mono.now) c.args.j c.args.mono.now c.args.list.now.items (sym c.is_up_to.ensures.is ∙ c.if-not-is_up_to.true);
}
