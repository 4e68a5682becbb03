use Rattle.std.proofs.Common.{◌≡◌, true, sym, subst}
use Rattle.finvar_text.specs.declared.syntax.EntryText.{EntryText}
use Rattle.finvar_text.specs.Conditions.{is_small}
use Rattle.finvar_text.proofs.SingularSteps.{small_at}
use Rattle.finvar_text.proofs.values_generators.residues.Goals as goal

pub residue-requires-clause-small : goal.residue-requires-clause-small
residue-requires-clause-small c =
    subst (λ (e : EntryText). is_small e.number.digits.now ≡ true) (sym c.entry-item.is) (small_at c.args.entries.now c.loop-entry.entry-index c.entry-item.result c.requires.small c.loop-entry-test.true)
