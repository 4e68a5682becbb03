use Rattle.std.proofs.Common.{sym, subst}
use Rattle.std.specs.Prelude.{All}
use Rattle.finvar_text.specs.Syntax.{IsName}
use Rattle.finvar_text.specs.Trees.{bytes_of}
use Rattle.finvar_text.proofs.ScriptSteps.{variable_name}
use Rattle.finvar_text.proofs.script.variable_names.Goals as goal

pub new-requires : goal.new-requires
new-requires c = record {
  name = variable_name c.as_slice-variable-items.result.now c.loop-variable.variable-index _ (subst (λ l. All IsName (bytes_of l)) (sym c.as_slice-variable-items.ensures.value) c.requires.names) c.loop-variable-test.true;
}
