use Rattle.std.proofs.Common.{◌≡◌, sym, true, false, get_or, rules}
use Rattle.std.proofs.lemmas.List.Folds.{list_all_at}
use Rattle.alg_core.specs.Names.{is_letter, is_name_byte}
use Rattle.certificate_io.proofs.WordSteps.{name_byte}
use Rattle.certificate_io.proofs.words.is_name.Goals as goal

pub returns-then-not-is_name_byte : goal.returns-then-not-is_name_byte
returns-then-not-is_name_byte c =
    let word = c.args.word.now in
    let letter : is_letter (get_or word 0 0) ≡ true = search rules in
    let other : is_name_byte (get_or word c.loop-i.i 0) ≡ false = search rules in
    record { is = sym (name_byte word letter (list_all_at is_name_byte word c.loop-i.i 0 c.loop-i-test.true other)) }
