use Rattle.std.proofs.Common.{◌≡◌, ◌≢◌, ◌∙◌, sym, ap, ◌-◌, length, take, drop, [], ◌∷◌, rules, arith}
use Rattle.std.proofs.lemmas.List.{take_all, length-drop}
use Rattle.certificate_io.proofs.CellSteps.{no_cell, zero_cell, signed_found, plain_found, after_first}
use Rattle.certificate_io.proofs.words.cell_of.Goals as goal

pub returns-then-is_empty : goal.returns-then-is_empty
returns-then-is_empty c = record { is = no_cell c.args.text.now (search rules) }

pub returns-then-eq : goal.returns-then-eq
returns-then-eq c = record { is = zero_cell c.args.text.now (search rules) }

pub returns-then-text-eq45 : goal.returns-then-text-eq45
returns-then-text-eq45 c =
    let text = c.args.text.now in
    let some : length text ≢ 0 = search rules in
    let whole : take (length text - 1) (drop 1 text) ≡ drop 1 text = take_all (length text - 1) (drop 1 text) (omega (arith, length-drop 1 text)) in
    record { is = signed_found text (take (length text - 1) (drop 1 text)) (after_first text 45 some c.if-text-eq45.true ∙ ap (λ l. 45 ∷ l) (sym whole)) _ c.signed_cell.ensures.is }

pub returns : goal.returns
returns c =
    let other : c.args.text.now ≢ 48 ∷ [] = search rules in
    record { is = plain_found c.args.text.now other c.if-text-eq45.false _ c.signed_cell-2.ensures.is }
