use Rattle.std.proofs.Common.{ap}
use Rattle.certificate_io.specs.Lines.{bytes_at, IsCellText}
use Rattle.certificate_io.specs.declared.words.Cell.{Cell}
use Rattle.certificate_io.proofs.PairSteps.{not_told}
use Rattle.certificate_io.proofs.WordSteps.{at_words, more_words, no_words, all_words, cell_free}
use Rattle.certificate_io.proofs.words.are_cells.Goals as goal

pub loop-rest-init : goal.loop-rest-init
loop-rest-init c = (λ a. a, λ a. a)

pub returns-then-not-is_cell : goal.returns-then-not-is_cell
returns-then-not-is_cell c =
    let so = at_words (λ w. (d : Cell) × IsCellText d w) cell_free c.args.text.now _ _ c.loop-rest.invariant (ap bytes_at c.in-Some.is) in
    record { is = no_words (λ w. (d : Cell) × IsCellText d w) cell_free c.args.text.now _ _ _ c.split.ensures.is so (not_told _ c.is_cell.ensures.is c.if-not-is_cell.true) }

pub loop-rest-preserved : goal.loop-rest-preserved
loop-rest-preserved c =
    let so = at_words (λ w. (d : Cell) × IsCellText d w) cell_free c.args.text.now _ _ c.loop-rest.invariant (ap bytes_at c.in-Some.is) in
    more_words (λ w. (d : Cell) × IsCellText d w) cell_free c.args.text.now _ _ _ c.split.ensures.is so (c.is_cell.ensures.is.0 c.if-not-is_cell.false)

pub returns : goal.returns
returns c = record { is = all_words (λ w. (d : Cell) × IsCellText d w) cell_free c.args.text.now _ (ap bytes_at c.in_default.is) c.loop-rest.invariant }
