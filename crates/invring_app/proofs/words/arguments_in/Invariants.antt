use Rattle.std.proofs.Common.{◌≡◌, drop, map, None}
use Rattle.std.specs.Prelude.{string_bytes}
use Rattle.invring_app.specs.WordReading.{steps, nothing_given}
use Rattle.invring_app.proofs.words.arguments_in.Given as goal

abbrev pub invariant-loop-word : goal.invariant-loop-word
invariant-loop-word l =
    steps l.reading (map string_bytes (drop l.word-index l.words)) ≡ steps (record { given = nothing_given; awaited = None }) (map string_bytes l.words)
