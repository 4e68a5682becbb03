-- The line that the error stream gets.
--
--   piece_text p         what a piece of the program is
--   line_of pieces       the pieces, one after another, and a newline
--   kind_word k          the word for what is wrong with a value
--   input_pieces fault   what the line of a faulty input has before its newline, in pieces
--   place_pieces p, bound_pieces fault   the same of a place and of a bound
--   which_word w         the word for a module whose basis met a bound, and a space
--   verdict_pieces v     the same of a verdict on a certificate
--   status_line status   the line of a status; nothing where the run is done
use Rattle.std.specs.Prelude.{ℕ, List, [], ◌∷◌, ◌++◌, length, codes, decimal}
use Rattle.alg_core.specs.declared.input_fault.InputFault.{InputFault}
use Rattle.alg_core.specs.declared.input_fault.InputFault.TheVariants as faults
use Rattle.alg_core.specs.declared.place.Place.{Place}
use Rattle.alg_core.specs.declared.place.Place.TheVariants.{Byte, Line}
use Rattle.alg_core.specs.declared.value_kind.ValueKind.{ValueKind}
use Rattle.alg_core.specs.declared.value_kind.ValueKind.TheVariants as kinds
use Rattle.module_groebner.specs.declared.bound.Which.{Which}
use Rattle.module_groebner.specs.declared.bound.Which.TheVariants.{Ideal, Colon, Graph}
use Rattle.cert_check.specs.declared.verdict.Verdict.{Verdict}
use Rattle.cert_check.specs.declared.verdict.Verdict.TheVariants as verdicts
use Rattle.invring_app.specs.declared.error_line.Piece.{Piece}
use Rattle.invring_app.specs.declared.error_line.Piece.TheVariants.{Text, Number}
use Rattle.invring_app.specs.declared.status.BoundFault.{BoundFault}
use Rattle.invring_app.specs.declared.status.BoundFault.TheVariants.{TermBound, GroupBound, NoPrimary, BasisBound, RankBound, TextBound}
use Rattle.invring_app.specs.declared.status.Status.{Status}
use Rattle.invring_app.specs.declared.status.Status.TheVariants.{Done, Rejected, Usage, Syntax, Input, Bound, ReadFault, WriteFault, Memory}

abbrev pub piece_text : Piece → List ℕ
piece_text (Text text) = text.now
piece_text (Number n) = decimal n

abbrev pub line_of : List (List ℕ) → List ℕ
line_of [] = 10 ∷ []
line_of (piece ∷ pieces) = piece ++ line_of pieces

abbrev pub kind_word : ValueKind → List ℕ
kind_word kinds.Name = codes "name"
kind_word kinds.Index = codes "index"
kind_word kinds.Factor = codes "factor"
kind_word kinds.Exponent = codes "exponent"
kind_word kinds.Coefficient = codes "coefficient"
kind_word kinds.Degree = codes "degree"
kind_word kinds.Order = codes "order"
kind_word kinds.Field = codes "field"
kind_word kinds.Variables = codes "variables"
kind_word kinds.Twice = codes "twice"
kind_word kinds.Size = codes "size"
kind_word kinds.Power = codes "power"
kind_word kinds.Count = codes "count"

abbrev pub input_pieces : InputFault → List (List ℕ)
input_pieces faults.Long = codes "input long" ∷ []
input_pieces faults.Number = codes "input number" ∷ []
input_pieces (faults.Field p) = codes "input field " ∷ decimal p ∷ []
input_pieces (faults.Variables n) = codes "input variables " ∷ decimal n ∷ []
input_pieces (faults.Twice name) = codes "input twice " ∷ name ∷ []
input_pieces (faults.Unknown name) = codes "input unknown " ∷ name ∷ []
input_pieces (faults.Size name) = codes "input size " ∷ name ∷ []
input_pieces faults.NoMatrix = codes "input none" ∷ []
input_pieces (faults.Singular name) = codes "input singular " ∷ name ∷ []
input_pieces (faults.Line line kind) = codes "input line " ∷ decimal line ∷ codes " " ∷ kind_word kind ∷ []

abbrev pub place_pieces : Place → List (List ℕ)
place_pieces (Byte n) = codes "syntax place " ∷ decimal n ∷ []
place_pieces (Line n) = codes "syntax line " ∷ decimal n ∷ []

abbrev pub which_word : Which → List ℕ
which_word Ideal = codes "ideal "
which_word Colon = codes "colon "
which_word Graph = codes "graph "

abbrev pub bound_pieces : BoundFault → List (List ℕ)
bound_pieces (TermBound degree count) = codes "bound terms " ∷ decimal degree ∷ codes " " ∷ decimal count ∷ []
bound_pieces (GroupBound counted) = codes "bound group " ∷ decimal counted ∷ []
bound_pieces (NoPrimary found degree) = codes "bound primary " ∷ decimal (length found.items) ∷ codes " " ∷ decimal degree ∷ []
bound_pieces (BasisBound which vector degree) = codes "bound basis " ∷ which_word which ∷ decimal degree ∷ []
bound_pieces (RankBound counted) = codes "bound rank " ∷ decimal counted ∷ []
bound_pieces (TextBound bytes) = codes "bound text " ∷ decimal bytes ∷ []

abbrev pub verdict_pieces : Verdict → List (List ℕ)
verdict_pieces verdicts.Accepted = codes "accepted" ∷ []
verdict_pieces (verdicts.Rejected condition item) = codes "rejected K" ∷ decimal condition ∷ codes " " ∷ decimal item ∷ []

abbrev pub status_line : Status → List ℕ
status_line Done = []
status_line (Rejected verdict) = line_of (verdict_pieces verdict)
status_line Usage = line_of (codes "usage" ∷ [])
status_line (Syntax place) = line_of (place_pieces place)
status_line (Input fault) = line_of (input_pieces fault)
status_line (Bound fault) = line_of (bound_pieces fault)
status_line ReadFault = line_of (codes "read" ∷ [])
status_line WriteFault = line_of (codes "write" ∷ [])
status_line Memory = line_of (codes "memory" ∷ [])
