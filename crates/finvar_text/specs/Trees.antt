-- What the syntax tree of the program stands for.
--
--   bytes_of ws, word_of o          the bytes of the words, and of a word, where there is one
--   matrices_at ms, call_at o       the matrices, and the call, that are referred to
--   entry_of e, entries_of es, matrix_of m, call_of c, item_of i, items_of is, script_of s   the entry, the matrix, the call, the item, the script
use Rattle.std.specs.Prelude.{ℕ, List, map, Option}
use Rattle.std.specs.Option.{option_map}
use Rattle.std.specs.Borrow.{Bor}
use Rattle.finvar_text.specs.declared.syntax.EntryText.{EntryText}
use Rattle.finvar_text.specs.declared.syntax.MatrixText.{MatrixText}
use Rattle.finvar_text.specs.declared.syntax.CallText.{CallText}
use Rattle.finvar_text.specs.declared.syntax.ItemText.{ItemText}
use Rattle.finvar_text.specs.declared.syntax.ItemText.TheVariants as items
use Rattle.finvar_text.specs.declared.syntax.ScriptText.{ScriptText}
use Rattle.finvar_text.specs.Syntax.{Entry, Matrix, Call, Item, Lib, Declared, Printed, Called, Script}

abbrev pub bytes_of : List (Bor (List ℕ)) → List (List ℕ)
bytes_of ws = map (λ (w : Bor (List ℕ)). w.now) ws

abbrev pub entry_of : EntryText → Entry
entry_of e = record { is_negative = e.is_negative; digits = e.number.digits.now }

abbrev pub entries_of : List EntryText → List Entry
entries_of es = map entry_of es

abbrev pub matrix_of : MatrixText → Matrix
matrix_of m = record { name = m.name.now; rows = m.rows.digits.now; cols = m.cols.digits.now; entries = entries_of m.entries.items }

abbrev pub call_of : CallText → Call
call_of c = record { first = c.first.now; second = c.second.now; third = c.third.now; arguments = bytes_of c.arguments.items }

abbrev pub item_of : ItemText → Item
item_of (items.Lib w) = Lib w.now
item_of (items.Declared m) = Declared (matrix_of m)
item_of (items.Printed name word) = Printed name.now word
item_of (items.Called c) = Called (call_of c)

abbrev pub items_of : List ItemText → List Item
items_of is = map item_of is

abbrev pub script_of : ScriptText → Script
script_of s = record {
  libs = bytes_of s.libs.items;
  ring = s.ring.now;
  characteristic = s.characteristic.digits.now;
  in_parentheses = s.in_parentheses;
  variables = bytes_of s.variables.items;
  items = items_of s.items.items;
}

abbrev pub word_of : Option (Bor (List ℕ)) → Option (List ℕ)
word_of o = option_map (λ (w : Bor (List ℕ)). w.now) o

abbrev pub matrices_at : List (Bor MatrixText) → List Matrix
matrices_at ms = map (λ (m : Bor MatrixText). matrix_of m.now) ms

abbrev pub call_at : Option (Bor CallText) → Option Call
call_at o = option_map (λ (c : Bor CallText). call_of c.now) o
