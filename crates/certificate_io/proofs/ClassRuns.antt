-- The entries of a matrix, and the classes that they print.
use Rattle.std.proofs.Common.{◌≡◌, ◌≢◌, ◌∙◌, ℕ, ◌*◌, ◌-◌, ◌<◌, ◌≤◌, Bool, true, false, List, [], ◌∷◌, ◌++◌, Option, Some, None, length, map, refl, sym, ap, ap₂, subst, append-nil, append_assoc, arith}
use Rattle.std.specs.Prelude.{All, ◌==◌, ◌&&◌, not, nat_le, nat_lt, if◌then◌else◌}
use Rattle.std.specs.List.{list_all}
use Rattle.std.specs.Option.{option_map, option_or}
use Rattle.std.proofs.lemmas.Bool.{and_parts, eqb-true, leb-true, ltb-true, lt-ltb, le-ltb, eq-eqb, ne_eqb}
use Rattle.std.proofs.lemmas.List.{length-map}
use Rattle.std.proofs.lemmas.List.Elements.{All-nil, All-cons, All-head, All-tail, All-map, All-weaker}
use Rattle.alg_core.specs.declared.value_kind.ValueKind.TheVariants as kinds
use Rattle.certificate_io.specs.Certificates.{MatrixOf}
use Rattle.certificate_io.specs.Conditions.{IsSquare}
use Rattle.certificate_io.specs.Lines.{IsCellText, IsSplit}
use Rattle.certificate_io.specs.Parts.{IsSomeOf, cell_in}
use Rattle.certificate_io.specs.Readings.{class_of, classes_in, matrix_kind, matrix_text, on_line}
use Rattle.certificate_io.specs.Syntax.{IsCell, cell_text}
use Rattle.certificate_io.specs.Values.{checked, is_printed_cell}
use Rattle.certificate_io.specs.declared.words.Cell.{Cell}
use Rattle.certificate_io.proofs.LineTrees.{cell_one}
use Rattle.certificate_io.proofs.LineWords.{cell_plain}
use Rattle.certificate_io.proofs.Splits.{Free, rest_of, first_word}

abbrev cell : Bool → ℕ → Cell
cell b n = record { is_negative = b; size = n }

abbrev pub square : ℕ → List ℕ → MatrixOf ℕ
square n xs = record { rows = n; cols = n; cells = xs }

-- classes, and those of the rest, where there are some
abbrev pub added : List ℕ → Option (List ℕ) → Option (List ℕ)
added xs o = option_map (λ ys. xs ++ ys) o

added_nil : (o : Option (List ℕ)) → added [] o ≡ o
added_nil None = refl
added_nil (Some ys) = refl

added_twice : (xs ys : List ℕ) (o : Option (List ℕ)) → added xs (added ys o) ≡ added (xs ++ ys) o
added_twice xs ys None = refl
added_twice xs ys (Some zs) = ap Some (sym (append_assoc xs ys zs))

module _ (p : ℕ) where
  classes_cons : (c : Cell) (cs : List Cell) → is_printed_cell p c ≡ true → classes_in p (c ∷ cs) ≡ added (class_of p c ∷ []) (classes_in p cs)
  classes_cons c cs printed =
      ap (λ (b : Bool). if b && list_all (is_printed_cell p) cs then Some (class_of p c ∷ map (class_of p) cs) else None) printed ∙ go (list_all (is_printed_cell p) cs)
    where
      go : (b : Bool) → (if b then Some (class_of p c ∷ map (class_of p) cs) else None) ≡ added (class_of p c ∷ []) (if b then Some (map (class_of p) cs) else None)
      go true = refl
      go false = refl

  classes_stop : (c : Cell) (cs : List Cell) → is_printed_cell p c ≡ false → classes_in p (c ∷ cs) ≡ None
  classes_stop c cs printed = ap (λ (b : Bool). if b && list_all (is_printed_cell p) cs then Some (class_of p c ∷ map (class_of p) cs) else None) printed

  -- of the entries cs the first have these classes, and the rest is what follows them
  pub record CellsLeft (cs : List Cell) (classes : List ℕ) (rest : Option (List ℕ)) : Type 0 where
    pub left : List Cell
    pub each : All IsCell left
    pub follows : rest ≡ rest_of (map cell_text left)
    pub whole : classes_in p cs ≡ added classes (classes_in p left)

  pub cells_begin : (cs : List Cell) (text : List ℕ) → IsSomeOf IsCell cs → matrix_text cs ≡ text → CellsLeft cs [] (Some text)
  cells_begin [] text is same = absurd (let h = is.0 in omega (arith, h))
  cells_begin (c ∷ cs) text is same = record { left = c ∷ cs; each = is.1; follows = ap Some (sym same); whole = sym (added_nil (classes_in p (c ∷ cs))) }

  module _ (cs : List Cell) (classes words w : List ℕ) (o : Option (List ℕ)) (before : CellsLeft cs classes (Some words)) (split : IsSplit 32 words w o) where
    record NextCell : Type 0 where
      cell : Cell
      is : IsCellText cell w
      stop : is_printed_cell p cell ≡ false → classes_in p cs ≡ None
      rest : is_printed_cell p cell ≡ true → CellsLeft cs (classes ++ (class_of p cell ∷ [])) o

    next : NextCell
    next = go before.left before.each before.follows before.whole
      where
        go : (left : List Cell) → All IsCell left → Some words ≡ rest_of (map cell_text left) → classes_in p cs ≡ added classes (classes_in p left) → NextCell
        go [] each follows whole = absurd cc
        go (d ∷ ds) each follows whole =
            let this : matrix_text (d ∷ ds) ≡ words = cc in
            let is = All-head IsCell d ds each in
            let found = first_word words w (cell_text d) (map cell_text ds) o split (cell_plain d is).unspaced this in
            record {
              cell = d;
              is = (is, sym found.0);
              stop = λ e. whole ∙ ap (added classes) (classes_stop d ds e);
              rest = λ e. record {
                left = ds;
                each = All-tail IsCell d ds each;
                follows = found.1;
                whole = whole ∙ ap (added classes) (classes_cons d ds e) ∙ added_twice classes (class_of p d ∷ []) (classes_in p ds);
              };
            }

    -- the next word is an entry
    pub no_entry : ((c : Cell) → ¬ IsCellText c w) → ⊥
    no_entry none = none next.cell next.is

    same_cell : (c : Cell) → IsCellText c w → next.cell ≡ c
    same_cell c is = cell_one next.cell c next.is.0 is.0 (next.is.1 ∙ sym is.1)

    pub entry_stops : (c : Cell) → IsCellText c w → None ≡ (if is_printed_cell p c then Some (class_of p c) else None) → None ≡ classes_in p cs
    entry_stops c is e = sym (next.stop (ap (is_printed_cell p) (same_cell c is) ∙ go (is_printed_cell p c) e))
      where
        go : (b : Bool) → None ≡ (if b then Some (class_of p c) else None) → b ≡ false
        go true e = absurd cc
        go false e = refl

    pub entry_more : (c : Cell) → IsCellText c w → (x : ℕ) → Some x ≡ (if is_printed_cell p c then Some (class_of p c) else None) → CellsLeft cs (classes ++ (x ∷ [])) o
    entry_more c is x e =
        let found = go (is_printed_cell p c) e in
        let same = same_cell c is in
        subst (λ y. CellsLeft cs (classes ++ (y ∷ [])) o) (ap (class_of p) same ∙ sym found.1) (next.rest (ap (is_printed_cell p) same ∙ found.0))
      where
        go : (b : Bool) → Some x ≡ (if b then Some (class_of p c) else None) → (b ≡ true) × (x ≡ class_of p c)
        go true e = (refl, cc)
        go false e = absurd cc

  pub entries_end : (cs : List Cell) (classes : List ℕ) → CellsLeft cs classes None → Some classes ≡ classes_in p cs
  entries_end cs classes before = go before.left before.follows before.whole
    where
      go : (left : List Cell) → None ≡ rest_of (map cell_text left) → classes_in p cs ≡ added classes (classes_in p left) → Some classes ≡ classes_in p cs
      go [] follows whole = sym (whole ∙ ap Some (append-nil classes))
      go (d ∷ ds) follows whole = absurd cc

  -- the class of an entry that prints one, and the entry that the class prints
  record Prints (b : Bool) (size : ℕ) : Type 0 where
    signed : b ≡ true → 2 * size < p
    half : 2 * size ≤ p
    small : size < p

  prints : (b : Bool) (size : ℕ) → is_printed_cell p (cell b size) ≡ true → Prints b size
  prints b size e = go (p == 2) refl e
    where
      go : (t : Bool) → (p == 2) ≡ t → (if t then (not b && nat_le size 1) else nat_lt (2 * size) p) ≡ true → Prints b size
      go true two e =
          let parts = and_parts (not b) (nat_le size 1) e in
          let plain : not b ≡ true = parts.0 in
          let same = eqb-true p 2 two in
          let low = leb-true size 1 parts.1 in
          record { signed = λ (s : b ≡ true). absurd (let bad : false ≡ true = sym (ap not s) ∙ plain in cc); half = omega (arith, same, low); small = omega (arith, same, low) }
      go false two e = let low = ltb-true (2 * size) p e in record { signed = λ _. low; half = omega (arith, low); small = omega (arith, low) }

  class_small : (b : Bool) (size : ℕ) → (b ≡ true → 1 ≤ size) → Prints b size → class_of p (cell b size) < p
  class_small true size some h = let low = some refl in let small = h.small in omega (arith, low, small)
  class_small false size some h = h.small

  class_back : (b : Bool) (size : ℕ) → Prints b size → cell_in p (class_of p (cell b size)) ≡ cell b size
  class_back true size h =
      let low = h.signed refl in
      ap (λ (n : Bool). cell n (if n then p - (p - size) else p - size)) (lt-ltb p (2 * (p - size)) (omega (arith, low))) ∙ ap (cell true) (omega (arith, low))
  class_back false size h = ap (λ (n : Bool). cell n (if n then p - size else size)) (le-ltb p (2 * size) h.half)

  classes_back : (cs : List Cell) → All IsCell cs → list_all (is_printed_cell p) cs ≡ true → All (λ x. x < p) (map (class_of p) cs) × (map (cell_in p) (map (class_of p) cs) ≡ cs)
  classes_back [] is e = (All-nil (λ x. x < p), refl)
  classes_back (c ∷ cs) is e =
      let parts = and_parts (is_printed_cell p c) (list_all (is_printed_cell p) cs) e in
      let h = prints c.is_negative c.size parts.0 in
      let rest = classes_back cs (All-tail IsCell c cs is) parts.1 in (
        All-cons (λ x. x < p) (class_of p c) (map (class_of p) cs) (class_small c.is_negative c.size (All-head IsCell c cs is).sign h) rest.0,
        ap₂ (λ d ds. d ∷ ds) (class_back c.is_negative c.size h) rest.1,
      )

  module _ (n line : ℕ) (cs : List Cell) where
    pub size_fault : length cs ≢ n * n → Some (line, kinds.Size) ≡ on_line line (matrix_kind p n cs)
    size_fault other =
        sym (ap (λ (b : Bool). on_line line (option_or (checked kinds.Size b) (checked kinds.Coefficient (list_all (is_printed_cell p) cs)))) (ne_eqb (length cs) (n * n) other))

    module _ (size : length cs ≡ n * n) where
      sized : on_line line (matrix_kind p n cs) ≡ on_line line (checked kinds.Coefficient (list_all (is_printed_cell p) cs))
      sized = ap (λ (b : Bool). on_line line (option_or (checked kinds.Size b) (checked kinds.Coefficient (list_all (is_printed_cell p) cs)))) (eq-eqb (length cs) (n * n) size)

      pub class_fault : None ≡ classes_in p cs → Some (line, kinds.Coefficient) ≡ on_line line (matrix_kind p n cs)
      class_fault e = sym (sized ∙ go (list_all (is_printed_cell p) cs) e)
        where
          go : (b : Bool) → None ≡ (if b then Some (map (class_of p) cs) else None) → on_line line (checked kinds.Coefficient b) ≡ Some (line, kinds.Coefficient)
          go true e = absurd cc
          go false e = refl

      pub matrix_read : (xs : List ℕ) → All IsCell cs → Some xs ≡ classes_in p cs → (on_line line (matrix_kind p n cs) ≡ None) × (IsSquare p n (square n xs) × (map (cell_in p) xs ≡ cs))
      matrix_read xs is e =
          let found = go (list_all (is_printed_cell p) cs) e in
          let back = classes_back cs is found.0 in
          let many : length (map (class_of p) cs) ≡ n * n = length-map cs (class_of p) ∙ size in
          subst (λ ys. (on_line line (matrix_kind p n cs) ≡ None) × (IsSquare p n (square n ys) × (map (cell_in p) ys ≡ cs))) (sym found.1)
          (sized ∙ ap (λ (b : Bool). on_line line (checked kinds.Coefficient b)) found.0, (record { rows = refl; cols = refl; cells = many; classes = back.0 }, back.1))
        where
          go : (b : Bool) → Some xs ≡ (if b then Some (map (class_of p) cs) else None) → (b ≡ true) × (xs ≡ map (class_of p) cs)
          go true e = (refl, cc)
          go false e = absurd cc

-- the words of a matrix are counted
pub entries_free : (cs : List Cell) → IsSomeOf IsCell cs → IsSomeOf (Free 32) (map cell_text cs)
entries_free cs is = (
  subst (λ (k : ℕ). 1 ≤ k) (sym (length-map cs cell_text)) is.0,
  All-map (Free 32) cell_text cs (All-weaker IsCell (λ c. Free 32 (cell_text c)) (λ c h. (cell_plain c h).unspaced) cs is.1),
)

pub entries_counted : (cs : List Cell) (count : ℕ) → count ≡ length (map cell_text cs) → count ≡ length cs
entries_counted cs count e = e ∙ length-map cs cell_text
