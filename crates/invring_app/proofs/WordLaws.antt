-- Words that write parts of a command, and what is read of them.
use Rattle.std.proofs.Common.{◌≡◌, ℕ, suc, ◌+◌, ◌<◌, ◌≤◌, ◌^◌, Bool, true, false, List, [], ◌∷◌, ◌++◌, length, get_or, refl, sym, ap, subst, ◌∙◌, length-append, arith, inl, inr, Some, None, if◌then◌else◌}
use Rattle.std.specs.Prelude.{Option, ◌==◌, not, nat_lt, codes, decimal, is_some}
use Rattle.std.specs.List.{position_or_len, before_first, after_first}
use Rattle.std.specs.Char.{is_ascii_digit}
use Rattle.std.specs.Str.{bytes_eq, all_ascii_digits}
use Rattle.std.proofs.lemmas.Bool.{and_parts, eqb-true}
use Rattle.std.proofs.lemmas.Bool.Decides.{nat_tests}
use Rattle.std.proofs.lemmas.Fmt.{decimal_nonempty}
use Rattle.std.proofs.lemmas.List.Sums.{split_at_first, passes_at_first}
use Rattle.std.proofs.lemmas.Option.{same_Some}
use Rattle.std.proofs.lemmas.Slice.Eq.{bytes_eq-Decides}
use Rattle.alg_core.proofs.NumberTests.{is_below, not_below}
use Rattle.invring_app.specs.declared.arguments.Argument.{Argument}
use Rattle.invring_app.specs.declared.arguments.Argument.TheVariants.{Number, MaxOrder, MaxDegree, MaxBasis, MaxTerms, MaxRank, Tries, MaxText}
use Rattle.invring_app.specs.declared.given.Given.{Given}
use Rattle.invring_app.specs.declared.words.Reading.{Reading}
use Rattle.invring_app.specs.Words.{option_name, least, most, Part, IsSpelled, IsPart, AreParts}
use Rattle.invring_app.specs.Numerals.{number_of}
use Rattle.invring_app.specs.Commands.{◌>>=◌}
use Rattle.invring_app.specs.WordReading.{given_at, with_given, named, give, plain, start, step_of, steps, finish}
use Rattle.invring_app.proofs.GivenLaws.{add, adds}
use Rattle.invring_app.proofs.NumeralLaws.{number_of-some, number_of-decimal, all_ascii_digits-decimal}

-- the name of an option

named-if : (w name : List ℕ) (a : Argument) (others : Option Argument) → option_name a ≡ Some name → ((b : Argument) → others ≡ Some b → option_name b ≡ Some w)
    → (b : Argument) → (if bytes_eq w name then Some a else others) ≡ Some b → option_name b ≡ Some w
named-if w name a others is more b e = go (bytes_eq w name) refl e
  where
    go : (t : Bool) → bytes_eq w name ≡ t → (if t then Some a else others) ≡ Some b → option_name b ≡ Some w
    go true same e =
        let word : w ≡ name = (bytes_eq-Decides w name).0 same in
        let argument : a ≡ b = same_Some a b e in
        sym (ap option_name argument) ∙ is ∙ ap (λ (t : List ℕ). Some t) (sym word)
    go false same e = more b e

pub named-some : (w : List ℕ) (b : Argument) → named w ≡ Some b → option_name b ≡ Some w
unfolding named
named-some w =
    named-if w _ MaxOrder _ refl
    (named-if w _ MaxDegree _ refl
    (named-if w _ MaxBasis _ refl
    (named-if w _ MaxTerms _ refl
    (named-if w _ MaxRank _ refl
    (named-if w _ Tries _ refl
    (named-if w _ MaxText _ refl (λ b e. absurd cc)))))))

-- what holds of each option with its name
pub at-option : (P : Argument → List ℕ → Type 0) → P MaxOrder (codes "--max-order") → P MaxDegree (codes "--max-degree") → P MaxBasis (codes "--max-basis") → P MaxTerms (codes "--max-terms")
    → P MaxRank (codes "--max-rank") → P Tries (codes "--tries") → P MaxText (codes "--max-text") → (a : Argument) (name : List ℕ) → option_name a ≡ Some name → P a name
at-option P p q r s t u v Number name is = absurd cc
at-option P p q r s t u v MaxOrder name is = subst (P MaxOrder) (same_Some _ _ is) p
at-option P p q r s t u v MaxDegree name is = subst (P MaxDegree) (same_Some _ _ is) q
at-option P p q r s t u v MaxBasis name is = subst (P MaxBasis) (same_Some _ _ is) r
at-option P p q r s t u v MaxTerms name is = subst (P MaxTerms) (same_Some _ _ is) s
at-option P p q r s t u v MaxRank name is = subst (P MaxRank) (same_Some _ _ is) t
at-option P p q r s t u v Tries name is = subst (P Tries) (same_Some _ _ is) u
at-option P p q r s t u v MaxText name is = subst (P MaxText) (same_Some _ _ is) v

start-name : (g : Given) (a : Argument) (name : List ℕ) → option_name a ≡ Some name → start g None name ≡ Some (record { given = g; awaited = Some a })
unfolding named
start-name g = at-option (λ a name. start g None name ≡ Some (record { given = g; awaited = Some a })) refl refl refl refl refl refl refl

start-split : (g : Given) (a : Argument) (name text : List ℕ) → let w = name ++ (codes "=" ++ text) in position_or_len (λ b. b == 61) w ≡ length name → before_first (λ b. b == 61) w ≡ name → after_first (λ b. b == 61) w ≡ text
    → named name ≡ Some a → start g None w ≡ give g a text
start-split g a name text at before after is =
    let w : List ℕ = name ++ (codes "=" ++ text) in
    let long : length w ≡ length name + length (codes "=" ++ text) = length-append name (codes "=" ++ text) in
    let more : 0 < length (codes "=" ++ text) = omega arith in
    let test : nat_lt (position_or_len (λ b. b == 61) w) (length w) ≡ true = is_below (position_or_len (λ b. b == 61) w) (length w) (omega arith) in
    ap (λ t. if t then (named (before_first (λ b. b == 61) w) >>= λ a. give g a (after_first (λ b. b == 61) w)) else plain g w (named w)) test
    ∙ ap (λ n. named n >>= λ a. give g a (after_first (λ b. b == 61) w)) before
    ∙ ap (λ o. o >>= λ a. give g a (after_first (λ b. b == 61) w)) is
    ∙ ap (give g a) after

start-both : (g : Given) (text : List ℕ) (a : Argument) (name : List ℕ) → option_name a ≡ Some name → start g None (name ++ (codes "=" ++ text)) ≡ give g a text
unfolding named
start-both g text =
    let split = λ (a : Argument) (name : List ℕ). start-split g a name text in
    at-option (λ a name. start g None (name ++ (codes "=" ++ text)) ≡ give g a text) (split MaxOrder (codes "--max-order") refl refl refl refl) (split MaxDegree (codes "--max-degree") refl refl refl refl)
    (split MaxBasis (codes "--max-basis") refl refl refl refl) (split MaxTerms (codes "--max-terms") refl refl refl refl) (split MaxRank (codes "--max-rank") refl refl refl refl)
    (split Tries (codes "--tries") refl refl refl refl) (split MaxText (codes "--max-text") refl refl refl refl)

at_least : (m n : ℕ) → nat_lt m n ≡ false → n ≤ m
at_least m n test = grind (arith, nat_tests)

-- a number in decimal is no option

no_equals-more : (b n m : ℕ) → is_ascii_digit b ≡ true → n ≡ m → (if not (b == 61) then 1 + n else 0) ≡ suc m
no_equals-more b n m digit same = grind (arith, nat_tests)

no_equals : (w : List ℕ) → all_ascii_digits w ≡ true → position_or_len (λ b. b == 61) w ≡ length w
no_equals [] digits = refl
no_equals (b ∷ bs) digits =
    let parts = and_parts (is_ascii_digit b) (all_ascii_digits bs) digits in
    let rest : position_or_len (λ b. b == 61) bs ≡ length bs = no_equals bs parts.1 in
    let digit : is_ascii_digit b ≡ true = parts.0 in
    no_equals-more b (position_or_len (λ b. b == 61) bs) (length bs) digit rest

named-dashes : (a : Argument) (w : List ℕ) → option_name a ≡ Some w → get_or w 0 0 ≡ 45
named-dashes = at-option (λ a w. get_or w 0 0 ≡ 45) refl refl refl refl refl refl refl

named-digits : (w : List ℕ) → 0 < length w → all_ascii_digits w ≡ true → named w ≡ None
named-digits [] some digits = absurd (omega arith)
named-digits (b ∷ bs) some digits = go (named (b ∷ bs)) refl
  where
    go : (o : Option Argument) → named (b ∷ bs) ≡ o → o ≡ None
    go None is = refl
    go (Some a) is =
        let digit = (and_parts (is_ascii_digit b) (all_ascii_digits bs) digits).0 in
        let dash : b ≡ 45 = named-dashes a (b ∷ bs) (named-some (b ∷ bs) a is) in
        let bad : is_ascii_digit 45 ≡ true = subst (λ (n : ℕ). is_ascii_digit n ≡ true) dash digit in
        absurd cc

start-number : (g : Given) (v : ℕ) → v < 2 ^ 64 → start g None (decimal v) ≡ give g Number (decimal v)
start-number g v small =
    let digits = all_ascii_digits-decimal v small in
    let no : nat_lt (position_or_len (λ b. b == 61) (decimal v)) (length (decimal v)) ≡ false = not_below _ _ (omega (arith, no_equals (decimal v) digits)) in
    ap (λ t. if t then (named (before_first (λ b. b == 61) (decimal v)) >>= λ a. give g a (after_first (λ b. b == 61) (decimal v))) else plain g (decimal v) (named (decimal v))) no
    ∙ ap (plain g (decimal v)) (named-digits (decimal v) (decimal_nonempty v small) digits)

-- a value in its range

most-small : (a : Argument) → most a < 2 ^ 32
most-small Number = omega arith
most-small MaxOrder = omega arith
most-small MaxDegree = omega arith
most-small MaxBasis = omega arith
most-small MaxTerms = omega arith
most-small MaxRank = omega arith
most-small Tries = omega arith
most-small MaxText = omega arith

abbrev read_part : Option Given → Option Reading
read_part o = o >>= λ t. Some (record { given = t; awaited = None })

give-value : (g : Given) (a : Argument) (v : ℕ) → least a ≤ v → v ≤ most a → give g a (decimal v) ≡ read_part (add g (record { argument = a; value = v }))
unfolding give
give-value g a v above below = go (given_at g a)
  where
    go : (o : Option ℕ) → (if is_some o then None else (number_of (most a) (decimal v) >>= λ v. if nat_lt v (least a) then None else Some (record { given = with_given g a v; awaited = None })))
        ≡ read_part (if is_some o then None else Some (with_given g a v))
    go (Some x) = refl
    go None =
        let number : number_of (most a) (decimal v) ≡ Some v = number_of-decimal (most a) v below (omega (arith, most-small a)) in
        let test : nat_lt v (least a) ≡ false = not_below v (least a) above in
        ap (λ (o : Option ℕ). o >>= λ v. if nat_lt v (least a) then None else Some (record { given = with_given g a v; awaited = None })) number
        ∙ ap (λ t. if t then None else Some (record { given = with_given g a v; awaited = None })) test

record Value (g : Given) (a : Argument) (text : List ℕ) (s : Reading) : Type 0 where
  value : ℕ
  above : least a ≤ value
  below : value ≤ most a
  text_is : text ≡ decimal value
  added : add g (record { argument = a; value = value }) ≡ Some s.given
  settled : s.awaited ≡ None

give-some : (g : Given) (a : Argument) (text : List ℕ) (s : Reading) → give g a text ≡ Some s → Value g a text s
unfolding give
give-some g a text s e = go (given_at g a) refl e
  where
    last : (v : ℕ) (t : Bool) → given_at g a ≡ None → number_of (most a) text ≡ Some v → nat_lt v (least a) ≡ t → (if t then None else Some (record { given = with_given g a v; awaited = None })) ≡ Some s → Value g a text s
    last v true none number test e = absurd cc
    last v false none number test e =
        let read = number_of-some (most a) text v (omega (arith, most-small a)) number in
        let state : record { given = with_given g a v; awaited = None } ≡ s = same_Some _ _ e in
        record {
          value = v;
          above = at_least v (least a) test;
          below = read.0;
          text_is = read.1;
          added = ap (λ (o : Option ℕ). if is_some o then None else Some (with_given g a v)) none ∙ ap (λ (t : Reading). Some t.given) state;
          settled = ap (λ (t : Reading). t.awaited) (sym state);
        }

    next : (o : Option ℕ) → given_at g a ≡ None → number_of (most a) text ≡ o → (o >>= λ v. if nat_lt v (least a) then None else Some (record { given = with_given g a v; awaited = None })) ≡ Some s → Value g a text s
    next None none number e = absurd cc
    next (Some v) none number e = last v (nat_lt v (least a)) none number refl e

    go : (o : Option ℕ) → given_at g a ≡ o → (if is_some o then None else (number_of (most a) text >>= λ v. if nat_lt v (least a) then None else Some (record { given = with_given g a v; awaited = None }))) ≡ Some s → Value g a text s
    go (Some x) is e = absurd cc
    go None is e = next (number_of (most a) text) is refl e

-- reading whole lists of words

abbrev pub read_from : Given → Option Argument → List (List ℕ) → Option Given
read_from g awaited ws = steps (record { given = g; awaited = awaited }) ws >>= λ s. finish s.given s.awaited

-- what is read after a word
abbrev then_read : List (List ℕ) → Option Reading → Option Given
then_read ws o = (o >>= λ s. steps s ws) >>= λ s. finish s.given s.awaited

then_read-part : (ws : List (List ℕ)) (o : Option Given) → then_read ws (read_part o) ≡ (o >>= λ t. read_from t None ws)
then_read-part ws None = refl
then_read-part ws (Some t) = refl

pub Number-only : (a : Argument) → option_name a ≡ None → a ≡ Number
Number-only Number is = refl
Number-only MaxOrder is = absurd cc
Number-only MaxDegree is = absurd cc
Number-only MaxBasis is = absurd cc
Number-only MaxTerms is = absurd cc
Number-only MaxRank is = absurd cc
Number-only Tries is = absurd cc
Number-only MaxText is = absurd cc

read-spelled : (name : Option (List ℕ)) (g : Given) (a : Argument) (v : ℕ) (first rest : List (List ℕ)) → option_name a ≡ name → least a ≤ v → v ≤ most a → IsSpelled name v first
    → read_from g None (first ++ rest) ≡ (add g (record { argument = a; value = v }) >>= λ t. read_from t None rest)
unfolding step_of
read-spelled None g a v first rest named above below spelled =
    let number : a ≡ Number = Number-only a named in
    let word : start g None (decimal v) ≡ give g a (decimal v) = start-number g v (omega (arith, most-small a)) ∙ ap (λ (b : Argument). give g b (decimal v)) (sym number) in
    ap (λ (ws : List (List ℕ)). read_from g None (ws ++ rest)) spelled
    ∙ ap (then_read rest) (word ∙ give-value g a v above below)
    ∙ then_read-part rest (add g (record { argument = a; value = v }))
read-spelled (Some name) g a v first rest named above below (inl two) =
    ap (λ (ws : List (List ℕ)). read_from g None (ws ++ rest)) two
    ∙ ap (then_read (decimal v ∷ rest)) (start-name g a name named)
    ∙ ap (then_read rest) (give-value g a v above below)
    ∙ then_read-part rest (add g (record { argument = a; value = v }))
read-spelled (Some name) g a v first rest named above below (inr one) =
    ap (λ (ws : List (List ℕ)). read_from g None (ws ++ rest)) one
    ∙ ap (then_read rest) (start-both g (decimal v) a name named ∙ give-value g a v above below)
    ∙ then_read-part rest (add g (record { argument = a; value = v }))

bind-same : (o : Option Given) (f h : Given → Option Given) → ((t : Given) → f t ≡ h t) → (o >>= f) ≡ (o >>= h)
bind-same None f h same = refl
bind-same (Some t) f h same = same t

-- the words of parts are read as these parts
pub AreParts-read : (parts : List Part) (ws : List (List ℕ)) (g : Given) → AreParts ws parts → read_from g None ws ≡ adds g parts
AreParts-read [] ws g nothing = ap (read_from g None) nothing
AreParts-read (part ∷ parts) ws g written =
    ap (read_from g None) written.2
    ∙ read-spelled (option_name part.argument) g part.argument part.value written.0 written.1 refl written.3.range.0 written.3.range.1 written.3.spelled
    ∙ bind-same (add g part) (λ t. read_from t None written.1) (λ t. adds t parts) (λ t. AreParts-read parts written.1 t written.4)

-- parts that words write
pub record Written (g : Given) (ws : List (List ℕ)) (t : Given) : Type 0 where
  pub parts : List Part
  pub written : AreParts ws parts
  pub added : adds g parts ≡ Some t

-- the same, where the first word is the value that an option awaits
pub record Awaited (g : Given) (a : Argument) (ws : List (List ℕ)) (t : Given) : Type 0 where
  pub value : ℕ
  pub rest : List (List ℕ)
  pub words : ws ≡ decimal value ∷ rest
  pub above : least a ≤ value
  pub below : value ≤ most a
  pub added : Given
  pub adding : add g (record { argument = a; value = value }) ≡ Some added
  pub others : Written added rest t

abbrev pub WrittenFrom : Given → Option Argument → List (List ℕ) → Given → Type 0
WrittenFrom g None ws t = Written g ws t
WrittenFrom g (Some a) ws t = Awaited g a ws t

Written-part : (g : Given) (part : Part) (first rest ws : List (List ℕ)) (added t : Given) → ws ≡ first ++ rest → IsPart first part → add g part ≡ Some added → Written added rest t → Written g ws t
Written-part g part first rest ws added t is written adding others = record {
  parts = part ∷ others.parts;
  written = (first, rest, is, written, others.written);
  added = ap (λ (o : Option Given). o >>= λ x. adds x others.parts) adding ∙ others.added;
}

IsSpelled-at : (a : Argument) (name : Option (List ℕ)) (v : ℕ) (words : List (List ℕ)) → option_name a ≡ name → IsSpelled name v words → IsSpelled (option_name a) v words
IsSpelled-at a name v words is spelled = subst (λ (o : Option (List ℕ)). IsSpelled o v words) (sym is) spelled

abbrev pub Reads : List (List ℕ) → Type 0
Reads ws = (g : Given) (awaited : Option Argument) (t : Given) → read_from g awaited ws ≡ Some t → WrittenFrom g awaited ws t

-- a word that gives an argument its value
value-read : (g : Given) (a : Argument) (text : List ℕ) (ws : List (List ℕ)) (t : Given) → Reads ws → then_read ws (give g a text) ≡ Some t
    → (s : Given) × (v : ℕ) × (least a ≤ v) × (v ≤ most a) × (text ≡ decimal v) × (add g (record { argument = a; value = v }) ≡ Some s) × Written s ws t
value-read g a text ws t more e = go (give g a text) refl e
  where
    go : (o : Option Reading) → give g a text ≡ o → then_read ws o ≡ Some t → (s : Given) × (v : ℕ) × (least a ≤ v) × (v ≤ most a) × (text ≡ decimal v) × (add g (record { argument = a; value = v }) ≡ Some s) × Written s ws t
    go None is e = absurd cc
    go (Some s) is e =
        let value = give-some g a text s is in
        (s.given, value.value, value.above, value.below, value.text_is, value.added, subst (λ (o : Option Argument). WrittenFrom s.given o ws t) value.settled (more s.given s.awaited t e))

read-awaited : (w : List ℕ) (ws : List (List ℕ)) → Reads ws → (g : Given) (a : Argument) (t : Given) → then_read ws (give g a w) ≡ Some t → Awaited g a (w ∷ ws) t
read-awaited w ws more g a t e =
    let read = value-read g a w ws t more e in
    record { value = read.1; rest = ws; words = ap (λ (x : List ℕ). x ∷ ws) read.4; above = read.2; below = read.3; added = read.0; adding = read.5; others = read.6 }

read-plain : (w : List ℕ) (ws : List (List ℕ)) → Reads ws → (g t : Given) (o : Option Argument) → named w ≡ o → then_read ws (plain g w o) ≡ Some t → Written g (w ∷ ws) t
read-plain w ws more g t None is e =
    let read = value-read g Number w ws t more e in
    Written-part g (record { argument = Number; value = read.1 }) (w ∷ []) ws (w ∷ ws) read.0 t refl (record { range = (read.2, read.3); spelled = ap (λ (x : List ℕ). x ∷ []) read.4 }) read.5 read.6
read-plain w ws more g t (Some a) is e =
    let read = more g (Some a) t e in
    Written-part g (record { argument = a; value = read.value }) (w ∷ decimal read.value ∷ []) read.rest (w ∷ ws) read.added t (ap (λ (x : List (List ℕ)). w ∷ x) read.words)
    (record { range = (read.above, read.below); spelled = IsSpelled-at a (Some w) read.value _ (named-some w a is) (inl refl) }) read.adding read.others

split-at_equals : (w : List ℕ) → nat_lt (position_or_len (λ b. b == 61) w) (length w) ≡ true → w ≡ before_first (λ b. b == 61) w ++ (codes "=" ++ after_first (λ b. b == 61) w)
split-at_equals w test =
    let lt : position_or_len (λ b. b == 61) w < length w = above _ _ test in
    let equals : get_or w (position_or_len (λ b. b == 61) w) 0 ≡ 61 = eqb-true _ _ (passes_at_first (λ b. b == 61) w 0 lt) in
    split_at_first (λ b. b == 61) w 0 lt ∙ ap (λ (b : ℕ). before_first (λ b. b == 61) w ++ (b ∷ after_first (λ b. b == 61) w)) equals
  where
    above : (m n : ℕ) → nat_lt m n ≡ true → m < n
    above m n test = grind (arith, nat_tests)

read-both : (w : List ℕ) (ws : List (List ℕ)) → Reads ws → (g t : Given) (name text : List ℕ) (o : Option Argument) → w ≡ name ++ (codes "=" ++ text) → named name ≡ o
    → then_read ws (o >>= λ a. give g a text) ≡ Some t → Written g (w ∷ ws) t
read-both w ws more g t name text None split is e = absurd cc
read-both w ws more g t name text (Some a) split is e =
    let read = value-read g a text ws t more e in
    let word : w ≡ name ++ (codes "=" ++ decimal read.1) = split ∙ ap (λ (x : List ℕ). name ++ (codes "=" ++ x)) read.4 in
    Written-part g (record { argument = a; value = read.1 }) (w ∷ []) ws (w ∷ ws) read.0 t refl
    (record { range = (read.2, read.3); spelled = IsSpelled-at a (Some name) read.1 _ (named-some name a is) (inr (ap (λ (x : List ℕ). x ∷ []) word)) }) read.5 read.6

read-start : (w : List ℕ) (ws : List (List ℕ)) → Reads ws → (g t : Given) → then_read ws (start g None w) ≡ Some t → Written g (w ∷ ws) t
read-start w ws more g t e = go (nat_lt (position_or_len (λ b. b == 61) w) (length w)) refl e
  where
    go : (b : Bool) → nat_lt (position_or_len (λ b. b == 61) w) (length w) ≡ b
        → then_read ws (if b then (named (before_first (λ b. b == 61) w) >>= λ a. give g a (after_first (λ b. b == 61) w)) else plain g w (named w)) ≡ Some t → Written g (w ∷ ws) t
    go true test e = read-both w ws more g t (before_first (λ b. b == 61) w) (after_first (λ b. b == 61) w) (named (before_first (λ b. b == 61) w)) (split-at_equals w test) refl e
    go false test e = read-plain w ws more g t (named w) refl e

-- words that are read write parts
pub read-written : (ws : List (List ℕ)) → Reads ws
unfolding step_of
read-written [] g None t e = record { parts = []; written = refl; added = e }
read-written [] g (Some a) t e = absurd cc
read-written (w ∷ ws) g None t e = read-start w ws (read-written ws) g t e
read-written (w ∷ ws) g (Some a) t e = read-awaited w ws (read-written ws) g a t e
