-- A text is read as an atom exactly where it is spelled as one.
use Rattle.std.proofs.Common.{◌≡◌, ◌≢◌, ℕ, ◌<◌, Bool, true, false, List, [], ◌∷◌, ◌++◌, length, refl, sym, ap, ◌∙◌, subst, Option, Some, None, arith, inl, inr}
use Rattle.std.specs.Prelude.{◌&&◌, ◌||◌, nat_le, nat_lt, if◌then◌else◌, is_some, cond, position, codes, bytes_eq}
use Rattle.std.specs.List.{list_all, position_or_len}
use Rattle.std.specs.Char.{is_ascii_digit}
use Rattle.std.proofs.lemmas.Bool.{and_parts, and_from, lt-ltb, le-ltb, ltb-true, cases_Bool, false_from_ne_true}
use Rattle.std.proofs.lemmas.Bool.Decides.{nat_tests}
use Rattle.std.proofs.lemmas.Slice.Eq.{bytes_eq-Decides}
use Rattle.std.specs.Char.{is_ascii_digit}
use Rattle.sop_model.specs.Limits.{most_name_bytes}
use Rattle.sop_model.specs.Names.{starts_name, continues_name, is_name}
use Rattle.sop_pattern.specs.declared.word.Atom.{Atom}
use Rattle.sop_pattern.specs.declared.word.Atom.TheVariants.{Number, Range, Step, Cycle, All, Group, Groups}
use Rattle.sop_pattern.specs.Words.{atom_of, named_atom, numbers_of, range_of, step_of, cycle_of, number_in, before, behind, is_wild, is_wild_byte}
use Rattle.sop_pattern.specs.Spelling.{IsNumber, IsRange, IsStep, IsCycle, IsWild, IsAtom, begins_with_digit}
use Rattle.sop_pattern.proofs.Cuts.{number_is, number_from, before_at, behind_at, before_nowhere, behind_nowhere, cut_whole, uncut}

some_is : (a b : Atom) → Some a ≡ Some b → a ≡ b
some_is a b e = cc

-- ---- what is read is spelled
module _ (word : List ℕ) (atom : Atom) where
  positive_atom : (s : ℕ) (a : Atom) → (0 < s → IsAtom word a) → (if nat_lt 0 s then Some a else None) ≡ Some atom → IsAtom word atom
  positive_atom s a spelled e = chosen (nat_lt 0 s) refl e
    where
      chosen : (b : Bool) → nat_lt 0 s ≡ b → (if b then Some a else None) ≡ Some atom → IsAtom word atom
      chosen true is f = subst (IsAtom word) (some_is a atom f) (spelled (ltb-true 0 s is))
      chosen false is f = absurd cc

  cycle_spelled : (n m a : ℕ) (first last taken rest : List ℕ) → IsNumber first n → IsNumber last m → IsNumber taken a → word ≡ first ++ 45 ∷ (last ++ 58 ∷ (taken ++ 44 ∷ rest))
      → (o : Option ℕ) → number_in rest ≡ o → cycle_of n m a o ≡ Some atom → IsAtom word atom
  cycle_spelled n m a first last taken rest hn hm ha whole None is e = absurd cc
  cycle_spelled n m a first last taken rest hn hm ha whole (Some b) is e =
      positive_atom b (Cycle n m a b) (λ pos. record { first = first; last = last; taken = taken; every = rest; first_is = hn; last_is = hm; taken_is = ha; every_is = number_is rest b is; positive = pos; whole = whole }) e

  step_spelled : (n m : ℕ) (first last rest : List ℕ) → IsNumber first n → IsNumber last m → word ≡ first ++ 45 ∷ (last ++ 58 ∷ rest)
      → (o : Option ℕ) (r : Option (List ℕ)) → number_in (before 44 rest) ≡ o → behind 44 rest ≡ r → step_of n m o r ≡ Some atom → IsAtom word atom
  step_spelled n m first last rest hn hm whole None r is cut e = absurd cc
  step_spelled n m first last rest hn hm whole (Some s) None is cut e =
      positive_atom s (Step n m s) (λ pos. record {
        first = first;
        last = last;
        step = rest;
        first_is = hn;
        last_is = hm;
        step_is = subst (λ t. IsNumber t s) (uncut 44 rest cut) (number_is (before 44 rest) s is);
        positive = pos;
        whole = whole;
      }) e
  step_spelled n m first last rest hn hm whole (Some a) (Some more) is cut e =
      cycle_spelled n m a first last (before 44 rest) more hn hm (number_is (before 44 rest) a is)
      (whole ∙ ap (λ t. first ++ 45 ∷ (last ++ 58 ∷ t)) (cut_whole 44 rest more cut)) (number_in more) refl e

  range_spelled : (n : ℕ) (first rest : List ℕ) → IsNumber first n → word ≡ first ++ 45 ∷ rest
      → (o : Option ℕ) (r : Option (List ℕ)) → number_in (before 58 rest) ≡ o → behind 58 rest ≡ r → range_of n o r ≡ Some atom → IsAtom word atom
  range_spelled n first rest hn whole None r is cut e = absurd cc
  range_spelled n first rest hn whole (Some m) None is cut e =
      subst (IsAtom word) (some_is (Range n m) atom e) (record {
        first = first;
        last = rest;
        first_is = hn;
        last_is = subst (λ t. IsNumber t m) (uncut 58 rest cut) (number_is (before 58 rest) m is);
        whole = whole;
      })
  range_spelled n first rest hn whole (Some m) (Some more) is cut e =
      step_spelled n m first (before 58 rest) more hn (number_is (before 58 rest) m is)
      (whole ∙ ap (λ t. first ++ 45 ∷ t) (cut_whole 58 rest more cut)) (number_in (before 44 more)) (behind 44 more) refl refl e

  numbers_spelled : (o : Option ℕ) (r : Option (List ℕ)) → number_in (before 45 word) ≡ o → behind 45 word ≡ r → numbers_of o r ≡ Some atom → IsAtom word atom
  numbers_spelled None r is cut e = absurd cc
  numbers_spelled (Some n) None is cut e =
      subst (IsAtom word) (some_is (Number n) atom e) (subst (λ t. IsNumber t n) (uncut 45 word cut) (number_is (before 45 word) n is))
  numbers_spelled (Some n) (Some rest) is cut e =
      range_spelled n (before 45 word) rest (number_is (before 45 word) n is) (cut_whole 45 word rest cut) (number_in (before 58 rest)) (behind 58 rest) refl refl e

  named_spelled : begins_with_digit word ≡ false → named_atom word ≡ Some atom → IsAtom word atom
  named_spelled no_digit e = chosen (bytes_eq word (codes "*")) (is_name word) (is_wild word) refl refl refl e
    where
      chosen : (a b c : Bool) → bytes_eq word (codes "*") ≡ a → is_name word ≡ b → is_wild word ≡ c
          → (if a then Some All else if b then Some (Group word) else if c then Some (Groups word) else None) ≡ Some atom → IsAtom word atom
      chosen true b c ea eb ec f = subst (IsAtom word) (some_is All atom f) ((bytes_eq-Decides word (codes "*")).0 ea)
      chosen false true c ea eb ec f = subst (IsAtom word) (some_is (Group word) atom f) (eb, refl)
      chosen false false true ea eb ec f =
          let other : word ≢ codes "*" = λ same. (let no : false ≡ true = sym ea ∙ (bytes_eq-Decides word (codes "*")).1 same in absurd cc) in
          subst (IsAtom word) (some_is (Groups word) atom f) (record { wild = ec; no_digit = no_digit; not_all = other }, refl)
      chosen false false false ea eb ec f = absurd cc

pub atom_is_spelled : (word : List ℕ) (atom : Atom) → atom_of word ≡ Some atom → IsAtom word atom
atom_is_spelled [] atom e = absurd cc
atom_is_spelled (b ∷ rest) atom e = chosen (is_ascii_digit b) refl e
  where
    chosen : (d : Bool) → is_ascii_digit b ≡ d → (if d then numbers_of (number_in (before 45 (b ∷ rest))) (behind 45 (b ∷ rest)) else named_atom (b ∷ rest)) ≡ Some atom → IsAtom (b ∷ rest) atom
    chosen true is f = numbers_spelled (b ∷ rest) atom (number_in (before 45 (b ∷ rest))) (behind 45 (b ∷ rest)) refl refl f
    chosen false is f = named_spelled (b ∷ rest) atom is f

-- ---- what is spelled is read
digit_atom : (word : List ℕ) → begins_with_digit word ≡ true → atom_of word ≡ numbers_of (number_in (before 45 word)) (behind 45 word)
digit_atom [] h = absurd cc
digit_atom (b ∷ rest) h = rw h

named_is : (word : List ℕ) → 0 < length word → begins_with_digit word ≡ false → atom_of word ≡ named_atom word
named_is [] some h = absurd (omega arith)
named_is (b ∷ rest) some h = rw h

digits_begin : (x rest : List ℕ) (n : ℕ) → IsNumber x n → begins_with_digit (x ++ rest) ≡ true
digits_begin [] rest n is = absurd (omega (arith, is.some))
digits_begin (d ∷ x) rest n is = (and_parts (is_ascii_digit d) (list_all is_ascii_digit x) is.digits).0

number_begins : (x : List ℕ) (n : ℕ) → IsNumber x n → begins_with_digit x ≡ true
number_begins [] n is = absurd (omega (arith, is.some))
number_begins (d ∷ x) n is = (and_parts (is_ascii_digit d) (list_all is_ascii_digit x) is.digits).0

-- a number before a mark, and what stands behind it
cut_number : (mark : ℕ) (x y : List ℕ) (n : ℕ) → is_ascii_digit mark ≡ false → IsNumber x n → (number_in (before mark (x ++ mark ∷ y)) ≡ Some n) × (behind mark (x ++ mark ∷ y) ≡ Some y)
cut_number mark x y n off is = (ap number_in (before_at mark x y off is.digits) ∙ number_from x n is, behind_at mark x y off is.digits)

last_number : (mark : ℕ) (x : List ℕ) (n : ℕ) → is_ascii_digit mark ≡ false → IsNumber x n → (number_in (before mark x) ≡ Some n) × (behind mark x ≡ None)
last_number mark x n off is = (ap number_in (before_nowhere mark x off is.digits) ∙ number_from x n is, behind_nowhere mark x off is.digits)

positive_is : (s : ℕ) (a : Atom) → 0 < s → (if nat_lt 0 s then Some a else None) ≡ Some a
positive_is s a h = let yes : nat_lt 0 s ≡ true = lt-ltb 0 s h in rw yes

first_cut : (x y : List ℕ) (n : ℕ) → IsNumber x n → atom_of (x ++ 45 ∷ y) ≡ range_of n (number_in (before 58 y)) (behind 58 y)
first_cut x y n is =
    let cut = cut_number 45 x y n refl is in
    digit_atom (x ++ 45 ∷ y) (digits_begin x (45 ∷ y) n is) ∙ ap (λ o. numbers_of o (behind 45 (x ++ 45 ∷ y))) cut.0 ∙ ap (numbers_of (Some n)) cut.1

second_cut : (n m : ℕ) (x y : List ℕ) → IsNumber x m → range_of n (number_in (before 58 (x ++ 58 ∷ y))) (behind 58 (x ++ 58 ∷ y)) ≡ step_of n m (number_in (before 44 y)) (behind 44 y)
second_cut n m x y is =
    let cut = cut_number 58 x y m refl is in
    ap (λ o. range_of n o (behind 58 (x ++ 58 ∷ y))) cut.0 ∙ ap (range_of n (Some m)) cut.1

number_read : (word : List ℕ) (n : ℕ) → IsNumber word n → atom_of word ≡ Some (Number n)
number_read word n is =
    let cut = last_number 45 word n refl is in
    digit_atom word (number_begins word n is) ∙ ap (λ o. numbers_of o (behind 45 word)) cut.0 ∙ ap (numbers_of (Some n)) cut.1

range_read : (word : List ℕ) (n m : ℕ) → IsRange word n m → atom_of word ≡ Some (Range n m)
range_read word n m is =
    let cut = last_number 58 is.last m refl is.last_is in
    ap atom_of is.whole ∙ first_cut is.first is.last n is.first_is ∙ ap (λ o. range_of n o (behind 58 is.last)) cut.0 ∙ ap (range_of n (Some m)) cut.1

step_read : (word : List ℕ) (n m s : ℕ) → IsStep word n m s → atom_of word ≡ Some (Step n m s)
step_read word n m s is =
    let cut = last_number 44 is.step s refl is.step_is in
    ap atom_of is.whole ∙ first_cut is.first (is.last ++ 58 ∷ is.step) n is.first_is ∙ second_cut n m is.last is.step is.last_is
    ∙ ap (λ o. step_of n m o (behind 44 is.step)) cut.0 ∙ ap (step_of n m (Some s)) cut.1 ∙ positive_is s (Step n m s) is.positive

cycle_read : (word : List ℕ) (n m a b : ℕ) → IsCycle word n m a b → atom_of word ≡ Some (Cycle n m a b)
cycle_read word n m a b is =
    let cut = cut_number 44 is.taken is.every a refl is.taken_is in
    ap atom_of is.whole ∙ first_cut is.first (is.last ++ 58 ∷ (is.taken ++ 44 ∷ is.every)) n is.first_is ∙ second_cut n m is.last (is.taken ++ 44 ∷ is.every) is.last_is
    ∙ ap (λ o. step_of n m o (behind 44 (is.taken ++ 44 ∷ is.every))) cut.0 ∙ ap (step_of n m (Some a)) cut.1
    ∙ ap (cycle_of n m a) (number_from is.every b is.every_is) ∙ positive_is b (Cycle n m a b) is.positive

-- names
no_digit_starts : (b : ℕ) → starts_name b ≡ true → is_ascii_digit b ≡ false
no_digit_starts b h = grind (arith, nat_tests)

group_read : (word : List ℕ) → is_name word ≡ true → atom_of word ≡ Some (Group word)
group_read [] h = absurd cc
group_read (b ∷ rest) h =
    let starts = (and_parts (starts_name b) (list_all continues_name rest) (and_parts (starts_name b && list_all continues_name rest) (nat_le (length (b ∷ rest)) most_name_bytes) h).0).0 in
    let no_digit = no_digit_starts b starts in
    let other : bytes_eq (b ∷ rest) (codes "*") ≡ false = not_star (b ∷ rest) h in
    named_is (b ∷ rest) (omega arith) no_digit ∙ ap (λ x. if x then Some All else if is_name (b ∷ rest) then Some (Group (b ∷ rest)) else if is_wild (b ∷ rest) then Some (Groups (b ∷ rest)) else None) other
    ∙ ap (λ x. if x then Some (Group (b ∷ rest)) else if is_wild (b ∷ rest) then Some (Groups (b ∷ rest)) else None) h
  where
    not_star : (word : List ℕ) → is_name word ≡ true → bytes_eq word (codes "*") ≡ false
    not_star word named = elim (cases_Bool (bytes_eq word (codes "*"))) [
      | inl same ↦ (let no : is_name (codes "*") ≡ true = ap is_name (sym ((bytes_eq-Decides word (codes "*")).0 same)) ∙ named in absurd cc)
      | inr other ↦ other
    ]

-- a name has no `*` or `?`
plain_byte : (b : ℕ) → continues_name b ≡ true → is_wild_byte b ≡ false
plain_byte b h = grind (arith, nat_tests)

starts_continue : (b : ℕ) → starts_name b ≡ true → continues_name b ≡ true
starts_continue b h = rw h

no_wild : (word : List ℕ) → list_all continues_name word ≡ true → position_or_len is_wild_byte word ≡ length word
no_wild [] h = refl
no_wild (b ∷ word) h =
    let parts = and_parts (continues_name b) (list_all continues_name word) h in
    let plain = plain_byte b parts.0 in
    let later = no_wild word parts.1 in
    rw plain (omega (arith, later))

wild_is_no_name : (word : List ℕ) → is_wild word ≡ true → is_name word ≡ false
wild_is_no_name [] h = refl
wild_is_no_name (b ∷ rest) h = elim (cases_Bool (is_name (b ∷ rest))) [
  | inl named ↦
      (let front = and_parts (starts_name b) (list_all continues_name rest) (and_parts (starts_name b && list_all continues_name rest) (nat_le (length (b ∷ rest)) most_name_bytes) named).0 in
      let all = and_from (continues_name b) (list_all continues_name rest) (starts_continue b front.0) front.1 in
      let past : nat_lt (length (b ∷ rest)) (length (b ∷ rest)) ≡ false = le-ltb (length (b ∷ rest)) (length (b ∷ rest)) (omega arith) in
      let none : is_some (position is_wild_byte (b ∷ rest)) ≡ false =
      ap (λ n. is_some (cond (nat_lt n (length (b ∷ rest))) (Some n) None)) (no_wild (b ∷ rest) all) ∙ ap (λ x. is_some (cond x (Some (length (b ∷ rest))) None)) past in
      let some = (and_parts (list_all (λ d. continues_name d || is_wild_byte d) (b ∷ rest)) (is_some (position is_wild_byte (b ∷ rest))) h).1 in
      let no : true ≡ false = sym some ∙ none in
      absurd cc)
  | inr other ↦ other
]

wild_filled : (word : List ℕ) → is_wild word ≡ true → 0 < length word
wild_filled [] h = absurd cc
wild_filled (b ∷ rest) h = omega arith

groups_read : (word : List ℕ) → IsWild word → atom_of word ≡ Some (Groups word)
groups_read word is =
    let other : bytes_eq word (codes "*") ≡ false = false_from_ne_true (bytes_eq word (codes "*")) (λ same. is.not_all ((bytes_eq-Decides word (codes "*")).0 same)) in
    named_is word (wild_filled word is.wild) is.no_digit
    ∙ ap (λ x. if x then Some All else if is_name word then Some (Group word) else if is_wild word then Some (Groups word) else None) other
    ∙ ap (λ x. if x then Some (Group word) else if is_wild word then Some (Groups word) else None) (wild_is_no_name word is.wild)
    ∙ ap (λ x. if x then Some (Groups word) else None) is.wild

pub spelled_is_atom : (word : List ℕ) (atom : Atom) → IsAtom word atom → atom_of word ≡ Some atom
spelled_is_atom word (Number n) is = number_read word n is
spelled_is_atom word (Range n m) is = range_read word n m is
spelled_is_atom word (Step n m s) is = step_read word n m s is
spelled_is_atom word (Cycle n m a b) is = cycle_read word n m a b is
spelled_is_atom word All is = ap atom_of is
spelled_is_atom word (Group name) is = group_read word is.0 ∙ ap (λ t. Some (Group t)) is.1
spelled_is_atom word (Groups pattern) is = groups_read word is.0 ∙ ap (λ t. Some (Groups t)) is.1
