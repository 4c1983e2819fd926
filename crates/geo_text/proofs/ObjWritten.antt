-- A text that is made of lines of plain words has these lines and these words.
use Rattle.std.proofs.Common.{◌≡◌, ℕ, ◌+◌, List, [], ◌∷◌, ◌++◌, map, append_assoc, refl, ap, ◌∙◌, arith, Bool, true, false, not}
use Rattle.std.specs.Prelude.{◌&&◌, ◌==◌, filter}
use Rattle.std.specs.List.{list_all, slice_split, onto_first}
use Rattle.std.proofs.lemmas.Bool.{and_parts, and_from}
use Rattle.std.proofs.lemmas.Bool.Decides.{nat_tests}
use Rattle.geo_text.specs.ObjLines.{joined, joint, joints_in, is_filled, is_blank, is_comment, before_comment, words_of, numbered}
use Rattle.geo_text.specs.ObjStatements.{statement_of}
use Rattle.geo_text.specs.ObjMeaning.{Said, said_by}
use Rattle.geo_text.specs.ObjScan.{is_line_feed}
use Rattle.geo_text.specs.ObjWords.{words_text, lines_text, is_plain_byte, is_plain_word, are_plain_words}

not_false : (b : Bool) → not b ≡ true → b ≡ false
not_false true h = cc
not_false false h = refl

-- ---- no backslash, so no joint
abbrev no_backslash : List ℕ → Bool
no_backslash text = list_all (λ b. not (b == 92)) text

pub joined_plain : (text rest : List ℕ) → no_backslash text ≡ true → joined (text ++ rest) ≡ text ++ joined rest
joined_plain [] rest h = refl
joined_plain (b ∷ text) rest h =
    let parts = and_parts (not (b == 92)) (no_backslash text) h in
    let plain : (b == 92) ≡ false = not_false (b == 92) parts.0 in
    rw plain (ap (λ l. b ∷ l) (joined_plain text rest parts.1))

-- ---- the words of a line
abbrev is_inside : List ℕ → Bool
is_inside word = list_all is_plain_byte word

inside_of : (word : List ℕ) → is_plain_word word ≡ true → is_inside word ≡ true
inside_of [] h = cc
inside_of (b ∷ word) h = (and_parts (not (b == 35)) (is_inside (b ∷ word)) h).1

filled_of : (word : List ℕ) → is_plain_word word ≡ true → is_filled word ≡ true
filled_of [] h = cc
filled_of (b ∷ word) h = refl

no_comment : (word : List ℕ) → is_plain_word word ≡ true → is_comment word ≡ false
no_comment [] h = cc
no_comment (b ∷ word) h = not_false (b == 35) (and_parts (not (b == 35)) (is_inside (b ∷ word)) h).0

byte_blank : (b : ℕ) → is_plain_byte b ≡ true → is_blank b ≡ false
byte_blank b h = grind (arith, nat_tests)

byte_end : (b : ℕ) → is_plain_byte b ≡ true → is_line_feed b ≡ false
byte_end b h = grind (arith, nat_tests)

byte_plain : (b : ℕ) → is_plain_byte b ≡ true → not (b == 92) ≡ true
byte_plain b h = grind (arith, nat_tests)

byte_single : (b : ℕ) → is_plain_byte b ≡ true → (b == joint) ≡ false
byte_single b h = grind (arith, nat_tests)

one_word : (word : List ℕ) → is_inside word ≡ true → slice_split is_blank word ≡ word ∷ []
one_word [] h = refl
one_word (b ∷ word) h =
    let parts = and_parts (is_plain_byte b) (is_inside word) h in
    rw (byte_blank b parts.0) (ap (onto_first b) (one_word word parts.1))

word_before : (word rest : List ℕ) → is_inside word ≡ true → slice_split is_blank (word ++ 32 ∷ rest) ≡ word ∷ slice_split is_blank rest
word_before [] rest h = refl
word_before (b ∷ word) rest h =
    let parts = and_parts (is_plain_byte b) (is_inside word) h in
    rw (byte_blank b parts.0) (ap (onto_first b) (word_before word rest parts.1))

split_words : (word : List ℕ) (words : List (List ℕ)) → are_plain_words (word ∷ words) ≡ true → slice_split is_blank (words_text (word ∷ words)) ≡ word ∷ words
split_words word [] h = one_word word (inside_of word (and_parts (is_plain_word word) true h).0)
split_words word (next ∷ words) h =
    let parts = and_parts (is_plain_word word) (are_plain_words (next ∷ words)) h in
    word_before word (words_text (next ∷ words)) (inside_of word parts.0) ∙ ap (λ l. word ∷ l) (split_words next words parts.1)

kept_words : (words : List (List ℕ)) → are_plain_words words ≡ true → before_comment (filter is_filled words) ≡ words
kept_words [] h = refl
kept_words (w ∷ words) h =
    let parts = and_parts (is_plain_word w) (are_plain_words words) h in
    rw (filled_of w parts.0, no_comment w parts.0) (ap (λ l. w ∷ l) (kept_words words parts.1))

pub words_written : (words : List (List ℕ)) → are_plain_words words ≡ true → words_of (words_text words) ≡ words
words_written [] h = refl
words_written (w ∷ words) h = ap (λ l. before_comment (filter is_filled l)) (split_words w words h) ∙ kept_words (w ∷ words) h

-- ---- the lines of a text
abbrev is_in_line : ℕ → Bool
is_in_line b = not (is_line_feed b) && not (b == 92) && not (b == joint)

byte_in_line : (b : ℕ) → is_plain_byte b ≡ true → is_in_line b ≡ true
byte_in_line b h = grind (arith, nat_tests)

in_line_append : (xs ys : List ℕ) → list_all is_in_line xs ≡ true → list_all is_in_line ys ≡ true → list_all is_in_line (xs ++ ys) ≡ true
in_line_append [] ys a b = b
in_line_append (x ∷ xs) ys a b = let parts = and_parts (is_in_line x) (list_all is_in_line xs) a in and_from (is_in_line x) (list_all is_in_line (xs ++ ys)) parts.0 (in_line_append xs ys parts.1 b)

word_in_line : (word : List ℕ) → is_inside word ≡ true → list_all is_in_line word ≡ true
word_in_line [] h = refl
word_in_line (b ∷ word) h = let parts = and_parts (is_plain_byte b) (is_inside word) h in and_from (is_in_line b) (list_all is_in_line word) (byte_in_line b parts.0) (word_in_line word parts.1)

words_in_line : (words : List (List ℕ)) → are_plain_words words ≡ true → list_all is_in_line (words_text words) ≡ true
words_in_line [] h = refl
words_in_line (w ∷ []) h = word_in_line w (inside_of w (and_parts (is_plain_word w) true h).0)
words_in_line (w ∷ next ∷ words) h =
    let parts = and_parts (is_plain_word w) (are_plain_words (next ∷ words)) h in
    in_line_append w (32 ∷ words_text (next ∷ words)) (word_in_line w (inside_of w parts.0)) (words_in_line (next ∷ words) parts.1)

line_unjoined : (line rest : List ℕ) → list_all is_in_line line ≡ true → joined (line ++ rest) ≡ line ++ joined rest
line_unjoined [] rest h = refl
line_unjoined (b ∷ line) rest h =
    let parts = and_parts (is_in_line b) (list_all is_in_line line) h in
    let plain : (b == 92) ≡ false = grind (arith, nat_tests) in
    rw plain (ap (λ l. b ∷ l) (line_unjoined line rest parts.1))

line_before : (line rest : List ℕ) → list_all is_in_line line ≡ true → slice_split is_line_feed (line ++ 10 ∷ rest) ≡ line ∷ slice_split is_line_feed rest
line_before [] rest h = refl
line_before (b ∷ line) rest h =
    let parts = and_parts (is_in_line b) (list_all is_in_line line) h in
    let goes : is_line_feed b ≡ false = grind (arith, nat_tests) in
    rw goes (ap (onto_first b) (line_before line rest parts.1))

no_joints : (line : List ℕ) → list_all is_in_line line ≡ true → joints_in line ≡ 0
no_joints [] h = refl
no_joints (b ∷ line) h =
    let parts = and_parts (is_in_line b) (list_all is_in_line line) h in
    let single : (b == joint) ≡ false = grind (arith, nat_tests) in
    rw single (let rest = no_joints line parts.1 in omega (arith, rest))

abbrev pub are_plain_lines : List (List (List ℕ)) → Bool
are_plain_lines lines = list_all are_plain_words lines

-- what lines of these words say, from a number on; behind the last stands a line without words
abbrev pub said_words : ℕ → List (List (List ℕ)) → List Said
said_words number [] = record { line = number; statement = statement_of [] } ∷ []
said_words number (words ∷ lines) = record { line = number; statement = statement_of words } ∷ said_words (number + 1) lines

pub one_text : (words : List (List ℕ)) (lines : List (List (List ℕ))) → lines_text (words ∷ lines) ≡ words_text words ++ 10 ∷ lines_text lines
one_text words lines = append_assoc (words_text words) (10 ∷ []) (lines_text lines)

pub said_written : (number : ℕ) (lines : List (List (List ℕ))) → are_plain_lines lines ≡ true → map said_by (numbered number (slice_split is_line_feed (joined (lines_text lines)))) ≡ said_words number lines
said_written number [] h = refl
said_written number (words ∷ lines) h =
    let parts = and_parts (are_plain_words words) (are_plain_lines lines) h in
    let line = words_text words in
    let inside = words_in_line words parts.0 in
    let joints = no_joints line inside in
    let rest = joined (lines_text lines) in
    let next : number + (joints_in line + 1) ≡ number + 1 = omega (arith, joints) in
    ap (λ t. map said_by (numbered number (slice_split is_line_feed (joined t)))) (one_text words lines)
    ∙ ap (λ t. map said_by (numbered number (slice_split is_line_feed t))) (line_unjoined line (10 ∷ lines_text lines) inside)
    ∙ ap (λ l. map said_by (numbered number l)) (line_before line rest inside)
    ∙ ap (λ w. record { line = number; statement = statement_of w } ∷ map said_by (numbered (number + (joints_in line + 1)) (slice_split is_line_feed rest))) (words_written words parts.0)
    ∙ ap (λ n. record { line = number; statement = statement_of words } ∷ map said_by (numbered n (slice_split is_line_feed rest))) next
    ∙ ap (λ l. record { line = number; statement = statement_of words } ∷ l) (said_written (number + 1) lines parts.1)
